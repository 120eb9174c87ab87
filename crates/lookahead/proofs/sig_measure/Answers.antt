-- `lookahead::sig_measure` meets its contract. Assumes nothing.
use mathlib.Core.Path.{sym}
use native.Mathlib.Omega.{arith}
use Rattle.rows.proofs.RowList.{rows_length}
use Rattle.lookahead.proofs.Said.{sig_none, no_params, some_params}
use Rattle.lookahead.proofs.sig_measure.Goals as goal

pub returns-then-rows-gt-MOST_ROW_BYTES : goal.returns-then-rows-gt-MOST_ROW_BYTES
returns-then-rows-gt-MOST_ROW_BYTES c = sig_none c.args.rows.now c.if-rows-gt-MOST_ROW_BYTES.true

pub returns-then-m-eq0 : goal.returns-then-m-eq0
returns-then-m-eq0 c =
    let u = c.until_wide.ensures in
    no_params c.args.rows.now c.if-rows-gt-MOST_ROW_BYTES.false c.until_wide.result.0 (sym (u.whole (omega (arith, u.few.width, rows_length c.args.rows.now, c.if-rows-gt-MOST_ROW_BYTES.false)))) c.if-m-eq0.true

pub overflow_add-result : goal.overflow_add-result
overflow_add-result c = record { fits = omega (arith, c.until_wide.ensures.few.commas, rows_length c.args.rows.now) }

pub returns : goal.returns
returns c =
    let u = c.until_wide.ensures in
    some_params c.args.rows.now c.if-rows-gt-MOST_ROW_BYTES.false c.until_wide.result.0 (sym (u.whole (omega (arith, u.few.width, rows_length c.args.rows.now, c.if-rows-gt-MOST_ROW_BYTES.false)))) c.if-m-eq0.false
