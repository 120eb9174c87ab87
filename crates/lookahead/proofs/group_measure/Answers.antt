-- `lookahead::group_measure` meets its contract. Assumes nothing.
use mathlib.Core.Path.{sym, ap, ◌∙◌}
use native.Mathlib.Omega.{arith}
use Rattle.rows.specs.Row.{rows_of}
use Rattle.rows.proofs.RowList.{rows_length}
use Rattle.lookahead.proofs.Said.{group-none, group_said}
use Rattle.lookahead.specs.Scan.{measure_rows}
use Rattle.lookahead.specs.Measure.{start}
use Rattle.lookahead.proofs.group_measure.Goals as goal

pub returns-then-rows-gt-MOST_ROW_BYTES : goal.returns-then-rows-gt-MOST_ROW_BYTES
returns-then-rows-gt-MOST_ROW_BYTES c = group-none c.args.rows.now c.if-rows-gt-MOST_ROW_BYTES.true

pub returns : goal.returns
returns c =
    let u = c.until_wide.ensures in
    let w = u.whole (omega (arith, u.few.width, rows_length c.args.rows.now, c.if-rows-gt-MOST_ROW_BYTES.false)) in
    group_said c.args.rows.now c.if-rows-gt-MOST_ROW_BYTES.false c.until_wide.result.0 (sym w ∙ ap (λ s. measure_rows s start (rows_of c.args.rows.now)) c.group.ensures)
