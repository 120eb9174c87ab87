-- `lookahead::total_width` meets its contract. Assumes nothing.
use mathlib.Core.Path.{sym, ◌∙◌}
use native.Mathlib.Omega.{arith}
use Rattle.rows.proofs.RowList.{rows_length}
use Rattle.lookahead.proofs.Narrow.{wider, no_wider, one_less, no_width}
use Rattle.lookahead.proofs.total_width.Goals as goal

pub overflow_add-width-then-is_token : goal.overflow_add-width-then-is_token
overflow_add-width-then-is_token c =
    record { fits = omega (arith, c.loop-row.invariant.1, c.size_of.ensures.1, rows_length c.args.rows.now, c.requires) }

pub loop-row-preserved-then-is_token : goal.loop-row-preserved-then-is_token
loop-row-preserved-then-is_token c =
    let e = c.in-Some.ensures.steps in
    let w = wider e (sym c.is_token.ensures ∙ c.if-is_token.true) c.size_of.ensures.0 in
    let l = one_less e in
    (omega (arith, c.loop-row.invariant.0, w), omega (arith, c.loop-row.invariant.1, l, c.size_of.ensures.1))

pub loop-row-preserved : goal.loop-row-preserved
loop-row-preserved c =
    let e = c.in-Some.ensures.steps in
    let w = no_wider e (sym c.is_token.ensures ∙ c.if-is_token.false) in
    let l = one_less e in
    (omega (arith, c.loop-row.invariant.0, w), omega (arith, c.loop-row.invariant.1, l))

pub returns : goal.returns
returns c = let w = no_width c.in-None.ensures.steps.0 in omega (arith, c.loop-row.invariant.0, w)
