-- `rows::check_each_row` meets its contract. Assumes nothing.
use mathlib.Core.Path.{sym, ◌∙◌}
use mathlib.Core.Logic.{inl}
use native.Mathlib.Omega.{arith}
use Rattle.rows.proofs.RowList.{rows_length}
use Rattle.rows.proofs.Checking.{start, bad, more}
use Rattle.rows.proofs.check_each_row.Goals as goal

pub loop-i-init : goal.loop-i-init
loop-i-init c =
    rw (c.into_iter-i-iterator.ensures.into_iter_gives, c.enumerate-i-items.ensures.source, c.enumerate-i-items.ensures.count, c.of.ensures)
    ((tt, tt, inl (omega (arith, rows_length c.args.rows.now))), tt, start c.args.rows.now c.args.size)

pub returns-then-is_bad : goal.returns-then-is_bad
returns-then-is_bad c = rw c.in-Some.ensures.steps.1 (bad c.loop-i.invariant.2 c.in-Some.ensures.steps.0 (sym c.is_bad.ensures ∙ c.if-is_bad.true))

pub loop-i-preserved : goal.loop-i-preserved
loop-i-preserved c =
    let s = c.in-Some.ensures.steps in
    let m = more c.loop-i.invariant.2 s.0 (sym c.is_bad.ensures ∙ c.if-is_bad.false) c.what-before.result c.what-before.ensures in
    rw s.2 ((tt, tt, inl (omega (arith, m.place))), tt, m)
