use Rattle.rows.specs.RowsLeft.{rows_left}
use Rattle.rows.proofs.Checking.{State}
use Rattle.rows.proofs.check_each_row.Given as goal

abbrev pub invariant-loop-i : goal.invariant-loop-i
invariant-loop-i l =
    (goal.iterator-loop-i).can_next l.i-iterator × (goal.iterator-loop-i).is_finite l.i-iterator
    × State l.rows l.size l.before (rows_left l.i-iterator.iter) l.i-iterator.count
