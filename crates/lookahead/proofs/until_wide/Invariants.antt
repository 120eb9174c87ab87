use Prim.Native.Nat.{◌≤◌}
use lib.ListN.{length}
use Rattle.rows.specs.RowsLeft.{rows_left}
use Rattle.lookahead.proofs.Measuring.{Measuring}
use Rattle.lookahead.proofs.until_wide.Given as goal

abbrev pub invariant-loop-row : goal.invariant-loop-row
invariant-loop-row l = Measuring l.rows l.span l.m (rows_left l.left) × (l.m.width ≤ l.limit)

abbrev pub decreases-loop-row : goal.decreases-loop-row
decreases-loop-row l = length (rows_left l.left)
