use mathlib.Core.Path.{◌≡◌}
use Prim.Native.Nat.{◌≤◌, ◌/◌}
use lib.ListN.{length}
use Rattle.rows.specs.Row.{rows_of}
use Rattle.rows.specs.RowsLeft.{rows_left}
use Rattle.lookahead.specs.Scan.{up_to_last}
use Rattle.lookahead.proofs.after_last.Given as goal

abbrev pub invariant-loop-row : goal.invariant-loop-row
invariant-loop-row l = (up_to_last l.kind (rows_left l.before) ≡ up_to_last l.kind (rows_of l.rows)) × (length (rows_left l.before) ≤ length l.rows / 16)

abbrev pub decreases-loop-row : goal.decreases-loop-row
decreases-loop-row l = length (rows_left l.before)
