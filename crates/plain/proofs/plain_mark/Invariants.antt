use Prim.Native.Nat.{◌-◌}
use lib.ListN.{length}
use Rattle.plain.specs.LookBack.{FitsTo}
use Rattle.plain.proofs.plain_mark.Given as goal

abbrev pub invariant-loop-at : goal.invariant-loop-at
invariant-loop-at l = FitsTo l.rows l.text 0 l.at

abbrev pub decreases-loop-at : goal.decreases-loop-at
decreases-loop-at l = length l.rows - l.at
