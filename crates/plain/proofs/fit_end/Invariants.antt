use Prim.Native.Nat.{◌-◌}
use lib.ListN.{length}
use Rattle.plain.proofs.Pass.{Passed}
use Rattle.plain.proofs.fit_end.Given as goal

abbrev pub invariant-loop-at : goal.invariant-loop-at
invariant-loop-at l = Passed l.rows l.text l.from l.at

abbrev pub decreases-loop-at : goal.decreases-loop-at
decreases-loop-at l = length l.rows - l.at
