use Prim.Native.Nat.{◌-◌, min}
use lib.ListN.{length}
use Rattle.sink.proofs.Over.{Agree}
use Rattle.sink.proofs.copy.copy_eights.Given as goal

abbrev pub invariant-loop-i : goal.invariant-loop-i
invariant-loop-i l = Agree (min l.i (length l.part)) l.place l.part

abbrev pub decreases-loop-i : goal.decreases-loop-i
decreases-loop-i l = length l.part - l.i
