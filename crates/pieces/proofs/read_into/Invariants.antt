use Prim.Native.Nat.{◌-◌}
use lib.ListN.{length}
use Rattle.pieces.proofs.Filling.{State}
use Rattle.pieces.proofs.read_into.Given as goal

abbrev pub invariant-loop-piece : goal.invariant-loop-piece
invariant-loop-piece l = State l.text l.initial.pieces l.pieces l.at l.n

abbrev pub decreases-loop-piece : goal.decreases-loop-piece
decreases-loop-piece l = length l.text - l.at
