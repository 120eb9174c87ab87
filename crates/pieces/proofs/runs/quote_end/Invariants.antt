use Prim.Native.Nat.{◌-◌}
use lib.ListN.{length}
use Rattle.pieces.proofs.Quote.{Stops}
use Rattle.pieces.proofs.runs.quote_end.Given as goal

abbrev pub invariant-loop-i : goal.invariant-loop-i
invariant-loop-i l = Stops l.text l.quote l.from l.i

abbrev pub decreases-loop-i : goal.decreases-loop-i
decreases-loop-i l = length l.text - l.i
