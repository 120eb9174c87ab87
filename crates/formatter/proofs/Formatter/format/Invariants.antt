use Prim.Native.Nat.{◌-◌}
use lib.ListN.{length}
use Rattle.formatter.specs.CodeState.{code_state}
use Rattle.formatter.proofs.Loop.{Loop}
use Rattle.formatter.proofs.Formatter.format.Given as goal

abbrev pub invariant-loop-place : goal.invariant-loop-place
invariant-loop-place l = Loop (code_state l.initial.self l.initial.sink) l.place.index l.place.at (code_state l.self l.sink)

abbrev pub decreases-loop-place : goal.decreases-loop-place
decreases-loop-place l = length l.initial.self.rows.now - l.place.at
