use mathlib.Core.Path.{◌≡◌}
use Prim.Native.Nat.{◌+◌, ◌-◌}
use lib.ListN.{length, drop}
use Rattle.pieces.specs.Sets.{run_length}
use Rattle.pieces.specs.Ends.{ordinary}
use Rattle.pieces.proofs.runs.ordinary_eights.Given as goal

abbrev pub invariant-loop-i : goal.invariant-loop-i
invariant-loop-i l = l.i + run_length (ordinary l.quote) (drop l.i l.text) ≡ l.from + run_length (ordinary l.quote) (drop l.from l.text)

abbrev pub decreases-loop-i : goal.decreases-loop-i
decreases-loop-i l = length l.text - l.i
