use Prim.Native.Nat.{◌-◌}
use lib.ListN.{length}
use Rattle.sheet.proofs.Filling.{State}
use Rattle.sheet.proofs.read_lines.Given as goal

abbrev pub invariant-loop-at : goal.invariant-loop-at
invariant-loop-at l = State l.sheet l.initial.rows l.initial.text l.rows l.text l.at l.n l.len

abbrev pub decreases-loop-at : goal.decreases-loop-at
decreases-loop-at l = length l.sheet - l.at
