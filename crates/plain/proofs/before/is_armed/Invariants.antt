use Rattle.std.proofs.Common.{List, ◌≡◌, ℕ, length}
use Rattle.plain.specs.LookBack.{seen}
use Rattle.plain.proofs.before.is_armed.Given as goal

abbrev pub invariant-loop-rest : goal.invariant-loop-rest
invariant-loop-rest l = (text : List ℕ) → (seen l.before text).armed ≡ (seen l.left text).armed

abbrev pub decreases-loop-rest : goal.decreases-loop-rest
decreases-loop-rest l = length l.left
