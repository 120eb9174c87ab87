use Rattle.std.proofs.Common.{List, ◌≡◌, ℕ, length}
use Rattle.plain.specs.LookBack.{seen}
use Rattle.plain.proofs.before.follows_comma.Given as goal

abbrev pub invariant-loop-rest : goal.invariant-loop-rest
invariant-loop-rest l = (text : List ℕ) → (seen l.before text).comma ≡ (seen l.left text).comma

abbrev pub decreases-loop-rest : goal.decreases-loop-rest
decreases-loop-rest l = length l.left
