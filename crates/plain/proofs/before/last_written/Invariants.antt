use Rattle.std.proofs.Common.{List, ◌≡◌, ℕ, length}
use Rattle.plain.specs.LookBack.{seen}
use Rattle.plain.specs.Scan.{meets}
use Rattle.plain.proofs.before.last_written.Given as goal

abbrev pub invariant-loop-rest : goal.invariant-loop-rest
invariant-loop-rest l = (text : List ℕ) (k : ℕ) → meets (seen l.before text) k ≡ meets (seen l.left text) k

abbrev pub decreases-loop-rest : goal.decreases-loop-rest
decreases-loop-rest l = length l.left
