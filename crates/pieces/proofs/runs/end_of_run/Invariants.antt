use mathlib.Core.Bool.{Bool}
use mathlib.Core.Path.{◌≡◌}
use Prim.Native.Nat.{ℕ, ◌+◌}
use lib.ListN.{drop}
use Rattle.pieces.specs.Sets.{Tests, run_length}
use Rattle.pieces.proofs.runs.end_of_run.Given as goal

abbrev pub invariant-loop-i : goal.invariant-loop-i
invariant-loop-i g l = (p : ℕ → Bool) → Tests (λ b r. goal.F-post g l.takes b r) p → l.from + run_length p (drop l.from l.text) ≡ l.i + run_length p (drop l.i l.text)
