-- The first line of a text. Assumes nothing.
use mathlib.Core.Bool.{cond}
use mathlib.Core.List.{List, [], ◌∷◌}
use mathlib.Core.Path.{◌≡◌}
use Prim.Native.Nat.{ℕ, ◌≤◌}
use native.Mathlib.Omega.{arith}
use lib.Dec.{eqb}
use lib.ListN.{length}
use borrow.Author.Tests.{eqb-true}
use Rattle.shared.specs.Bytes.{byte, line_feed}
use Rattle.shared.specs.Lines.{first_line}
use Rattle.shared.proofs.Logic.{split}

-- what ends it is no longer than the line feed in its place
pub line_within : (end s : List ℕ) → length end ≤ 1 → length (first_line end s) ≤ length s
unfolding first_line
line_within end [] h = omega arith
line_within end (b ∷ t) h = split (eqb b (byte "\n")) (λ e. rw e (omega arith)) (λ e. rw e (let g = line_within end t h in omega arith))

-- the line with its line feed, from its first byte on
pub line_cons : (b : ℕ) (t : List ℕ) → first_line line_feed (b ∷ t) ≡ b ∷ cond (eqb b (byte "\n")) [] (first_line line_feed t)
unfolding first_line
line_cons b t = split (eqb b (byte "\n")) (λ e. rw (e, eqb-true b (byte "\n") e)) (λ e. rw e)
