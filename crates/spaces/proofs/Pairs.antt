-- The spaces that the code finds by sets of kinds are those of the definition. Assumes nothing.
use mathlib.Core.Bool.{Bool, true, false, cond}
use mathlib.Core.Option.{some}
use mathlib.Core.Path.{◌≡◌, refl}
use Prim.Native.Nat.{ℕ, ◌≤◌}
use native.Mathlib.Omega.{arith}
use native.Mathlib.Nat.{mul-le-mul}
use lib.Dec.{eqb}
use borrow.Author.Tests.{eqb-true, ne_eqb}
use Rattle.shared.proofs.Below.{all_below, below}
use Rattle.rows.specs.Kinds.{RightBrace, LeftParen, LeftBracket, Other}
use Rattle.spaces.specs.Space.{space_after}
use Rattle.spaces.specs.Between.{loose_after, bit, spaces}

-- ---- by one test, computed at every pair of kinds

abbrev agree : Bool → ℕ → ℕ → Bool
agree unary p k = eqb (spaces (loose_after k unary) p k) (cond (space_after (some p) unary k) 1 0)

every : (unary : Bool) → all_below 35 (λ p. all_below 35 (agree unary p)) ≡ true
every true = refl
every false = refl

pub spaces_are : (p k : ℕ) (unary : Bool) → p ≤ Other → k ≤ Other → spaces (loose_after k unary) p k ≡ cond (space_after (some p) unary k) 1 0
spaces_are p k unary g h =
    eqb-true _ _ (below 35 (agree unary p) (below 35 (λ p. all_below 35 (agree unary p)) (every unary) p (omega arith)) k (omega arith))

-- ---- bounds

pub bit-few : (mask k : ℕ) → bit mask k ≤ 1
bit-few mask k = omega arith

pub spaces-few : (loose p k : ℕ) → spaces loose p k ≤ 1
spaces-few loose p k = mul-le-mul (bit-few loose p) (bit-few 0x7_ffff_805f k)

-- ---- only before three kinds another set holds

pub loose_other : (k : ℕ) (unary : Bool) → (k ≡ RightBrace → ⊥) → (k ≡ LeftParen → ⊥) → (k ≡ LeftBracket → ⊥) → loose_after Other unary ≡ loose_after k unary
loose_other k unary x y z = rw (ne_eqb k RightBrace x, ne_eqb k LeftParen y, ne_eqb k LeftBracket z)
