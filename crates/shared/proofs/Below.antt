-- A rule for every number below n, by one test that is computed at each of them. Assumes nothing.
use mathlib.Core.Bool.{Bool, true, false, ◌&&◌, beq}
use mathlib.Core.Path.{◌≡◌, refl}
use Prim.Native.Nat.{ℕ, zero, suc, ◌<◌}
use native.Mathlib.Omega.{arith}
use lib.Dec.{eqb}
use borrow.Author.Tests.{eqb-true, eqb-false}
use Rattle.shared.proofs.Logic.{impossible', and_left, and_right, split}

-- f holds of every number below n
abbrev pub all_below : ℕ → (ℕ → Bool) → Bool
all_below zero f = true
all_below (suc n) f = f n && all_below n f

pub below : (n : ℕ) (f : ℕ → Bool) → all_below n f ≡ true → (k : ℕ) → k < n → f k ≡ true
below zero f e k h = absurd (omega arith)
below (suc n) f e k h =
    split (eqb k n) (λ q. rw (eqb-true k n q) (and_left (f n) (all_below n f) e))
    (λ q. below n f (and_right (f n) (all_below n f) e) k (let r = eqb-false k n q in omega arith))

beq_eq : (x y : Bool) → beq x y ≡ true → x ≡ y
beq_eq true true e = refl
beq_eq true false e = impossible' e
beq_eq false true e = impossible' e
beq_eq false false e = refl

-- two tests that agree below n
pub agree_below : (n : ℕ) (f g : ℕ → Bool) → all_below n (λ k. beq (f k) (g k)) ≡ true → (k : ℕ) → k < n → f k ≡ g k
agree_below n f g e k h = beq_eq (f k) (g k) (below n (λ k. beq (f k) (g k)) e k h)
