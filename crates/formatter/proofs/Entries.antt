-- The stack, as the definition's list. Assumes nothing.
use mathlib.Core.Bool.{false}
use mathlib.Core.List.{List, ◌∷◌, head?}
use mathlib.Core.Path.{◌≡◌, refl, ◌∙◌}
use Prim.Native.Nat.{ℕ, zero, suc, ◌+◌, ◌-◌, ◌≤◌, ◌<◌}
use native.Mathlib.Numerals.{add-one}
use native.Mathlib.Omega.{arith}
use lib.Dec.{eqb}
use lib.ListN.{length, get_or, set, drop, replicate, length-set}
use lib.Seq.{get_or-set_same, get_or-set_other}
use Rattle.definition.specs.Emit.{is_at}
use Rattle.formatter.specs.Stack.{top_first, OnStack}
use Rattle.formatter.specs.StackArray.{top_kept}
pub use Rattle.formatter.specs.StackArray.{top_length}

-- ---- the list

pub top_popped : (n : ℕ) (k : List ℕ) → top_first (n - 1) k ≡ drop 1 (top_first n k)
unfolding top_first
top_popped zero k = refl
top_popped (suc n) k = let e : suc n - 1 ≡ n = omega arith in rw e

-- the same, where the entry is cleared
pub top_cleared : (n : ℕ) (k : List ℕ) → top_first (n - 1) (set k (n - 1) 0) ≡ drop 1 (top_first n k)
top_cleared n k = top_kept (n - 1) (n - 1) k 0 (omega arith) ∙ top_popped n k

pub top_pushed : (n : ℕ) (k : List ℕ) (v : ℕ) → n < length k → top_first (n + 1) (set k n v) ≡ v ∷ top_first n k
unfolding top_first
top_pushed n k v h = rw (add-one n, get_or-set_same k n v 0 h, top_kept n n k v (omega arith))

pub top_is : (n d : ℕ) (k : List ℕ) → 0 < n → is_at (head? (top_first n k)) d ≡ eqb (get_or k (n - 1) 0) d
unfolding top_first
top_is zero d k h = absurd (omega arith)
top_is (suc n) d k h = let e : suc n - 1 ≡ n = omega arith in rw e

pub top_isnt : (n d : ℕ) (k : List ℕ) → n ≤ 0 → is_at (head? (top_first n k)) d ≡ false
unfolding top_first
top_isnt zero d k h = refl
top_isnt (suc n) d k h = absurd (omega arith)

-- ---- the array

zeros : (n i : ℕ) → get_or {A = ℕ} (replicate n 0) i 0 ≡ 0
zeros zero i = refl
zeros (suc n) zero = refl
zeros (suc n) (suc i) = zeros n i

pub zeros_on : (n : ℕ) → n ≤ 64 → OnStack n (replicate 64 0)
zeros_on n h = record { few = h; size = refl; rest = λ i l. zeros 64 i }

pub pushed_on : (n : ℕ) (k : List ℕ) (v : ℕ) → OnStack n k → n < 64 → OnStack (n + 1) (set k n v)
pushed_on n k v σ h =
    record {
      few = omega arith;
      size = length-set k n v ∙ σ.size;
      rest = λ i l. get_or-set_other k n i v 0 (λ e. omega arith) ∙ σ.rest i (omega arith);
    }

-- What `push` does to the list and to the array.
pub ruleset pushing = (top_length, top_pushed, pushed_on)
