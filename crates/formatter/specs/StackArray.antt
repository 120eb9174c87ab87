-- The array of a stack is that of its list. Laws, for the `inverse` of the stack's model.
-- Assumes nothing.
use Rattle.std.specs.Prelude.{List, [], ◌∷◌, ◌≡◌, ℕ, zero, suc, ◌-◌, ◌≤◌, ◌<◌, eqb, get_or, set, length, replicate, refl}
use Rattle.std.proofs.Common.{sym, ap, ◌∙◌, arith}
use borrow.Author.Tests.{eqb-true, eqb-false}
use lib.ListN.{length-set}
use lib.Seq.{get_or-set_same, get_or-set_other}
use Rattle.std.proofs.lemmas.List.{set-set, set-get_or}
use Rattle.shared.proofs.Logic.{split}
use Rattle.formatter.specs.Stack.{top_first, OnStack, entries_of}

pub top_kept : (n i : ℕ) (k : List ℕ) (v : ℕ) → n ≤ i → top_first n (set k i v) ≡ top_first n k
unfolding top_first
top_kept zero i k v h = refl
top_kept (suc n) i k v h = rw (get_or-set_other k i n v 0 (λ e. omega arith), top_kept n i k v (omega arith))

pub top_length : (n : ℕ) (k : List ℕ) → length (top_first n k) ≡ n
unfolding top_first
top_length zero k = refl
top_length (suc n) k = ap suc (top_length n k)

pub popped_on : (n : ℕ) (k : List ℕ) → OnStack n k → OnStack (n - 1) (set k (n - 1) 0)
popped_on n k σ =
    let s = σ.size in
    let f = σ.few in
    record {
      few = omega arith;
      size = length-set k (n - 1) 0 ∙ σ.size;
      rest = λ i l. split (eqb i (n - 1))
          (λ e.
          let d = eqb-true i (n - 1) e in
          let w : n - 1 < length k = omega arith in
          rw d (get_or-set_same k (n - 1) 0 0 w))
          (λ e.
          let u = eqb-false i (n - 1) e in
          get_or-set_other k (n - 1) i 0 0 u ∙ σ.rest i (omega arith));
    }

all_zero : (k : List ℕ) → ((i : ℕ) → get_or k i 0 ≡ 0) → replicate (length k) 0 ≡ k
all_zero [] h = refl
all_zero (x ∷ xs) h = let e : x ≡ 0 = h 0 in rw (e, all_zero xs (λ i. h (suc i)))

entries_are : (n : ℕ) (k : List ℕ) → OnStack n k → entries_of (top_first n k) ≡ k
unfolding entries_of top_first
entries_are zero k σ = ap (λ n. replicate n 0) (sym σ.size) ∙ all_zero k (λ i. σ.rest i (omega arith))
entries_are (suc n) k σ =
    let p = popped_on (suc n) k σ in
    let q : suc n - 1 ≡ n = omega arith in
    let without : OnStack n (set k n 0) = rw q at p in
    let same = ap entries_of (sym (top_kept n n k 0 (omega arith))) in
    let e : entries_of (top_first n k) ≡ set k n 0 = same ∙ entries_are n (set k n 0) without in
    rw (top_length n k, e) (set-set k n 0 (get_or k n 0) ∙ set-get_or k n 0)

-- Whatever is made of a stack's count and array is made of those of its list.
pub array_of :
    (n : ℕ) (k : List ℕ) → OnStack n k → {A : Type 0} (f : ℕ → List ℕ → A)
    → f (length (top_first n k)) (entries_of (top_first n k)) ≡ f n k
array_of n k σ f = rw (top_length n k, entries_are n k σ)
