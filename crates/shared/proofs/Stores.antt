-- Runs of stores into a slice. Assumes nothing.
use mathlib.Core.List.{List, [], ◌∷◌, ◌++◌, append-nil, append_assoc}
use mathlib.Core.Path.{◌≡◌, ap, sym, subst, ◌∙◌}
use Prim.Native.Nat.{ℕ, suc, ◌+◌, ◌-◌, ◌≤◌}
use native.Mathlib.Nat.{add-zero, add-suc, suc-add}
use native.Mathlib.Omega.{arith}
use lib.ListN.{length, set, take, drop, drop_of_length-le}
use lib.Seq.{sets, sets-eq}
use borrow.Rule.Slice.PartMut.{put_mid, Post-is}

sets_append : (l : List ℕ) (i : ℕ) (xs ys : List ℕ) → sets (sets l i xs) (i + length xs) ys ≡ sets l i (xs ++ ys)
sets_append l i [] ys = rw add-zero
sets_append l i (x ∷ xs) ys = rw (add-suc, ← suc-add) (sets_append (set l i x) (suc i) xs ys)

-- a run of stores right after another
pub sets_after : (l : List ℕ) (i j : ℕ) (xs ys : List ℕ) → j ≡ i + length xs → sets (sets l i xs) j ys ≡ sets l i (xs ++ ys)
sets_after l i j xs ys e = rw e (sets_append l i xs ys)

-- as many stores as the slice has places
pub sets_whole : (l vs : List ℕ) → length vs ≡ length l → sets l 0 vs ≡ vs
sets_whole l vs e =
    let h : length l ≤ 0 + length vs = omega arith in
    sets-eq vs l 0 (omega arith) ∙ rw (drop_of_length-le l h) (append-nil vs)

-- a part of the slice that is written whole
stored : (at : ℕ) (l vs : List ℕ) → at + length vs ≤ length l → put_mid at (at + length vs - at) l vs ≡ sets l at vs
stored at l vs h =
    ap (λ (z : List ℕ). take at l ++ (vs ++ z)) (Post-is at (at + length vs) l (omega arith))
    ∙ sym (append_assoc (take at l) vs (drop (at + length vs) l)) ∙ sym (sets-eq vs l at h)

pub part_stored : (at n : ℕ) (l vs : List ℕ) → at + n ≤ length l → length vs ≡ n → put_mid at (at + n - at) l vs ≡ sets l at vs
part_stored at n l vs h e = subst (λ m. at + m ≤ length l → put_mid at (at + m - at) l vs ≡ sets l at vs) e (stored at l vs) h
