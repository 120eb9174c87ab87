-- The rows of a part of the slice, and the row at an index. Assumes nothing.
use mathlib.Core.List.{List, [], ◌∷◌, ◌++◌}
use mathlib.Core.Path.{◌≡◌, refl, sym, ap, ◌∙◌}
use Prim.Native.Nat.{ℕ, zero, suc, ◌+◌, ◌-◌, ◌*◌, ◌/◌, ◌%◌, ◌≤◌, ◌<◌}
use native.Mathlib.Nat.{add-zero, add_assoc}
use native.Mathlib.Omega.{arith}
use lib.Dec.{ltb}
use lib.ListN.{length, get_or, take, drop, length-drop}
use Rattle.std.proofs.lemmas.List.{get_or-take, drop-take, length-take-le}
use lib.Seq.{take-length, drop-drop, get_or-drop}
use borrow.Author.Tests.{ltb-true, ltb-false}
use Rattle.shared.proofs.Logic.{split}
use Rattle.rows.specs.Row.{Row, number, row_at, first_rows, rows_of}

-- ---- the first row, and none

pub rows_cons : (bytes : List ℕ) → 16 ≤ length bytes → rows_of bytes ≡ row_at bytes 0 ∷ rows_of (drop 16 bytes)
unfolding rows_of first_rows
rows_cons bytes h =
    let e : length bytes / 16 ≡ suc ((length bytes - 16) / 16) = omega arith in
    ap (λ n. first_rows n bytes) e ∙ ap (λ n. row_at bytes 0 ∷ first_rows (n / 16) (drop 16 bytes)) (sym (length-drop 16 bytes))

pub rows_none : (bytes : List ℕ) → length bytes < 16 → rows_of bytes ≡ []
unfolding rows_of first_rows
rows_none bytes h = let e : length bytes / 16 ≡ 0 = omega arith in ap (λ n. first_rows n bytes) e

pub rows_length : (bytes : List ℕ) → length (rows_of bytes) ≡ length bytes / 16
unfolding rows_of first_rows
rows_length bytes = go (length bytes / 16) bytes
  where
    go : (n : ℕ) (bytes : List ℕ) → length (first_rows n bytes) ≡ n
    go zero bytes = refl
    go (suc n) bytes = ap suc (go n (drop 16 bytes))

-- the first row, and the slice after it
pub first_left : (bytes : List ℕ) → 16 ≤ length bytes → {r : Row} → r ≡ row_at bytes 0 → rows_of bytes ≡ r ∷ rows_of (take (length bytes - 16) (drop 16 bytes))
first_left bytes h e = rows_cons bytes h ∙ rw (e, ← length-drop 16 bytes, take-length (drop 16 bytes))

-- ---- a part of the slice, from an index on

pub row_drop : (i : ℕ) (bytes : List ℕ) (j : ℕ) → row_at (drop i bytes) j ≡ row_at bytes (i + j)
row_drop i bytes j = simp (get_or-drop, add_assoc)

pub part_cons : (bytes : List ℕ) (at : ℕ) → at + 16 ≤ length bytes → rows_of (drop at bytes) ≡ row_at bytes at ∷ rows_of (drop (at + 16) bytes)
part_cons bytes at h =
    rows_cons (drop at bytes) (omega (arith, length-drop at bytes))
    ∙ ap (λ r. r ∷ rows_of (drop 16 (drop at bytes))) (row_drop at bytes 0 ∙ ap (row_at bytes) (add-zero at))
    ∙ ap (λ l. row_at bytes at ∷ rows_of l) (drop-drop 16 at bytes)

pub part_none : (bytes : List ℕ) (at : ℕ) → length bytes < at + 16 → rows_of (drop at bytes) ≡ []
part_none bytes at h = rows_none (drop at bytes) (omega (arith, length-drop at bytes))

-- ---- a part of the slice, up to an index

number_take : (at j : ℕ) (rows : List ℕ) → j + 4 ≤ at → number (take at rows) j ≡ number rows j
number_take at j rows h =
    rw (get_or-take at rows j 0 (omega arith), get_or-take at rows (j + 1) 0 (omega arith), get_or-take at rows (j + 2) 0 (omega arith), get_or-take at rows (j + 3) 0 (omega arith))

pub row_take : (at j : ℕ) (rows : List ℕ) → j + 16 ≤ at → row_at (take at rows) j ≡ row_at rows j
row_take at j rows h =
    rw (number_take at j rows (omega arith), number_take at (j + 4) rows (omega arith), number_take at (j + 8) rows (omega arith), number_take at (j + 12) rows (omega arith))

-- the last row, and the slice before it
cons_take : (n : ℕ) (bytes : List ℕ) → 16 + n ≤ length bytes → rows_of (take (16 + n) bytes) ≡ row_at bytes 0 ∷ rows_of (take n (drop 16 bytes))
cons_take n bytes h =
    rows_cons (take (16 + n) bytes) (omega (arith, length-take-le (16 + n) bytes h))
    ∙ ap (λ r. r ∷ rows_of (drop 16 (take (16 + n) bytes))) (row_take (16 + n) 0 bytes (omega arith))
    ∙ ap (λ l. row_at bytes 0 ∷ rows_of l) (drop-take 16 n bytes)

last_row : (n : ℕ) (bytes : List ℕ) → 16 * n + 16 ≤ length bytes → length bytes < 16 * n + 32 → rows_of bytes ≡ rows_of (take (16 * n) bytes) ++ row_at bytes (16 * n) ∷ []
last_row zero bytes h l = rows_cons bytes h ∙ ap (λ rs. row_at bytes 0 ∷ rs) (rows_none (drop 16 bytes) (omega (arith, length-drop 16 bytes))) ∙ ap (λ rs. rs ++ row_at bytes 0 ∷ []) (sym (rows_none [] (omega arith)))
last_row (suc n) bytes h l =
    let m : 16 * suc n ≡ 16 + 16 * n = omega arith in
    let b = length-drop 16 bytes in
    rows_cons bytes (omega arith)
    ∙ ap (λ rs. row_at bytes 0 ∷ rs) (last_row n (drop 16 bytes) (omega (arith, b)) (omega (arith, b)))
    ∙ rw (m, cons_take (16 * n) bytes (omega arith), ← row_drop 16 bytes (16 * n)) refl

pub last_left : (bytes : List ℕ) (end : ℕ) → end ≡ length bytes - length bytes % 16 → 16 ≤ end → {r : Row} → r ≡ row_at bytes (end - 16) → rows_of bytes ≡ rows_of (take (end - 16) bytes) ++ r ∷ []
last_left bytes end n h e =
    let j = (end - 16) / 16 in
    let m : 16 * j ≡ end - 16 = omega arith in
    rw (e, ← m) (last_row j bytes (omega arith) (omega arith))

-- a part of a row at the end is passed over
first_whole : (n : ℕ) (bytes : List ℕ) → n ≡ length bytes / 16 → rows_of (take (16 * n) bytes) ≡ rows_of bytes
first_whole zero bytes e = rows_none [] (omega arith) ∙ sym (rows_none bytes (omega arith))
first_whole (suc n) bytes e =
    let m : 16 * suc n ≡ 16 + 16 * n = omega arith in
    rw m (cons_take (16 * n) bytes (omega arith)
    ∙ ap (λ rs. row_at bytes 0 ∷ rs) (first_whole n (drop 16 bytes) (omega (arith, length-drop 16 bytes)))
    ∙ sym (rows_cons bytes (omega arith)))

pub whole_rows : (bytes : List ℕ) (end : ℕ) → end ≡ length bytes - length bytes % 16 → rows_of (take end bytes) ≡ rows_of bytes
whole_rows bytes end e = let m : end ≡ 16 * (length bytes / 16) = omega arith in rw m (first_whole (length bytes / 16) bytes refl)

pub fewer_left : (bytes : List ℕ) (end : ℕ) → 16 ≤ end → end ≤ length bytes → length (rows_of (take (end - 16) bytes)) < length (rows_of bytes)
fewer_left bytes end h l =
    let t = length-take-le (end - 16) bytes (omega arith) in
    omega (arith, rows_length (take (end - 16) bytes), rows_length bytes)

pub ruleset from_back = (last_left, fewer_left, rows_none)

-- ---- by the row's index

pub rows_drop : (i : ℕ) (bytes : List ℕ) → rows_of (drop (16 * i) bytes) ≡ drop i (rows_of bytes)
rows_drop zero bytes = refl
rows_drop (suc i) bytes =
    split (ltb (length bytes) 16)
    (λ e. let h = ltb-true (length bytes) 16 e in
    rows_none (drop (16 * suc i) bytes) (omega (arith, length-drop (16 * suc i) bytes)) ∙ rw (rows_none bytes h))
    (λ e. let m : 16 * suc i ≡ 16 + 16 * i = omega arith in
    rw (rows_cons bytes (ltb-false (length bytes) 16 e), m, ← drop-drop) (rows_drop i (drop 16 bytes)))

-- the row i, and those after it
pub row_here : (bytes : List ℕ) (i : ℕ) → 16 * i + 16 ≤ length bytes → drop i (rows_of bytes) ≡ row_at bytes (16 * i) ∷ drop (i + 1) (rows_of bytes)
row_here bytes i h =
    let m : 16 * i + 16 ≡ 16 * (i + 1) = omega arith in
    sym (rows_drop i bytes) ∙ part_cons bytes (16 * i) h ∙ ap (λ n. row_at bytes (16 * i) ∷ rows_of (drop n bytes)) m ∙ rw (rows_drop (i + 1) bytes)

pub row-index : (bytes : List ℕ) (i : ℕ) (d : Row) → 16 * i + 16 ≤ length bytes → get_or (rows_of bytes) i d ≡ row_at bytes (16 * i)
row-index bytes i d h =
    ap (λ n. get_or (rows_of bytes) n d) (sym (add-zero i)) ∙ sym (get_or-drop i (rows_of bytes) 0 d) ∙ rw (row_here bytes i h)
