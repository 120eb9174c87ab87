-- Commas inserted directly before `]` or `}` are struck out again. Assumes nothing.
use mathlib.Core.Bool.{Bool, true, false}
use mathlib.Core.List.{List, ◌++◌}
use mathlib.Core.Path.{◌≡◌, refl}
use Prim.Native.Nat.{ℕ, ◌+◌}
use native.Mathlib.Nat.{zero-add, suc-add}
use native.Mathlib.Omega.{arith}
use lib.Dec.{T}
use lib.ListN.{length}
use Rattle.shared.specs.Bytes.{bytes, same_bytes}
use Rattle.shared.proofs.Bytes.{same_eq}
use Rattle.shared.proofs.Logic.{or_cases}
use Rattle.pieces.specs.Commas.{comma, closer, closes, struck, Inserted, none, same, more}

is_true : (b : Bool) → T b → b ≡ true
is_true true t = refl
is_true false t = absurd t

-- a closer is no comma
closer_no_comma : (w : List ℕ) → T (closer w) → comma w ≡ false
closer_no_comma w t =
    or_cases (same_bytes w (bytes "]")) (same_bytes w (bytes "}")) (is_true (closer w) t)
    (λ e. rw (same_eq w (bytes "]") e) refl) (λ e. rw (same_eq w (bytes "}") e) refl)

closes_inserted : {xs ys : List (List ℕ)} {n : ℕ} → Inserted xs ys n → closes ys ≡ closes xs
closes_inserted none = refl
closes_inserted (same r) = rw (closes_inserted r)
closes_inserted (more {w = w} t r) = rw (closer_no_comma w t)

pub struck_inserted : {xs ys : List (List ℕ)} {n : ℕ} → Inserted xs ys n → struck ys ≡ struck xs
struck_inserted none = refl
struck_inserted (same r) = rw (closes_inserted r, struck_inserted r)
struck_inserted (more {w = w} t r) = rw (closer_no_comma w t, is_true (closer w) t, struck_inserted r)

-- as many more as commas were inserted
pub length_inserted : {xs ys : List (List ℕ)} {n : ℕ} → Inserted xs ys n → length ys ≡ length xs + n
length_inserted none = refl
length_inserted (same r) = omega (arith, length_inserted r)
length_inserted (more t r) = omega (arith, length_inserted r)

pub inserted_append : {xs ys us vs : List (List ℕ)} {a b : ℕ} → Inserted xs ys a → Inserted us vs b → Inserted (xs ++ us) (ys ++ vs) (a + b)
inserted_append none q = rw zero-add q
inserted_append (same r) q = same (inserted_append r q)
inserted_append (more t r) q = rw suc-add (more t (inserted_append r q))
