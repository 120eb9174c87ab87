-- A lexeme's bytes: compared one by one, at its ends, read as one piece, and as a part of the text. Assumes nothing.
use mathlib.Core.Bool.{false, ◌&&◌, and-false}
use mathlib.Core.List.{List, [], ◌∷◌}
use mathlib.Core.Path.{◌≡◌, refl, sym}
use Prim.Native.Nat.{ℕ, zero, suc, ◌-◌, ◌≤◌, ◌<◌}
use native.Mathlib.Omega.{arith}
use lib.Dec.{eqb}
use lib.ListN.{length, get_or, take, drop}
use lib.Pointwise.{pointwise}
use lib.Seq.{slice, take-nil}
use borrow.Author.Tests.{eqb-true, ne_eqb}
use Rattle.shared.specs.Bytes.{same_bytes}
use Rattle.shared.proofs.Logic.{split}
use Rattle.std.specs.Prelude.{Some, None, Ok, Err}
use Rattle.pieces.specs.declared.Unreadable.{Unreadable}
use Rattle.pieces.specs.declared.Piece.{Piece}
use Rattle.pieces.specs.Reading.{Reading, done, refused, piece, between, read_from}
use Rattle.pieces.specs.Next.{next}
use Rattle.pieces.proofs.Scan.{at-end}
use Rattle.pieces.proofs.Resume.{next-first, next-done, next-refused}
use Rattle.definition.specs.Plain.{operator_byte, is_one_piece, reads_whole, ends_operator, begins_operator}

-- ---- compared

pub pointwise-same : (w v : List ℕ) → pointwise eqb w v ≡ same_bytes w v
pointwise-same [] [] = refl
pointwise-same [] (b ∷ v) = refl
pointwise-same (a ∷ w) [] = refl
pointwise-same (a ∷ w) (b ∷ v) = rw (pointwise-same w v)

pub same_single : (w : List ℕ) (b : ℕ) → 1 < length w → false ≡ same_bytes w (b ∷ [])
same_single [] b h = absurd (omega arith)
same_single (a ∷ []) b h = absurd (omega arith)
same_single (a ∷ c ∷ w) b h = sym (and-false (eqb a b))

-- ---- at its ends

pub operator-first : (w : List ℕ) → (length w ≡ 0 → ⊥) → operator_byte (get_or w 0 0) ≡ begins_operator w
operator-first [] n = absurd (n refl)
operator-first (b ∷ w) n = refl

pub operator-last : (w : List ℕ) → (length w ≡ 0 → ⊥) → operator_byte (get_or w (length w - 1) 0) ≡ ends_operator w
operator-last [] n = absurd (n refl)
operator-last (b ∷ []) n = refl
operator-last (b ∷ c ∷ w) n =
    let e : length (b ∷ c ∷ w) - 1 ≡ suc (length (c ∷ w) - 1) = omega arith in
    rw e (operator-last (c ∷ w) (λ z. omega arith))

-- ---- read

not_whole : (n s e : ℕ) (r : Reading) → eqb s 0 && eqb e n ≡ false → false ≡ is_one_piece n (piece s e r)
not_whole n s e done h = sym h
not_whole n s e (refused i) h = refl
not_whole n s e (piece s' e' r) h = refl

module _ (w : List ℕ) where
  module _ {p : Piece} (h : Ok (Some p) ≡ next (read_from w 0)) where
    pub reads_later : (p.start ≡ 0 → ⊥) → false ≡ reads_whole w
    unfolding reads_whole
    reads_later n = rw (next-first w 0 h).reads (not_whole (length w) p.start p.end (read_from w p.end) (rw (ne_eqb p.start 0 n)))

    pub reads_first : p.start ≡ 0 → eqb p.end (length w) ≡ reads_whole w
    unfolding reads_whole
    reads_first z =
        rw (next-first w 0 h).reads
        (split (eqb p.end (length w))
        (λ q. let f = eqb-true p.end (length w) q in rw (at-end w between p.end p.end (omega arith), z))
        (λ q. rw q (not_whole (length w) p.start p.end (read_from w p.end) (rw (z, q)))))

  pub reads_none : Ok None ≡ next (read_from w 0) → false ≡ reads_whole w
  unfolding reads_whole
  reads_none h = rw (next-done (read_from w 0) h)

  pub reads-refused : {u : Unreadable} → Err u ≡ next (read_from w 0) → false ≡ reads_whole w
  unfolding reads_whole
  reads-refused h = rw (next-refused (read_from w 0) h)

-- ---- a part of the text

pub part_slice : (a e : ℕ) (text : List ℕ) → a ≤ e → take (e - a) (drop a text) ≡ slice a e text
part_slice zero e text h = let z : e - 0 ≡ e = omega arith in rw z
part_slice (suc a) e [] h = rw (take-nil (e - suc a), take-nil e)
part_slice (suc a) zero (x ∷ text) h = absurd (omega arith)
part_slice (suc a) (suc e) (x ∷ text) h = let z : suc e - suc a ≡ e - a = omega arith in rw z (part_slice a e text (omega arith))
