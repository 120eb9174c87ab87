-- The loop of `read_into`: the pieces so far stand first in the slice, and what is left to read completes the answer. Assumes nothing.
use mathlib.Core.Bool.{true, false}
use mathlib.Core.List.{List, [], ◌∷◌, ◌++◌, append_assoc, append-nil}
use mathlib.Core.Path.{◌≡◌, refl, sym, ap, ◌∙◌}
use Prim.Native.Nat.{ℕ, suc, ◌+◌, ◌*◌, ◌≤◌}
use native.Mathlib.Numerals.{add-one}
use native.Mathlib.Omega.{arith}
use lib.ListN.{length, get_or, drop, set, length-append, length-drop}
use lib.Seq.{drop-cons, set_at}
use Rattle.shared.specs.Report.{zeroed}
use Rattle.shared.proofs.Logic.{and_left}
use borrow.Author.Tests.{leb-true}
use lib.Dec.{leb}
use Rattle.std.specs.Prelude.{None, Some, Result, Ok, Err, is_err}
use Rattle.std.specs.Result.{IsErrAnd}
use Rattle.pieces.specs.declared.Piece.{Piece}
use Rattle.pieces.specs.declared.ReadError.{ReadError}
use Rattle.pieces.specs.declared.ReadError.TheVariants as error
use Rattle.pieces.specs.declared.Unreadable.{Unreadable}
use Rattle.pieces.specs.Reading.{reading, read_from}
use Rattle.pieces.specs.Next.{next}
use Rattle.pieces.specs.Answer.{reported, fits, answer_from, numbers, read_answer, read_slots}
use Rattle.pieces.specs.Steps.{put}
use Rattle.pieces.proofs.Resume.{First, next-first, next-done, next-refused}

-- at the loop's head: n pieces stand in the slice xs, which was xs₀, and the text is read from `at` on
pub record State (text xs₀ xs : List ℕ) (at n : ℕ) : Type 0 where
  pub stored : List ℕ
  pub size : length stored ≡ 2 * n
  pub room : 2 * n ≤ length xs₀
  pub slots : xs ≡ stored ++ drop (2 * n) xs₀
  pub answer : read_answer text (length xs₀) ≡ answer_from (length xs₀) n (read_from text at)
  pub left : numbers (reading text) ≡ stored ++ numbers (read_from text at)

pub start : (text xs : List ℕ) → State text xs xs 0 0
unfolding read_answer
start text xs = record { stored = []; size = refl; room = omega arith; slots = refl; answer = refl; left = refl }

-- after a refusal the slice is zeroed
pub refused_slots : (text xs₀ : List ℕ) (a : Result ℕ ReadError) {ys : List ℕ} → reported a ≡ read_answer text (length xs₀) → is_err a ≡ true → ys ≡ zeroed xs₀ → ys ≡ read_slots text xs₀
unfolding read_slots
refused_slots text xs₀ (Ok n) h e z = cc
refused_slots text xs₀ (Err (error.Unreadable i)) h e z = z ∙ rw (← h)
refused_slots text xs₀ (Err (error.PiecesFull s)) h e z = z ∙ rw (← h)

-- one more piece after those stored
put-at : (p : List ℕ) (x y : ℕ) (zs : List ℕ) (n s e : ℕ) → length p ≡ 2 * n → put (p ++ x ∷ y ∷ zs) n s e ≡ p ++ (s ∷ e ∷ []) ++ zs
put-at p x y zs n s e h =
    ap (λ l. set l (2 * n + 1) e) (set_at p x (y ∷ zs) s (2 * n) h ∙ sym (append_assoc p (s ∷ []) (y ∷ zs)))
    ∙ set_at (p ++ (s ∷ [])) y zs e (2 * n + 1) (omega (arith, length-append p (s ∷ []))) ∙ simp append_assoc

two_more : (xs : List ℕ) (n : ℕ) → 2 * n + 2 ≤ length xs → drop (2 * n) xs ≡ get_or xs (2 * n) 0 ∷ get_or xs (2 * n + 1) 0 ∷ drop (2 * (n + 1)) xs
two_more xs n h =
    let one : suc (2 * n) ≡ 2 * n + 1 = omega arith in
    let two : suc (2 * n + 1) ≡ 2 * (n + 1) = omega arith in
    drop-cons xs (2 * n) 0 (omega arith) ∙ rw (one, drop-cons xs (2 * n + 1) 0 (omega arith), two)

module _ {text xs₀ xs : List ℕ} {at n : ℕ} (σ : State text xs₀ xs at n) where
  pub sized : length xs ≡ length xs₀
  sized = omega (arith, ap length σ.slots, length-append σ.stored (drop (2 * n) xs₀), length-drop (2 * n) xs₀, σ.size, σ.room)

  pub finished : Ok None ≡ next (read_from text at) → reported (Ok n) ≡ read_answer text (length xs₀)
  unfolding answer_from
  finished h = sym (σ.answer ∙ rw (next-done (read_from text at) h))

  pub finished_slots : Ok None ≡ next (read_from text at) → xs ≡ read_slots text xs₀
  unfolding numbers read_slots
  finished_slots h =
      let l : numbers (reading text) ≡ σ.stored = σ.left ∙ rw (next-done (read_from text at) h, append-nil) in
      σ.slots ∙ rw (← finished h, l, σ.size)

  pub unread : {u : Unreadable} (a : Result ℕ ReadError) → IsErrAnd a (λ e. e ≡ error.Unreadable u.index) → Err u ≡ next (read_from text at) → reported a ≡ read_answer text (length xs₀)
  unfolding answer_from
  unread (Ok m) k h = absurd k
  unread (Err e) k h = rw k (sym (σ.answer ∙ rw (next-refused (read_from text at) h)))

  module _ {p : Piece} (h : Ok (Some p) ≡ next (read_from text at)) where
    pub first : First text at p.start p.end
    first = next-first text at h

    pub full : (a : Result ℕ ReadError) → fits (length xs) n p.end ≡ false → IsErrAnd a (λ e. e ≡ error.PiecesFull p.start) → reported a ≡ read_answer text (length xs₀)
    unfolding answer_from
    full (Ok m) f k = absurd k
    full (Err e) f k =
        let no : fits (length xs₀) n p.end ≡ false = rw (← sized) f in
        rw k (sym (σ.answer ∙ rw (first.reads, no)))

    pub more : {ys : List ℕ} → fits (length xs) n p.end ≡ true → ys ≡ put xs n p.start p.end → State text xs₀ ys p.end (n + 1)
    unfolding answer_from numbers
    more f k =
        let yes : fits (length xs₀) n p.end ≡ true = rw (← sized) f in
        let roomy : 2 * n + 2 ≤ length xs₀ = leb-true (2 * n + 2) (length xs₀) (and_left (leb (2 * n + 2) (length xs₀)) (leb p.end 4294967295) yes) in
        record {
          stored = σ.stored ++ (p.start ∷ p.end ∷ []);
          size = omega (arith, length-append σ.stored (p.start ∷ p.end ∷ []), σ.size);
          room = omega arith;
          slots = k ∙ rw (σ.slots, two_more xs₀ n roomy) (put-at σ.stored _ _ _ n p.start p.end σ.size);
          answer = σ.answer ∙ rw (first.reads, yes, add-one);
          left = σ.left ∙ rw first.reads (sym (append_assoc σ.stored (p.start ∷ p.end ∷ []) (numbers (read_from text p.end))));
        }
