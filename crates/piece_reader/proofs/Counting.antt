-- The loop of `count_pieces`; and the number it counts is what `read_pieces` reads, where there is room. Assumes nothing.
use mathlib.Core.List.{List}
use mathlib.Core.Path.{◌≡◌, refl, sym, ap, subst, ◌∙◌}
use Prim.Native.Nat.{ℕ, suc, ◌+◌, ◌*◌, ◌≤◌, ◌<◌}
use native.Mathlib.Numerals.{add-one}
use native.Mathlib.Omega.{arith}
use lib.ListN.{length}
use Rattle.std.specs.Prelude.{Option, None, Some, Result, Ok, Err}
use Rattle.std.specs.Result.{IsErrAnd}
use borrow.Author.Tests.{le-leb}
use Rattle.shared.specs.Numbers.{most32}
use Rattle.shared.specs.Report.{success}
use Rattle.pieces.specs.Answer.{reported, answer_from, read_answer}
use Rattle.pieces.specs.Reading.{Reading, done, refused, piece, reading, read_from}
use Rattle.pieces.specs.Next.{next}
use Rattle.pieces.specs.declared.Piece.{Piece}
use Rattle.pieces.specs.declared.ReadError.{ReadError}
use Rattle.pieces.specs.declared.ReadError.TheVariants as error
use Rattle.pieces.specs.declared.Unreadable.{Unreadable}
use Rattle.pieces.proofs.Resume.{First, first, next-first, next-done, next-refused}
use Rattle.piece_reader.specs.Reader.{end_of, count_from, count_answer}

-- n pieces were counted, and the text is read from `at` on
pub record Counts (text : List ℕ) (at n : ℕ) : Type 0 where
  pub answer : count_answer text ≡ count_from n (read_from text at)
  pub few : n ≤ at
  pub within : at ≤ length text

-- after one more piece it is read from i on
pub record Went (text : List ℕ) (at i n : ℕ) : Type 0 where
  pub further : at < i
  pub counts : Counts text i (n + 1)

pub start : (text : List ℕ) → Counts text 0 0
unfolding count_answer
start text = record { answer = refl; few = omega arith; within = omega arith }

module _ {text : List ℕ} {at n : ℕ} (σ : Counts text at n) where
  pub finished : Ok None ≡ next (read_from text at) → reported (Ok n) ≡ count_answer text
  unfolding count_from
  finished h = sym (σ.answer ∙ rw (next-done (read_from text at) h))

  pub unread : {u : Unreadable} (a : Result ℕ ReadError) → IsErrAnd a (λ e. e ≡ error.Unreadable u.index) → Err u ≡ next (read_from text at) → reported a ≡ count_answer text
  unfolding count_from
  unread (Ok m) k h = absurd k
  unread (Err e) k h = rw k (sym (σ.answer ∙ rw (next-refused (read_from text at) h)))

  -- the same, where the error of `next_piece` was made one of the call
  pub unread_as : (s : Result (Option Piece) Unreadable) (e : ReadError) (a : Result ℕ ReadError) → IsErrAnd s (λ u. e ≡ error.Unreadable u.index) → IsErrAnd a (λ x. x ≡ e) → s ≡ next (read_from text at) → reported a ≡ count_answer text
  unread_as (Ok p) e a k g h = absurd k
  unread_as (Err u) e (Ok m) k g h = absurd g
  unread_as (Err u) e (Err x) k g h = unread (Err x) (g ∙ k) h

  module _ {p : Piece} (h : Ok (Some p) ≡ next (read_from text at)) where
    pub head : First text at p.start p.end
    head = next-first text at h

    pub more : Counts text p.end (n + 1)
    unfolding count_from
    more = record { answer = σ.answer ∙ rw (head.reads, add-one); few = omega (arith, σ.few, head.after, head.some); within = head.within }

  -- a piece stood next, and the reader went on
  pub went : {p : Piece} {i : ℕ} → Ok (Some p) ≡ next (read_from text at) → i ≡ end_of at (next (read_from text at)) → Went text at i n
  went {p} {i} h e =
      let φ = head h in
      let there : p.end ≡ i = sym (e ∙ ap (end_of at) (sym h)) in
      record {
        further = omega (arith, there, φ.after, φ.some);
        counts = subst (λ j. Counts text j (n + 1)) there (more h);
      }

pub ruleset counting = (start, finished, unread)

-- n is at least what was counted already
least : (r : Reading) (k n : ℕ) → count_from k r ≡ success n 0 0 → k ≤ n
unfolding count_from
least done k n h = omega (arith, ap (λ x. x.first) h)
least (refused i) k n h = absurd (omega (arith, ap (λ x. x.refusal) h))
least (piece s e r) k n h = omega (arith, least r (suc k) n h)

module _ (text : List ℕ) (size n : ℕ) (short : length text ≤ most32) (room : 2 * n ≤ size) where
  fits_from : (r : Reading) (at k : ℕ) → read_from text at ≡ r → count_from k r ≡ success n 0 0 → answer_from size k r ≡ success n 0 0
  unfolding count_from answer_from
  fits_from done at k h c = c
  fits_from (refused i) at k h c = c
  fits_from (piece s e r) at k h c =
      let φ = first text at h in
      let after : read_from text e ≡ r = cc in
      rw (le-leb (2 * k + 2) size (omega (arith, room, least r (suc k) n c)), le-leb e most32 (omega (arith, short, φ.within))) (fits_from r e (suc k) after c)

  -- Where `count_pieces` answers n, a slice of 2 n numbers has room for all pieces.
  pub counted-fit : count_answer text ≡ success n 0 0 → read_answer text size ≡ success n 0 0
  unfolding count_answer read_answer
  counted-fit c = fits_from (reading text) 0 0 refl c
