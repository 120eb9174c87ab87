-- What a writer keeps, from left to right: its bytes are well separated, and its lexemes are the tokens' with commas inserted.
-- The last two laws are demand 3, from the reader's promise alone. Assumes nothing.
use mathlib.Core.Bool.{true}
use mathlib.Core.List.{List, [], ◌∷◌, ◌++◌, append_assoc, append-nil}
use mathlib.Core.Path.{◌≡◌, refl, sym, ap, ◌∙◌}
use Prim.Native.Nat.{ℕ, zero, suc, ◌+◌, ◌*◌, ◌≤◌}
use native.Mathlib.Nat.{add-zero, zero-add}
use native.Mathlib.Omega.{arith}
use lib.Dec.{T}
use lib.ListN.{length, drop, length-append}
use borrow.Author.Tests.{le-leb}
use Rattle.shared.specs.Report.{success, put_first}
use Rattle.pieces.specs.declared.bytes.Class.TheVariants.{Single}
use Rattle.pieces.specs.Class.{class}
use Rattle.pieces.specs.Reading.{Reading, done, refused, piece, read, reading}
use Rattle.pieces.specs.Answer.{fits, answer_from, numbers, read_answer, read_slots, cut}
use Rattle.pieces.specs.Commas.{closer, struck, Inserted, none, same, more}
use Rattle.pieces.proofs.Whole.{Left, clear, shut, after_word, after_number, after_operator, left_by, Apart, ReadsWhole, undotted, past, past_length}
use Rattle.pieces.proofs.Segments.{Seg, blank, lex, flatten, lexemes, Gaps, after_gap, Separated, end, gap, then, spans, reading_segs, reads_back, separated_append}
use Rattle.pieces.proofs.Striking.{struck_inserted, length_inserted, inserted_append}

-- The bytes out leave `left` open, and hold the tokens' lexemes xs with c commas inserted.
pub record Written (out : List ℕ) (left : Left) (xs : List (List ℕ)) (c : ℕ) : Type 0 where
  pub segs : List Seg
  pub bytes : flatten segs ≡ out
  pub separated : Separated clear segs left
  pub inserted : Inserted xs (lexemes segs) c

pub written_none : Written [] clear [] 0
written_none = record { segs = []; bytes = refl; separated = end; inserted = none }

-- a lexeme of one byte that is a single stands apart from whatever is left open
pub apart_single : (l : Left) (b : ℕ) → class b ≡ Single → Apart l (b ∷ [])
apart_single clear b e = tt
apart_single shut b e = tt
apart_single after_word b e = rw e
apart_single after_number b e = rw (e, undotted b (rw e))
apart_single after_operator b e = rw e

flatten-append : (s t : List Seg) → flatten (s ++ t) ≡ flatten s ++ flatten t
flatten-append [] t = refl
flatten-append (blank g ∷ s) t = rw (flatten-append s t, append_assoc)
flatten-append (lex w ∷ s) t = rw (flatten-append s t, append_assoc)

lexemes-append : (s t : List Seg) → lexemes (s ++ t) ≡ lexemes s ++ lexemes t
lexemes-append [] t = refl
lexemes-append (blank g ∷ s) t = lexemes-append s t
lexemes-append (lex w ∷ s) t = rw (lexemes-append s t)

comma-whole : ReadsWhole (44 ∷ [])
unfolding read class
comma-whole = refl

comma_single : class 44 ≡ Single
unfolding class
comma_single = refl

-- after the comma, with or without a gap, anything stands apart
comma_apart : (g w : List ℕ) → Apart (after_gap (left_by (44 ∷ [])) g) w
unfolding class
comma_apart [] w = tt
comma_apart (b ∷ g) w = tt

module _ {out : List ℕ} {l : Left} {xs : List (List ℕ)} {c : ℕ} (ω : Written out l xs c) where
  on : (t : List Seg) (n : Left) (us : List (List ℕ)) (d : ℕ) → Separated l t n → Inserted us (lexemes t) d → Written (out ++ flatten t) n (xs ++ us) (c + d)
  on t n us d r i =
      record {
        segs = ω.segs ++ t;
        bytes = flatten-append ω.segs t ∙ rw ω.bytes;
        separated = separated_append ω.separated r;
        inserted = rw (lexemes-append ω.segs t) (inserted_append ω.inserted i);
      }

  pub written-gap : (g : List ℕ) → Gaps g → Written (out ++ g) (after_gap l g) xs c
  written-gap g h = simp (append-nil, add-zero) at (on (blank g ∷ []) (after_gap l g) [] 0 (gap h end) none)

  pub written-lexeme : (w : List ℕ) → ReadsWhole w → Apart l w → Written (out ++ w) (left_by w) (xs ++ (w ∷ [])) c
  written-lexeme w e a = simp (append-nil, add-zero) at (on (lex w ∷ []) (left_by w) (w ∷ []) 0 (then e a end) (same none))

  -- an inserted comma, a gap or none, and the closer: one write
  pub written-comma : (g w : List ℕ) → Gaps g → ReadsWhole w → T (closer w) → Written (out ++ (44 ∷ g ++ w)) (left_by w) (xs ++ (w ∷ [])) (c + 1)
  written-comma g w h e t =
      simp append-nil
      at
      (on (lex (44 ∷ []) ∷ blank g ∷ lex w ∷ []) (left_by w) (w ∷ []) 1
      (then comma-whole (apart_single l 44 comma_single) (gap h (then e (comma_apart g w) end)))
      (more t none))

-- ---- what the reader answers for a text whose pieces fit the slice

count : Reading → ℕ
count done = zero
count (refused i) = zero
count (piece s e r) = suc (count r)

-- no refusal, and each end fits 32 bits
abbrev Clean : Reading → Type 0
Clean done = Unit {0}
Clean (refused i) = ⊥
Clean (piece s e r) = (e ≤ 4294967295) × Clean r

fits_yes : (size n e : ℕ) → 2 * n + 2 ≤ size → e ≤ 4294967295 → fits size n e ≡ true
fits_yes size n e h k = rw (le-leb (2 * n + 2) size h, le-leb e 4294967295 k)

answer_clean : (r : Reading) (size n : ℕ) → Clean r → 2 * (n + count r) ≤ size → answer_from size n r ≡ success (n + count r) 0 0
unfolding answer_from count
answer_clean done size n c h = rw add-zero
answer_clean (refused i) size n c h = absurd c
answer_clean (piece s e r) size n c h =
    let next : n + suc (count r) ≡ suc n + count r = omega arith in
    rw (fits_yes size n e (omega arith) c.0, next) (answer_clean r size (suc n) c.1 (omega arith))

clean_spans : (segs : List Seg) (i : ℕ) → i + length (flatten segs) ≤ 4294967295 → Clean (spans segs i)
clean_spans [] i h = tt
clean_spans (blank g ∷ segs) i h = clean_spans segs (past i g) (omega (arith, past_length g i, length-append g (flatten segs)))
clean_spans (lex w ∷ segs) i h =
    let k : past i w + length (flatten segs) ≤ 4294967295 = omega (arith, past_length w i, length-append w (flatten segs)) in
    (omega arith, clean_spans segs (past i w) k)

count_spans : (segs : List Seg) (i : ℕ) → count (spans segs i) ≡ length (lexemes segs)
unfolding count
count_spans [] i = refl
count_spans (blank g ∷ segs) i = count_spans segs (past i g)
count_spans (lex w ∷ segs) i = ap suc (count_spans segs (past i w))

module _ {out : List ℕ} {l : Left} {xs : List (List ℕ)} {c : ℕ} (ω : Written out l xs c) (slots : List ℕ) (room : 2 * (length xs + c) ≤ length slots) (small : length out ≤ 4294967295) where
  -- the number of pieces is the number of lexemes and commas
  pub written-answer : read_answer out (length slots) ≡ success (length xs + c) 0 0
  unfolding read_answer
  written-answer =
      let r = spans ω.segs 0 in
      let many : count r ≡ length xs + c = count_spans ω.segs 0 ∙ length_inserted ω.inserted in
      let back : reading out ≡ r = rw (← ω.bytes) (reading_segs ω.separated) in
      let clean : Clean r = clean_spans ω.segs 0 (omega (arith, ap length ω.bytes)) in
      let all : answer_from (length slots) 0 r ≡ success (0 + count r) 0 0 = answer_clean r (length slots) 0 clean (omega arith) in
      rw (back, all, zero-add, many)

  -- the pieces are the lexemes with the commas inserted
  pub written-pieces : Inserted xs (cut out (length xs + c) (read_slots out slots)) c
  unfolding read_slots
  written-pieces =
      let many : length (lexemes ω.segs) ≡ length xs + c = length_inserted ω.inserted in
      let pieces : cut out (length xs + c) (put_first (numbers (reading out)) slots) ≡ lexemes ω.segs =
      rw (← many, ← ω.bytes) (reads_back (drop (length (numbers (reading (flatten ω.segs)))) slots) ω.separated) in
      rw (written-answer, pieces) ω.inserted

-- two writers with the same text have the same lexemes once the commas before closers are struck out
pub written_same : {out : List ℕ} {l n : Left} {xs ys : List (List ℕ)} {c d : ℕ} → Written out l xs c → Written out n ys d → struck xs ≡ struck ys
written_same ω τ =
    let flat : flatten ω.segs ≡ flatten τ.segs = ω.bytes ∙ sym τ.bytes in
    let spanned : spans ω.segs 0 ≡ spans τ.segs 0 = sym (reading_segs ω.separated) ∙ rw flat (reading_segs τ.separated) in
    let many : length (lexemes ω.segs) ≡ length (lexemes τ.segs) = sym (count_spans ω.segs 0) ∙ ap count spanned ∙ count_spans τ.segs 0 in
    let alike : lexemes ω.segs ≡ lexemes τ.segs = sym (reads_back [] ω.separated) ∙ rw (flat, many) (reads_back [] τ.separated) in
    cc (struck_inserted ω.inserted, struck_inserted τ.inserted)
