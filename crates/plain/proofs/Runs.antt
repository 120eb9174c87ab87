-- Runs of bytes of one set: counted off by the loops, and read as one piece. Assumes nothing.
use mathlib.Core.Bool.{Bool, true, false, ◌&&◌, ◌||◌, beq, and_assoc, and-false}
use mathlib.Core.List.{List, [], ◌∷◌}
use mathlib.Core.Path.{◌≡◌, refl, sym, ◌∙◌}
use Prim.Native.Nat.{ℕ, zero, suc, ◌+◌, ◌-◌, ◌≤◌, ◌<◌}
use native.Mathlib.Nat.{add-zero, add-suc, suc-add}
use native.Mathlib.Omega.{arith}
use lib.Bits.{bit_or}
use lib.Dec.{eqb, leb}
use lib.ListN.{length, get_or, take, drop, length-drop}
use lib.Seq.{drop-drop, take_all}
use borrow.Author.Tests.{eq-eqb}
use Rattle.std.specs.List.{list_all}
use Rattle.shared.specs.Bytes.{byte, digit, within}
use Rattle.shared.proofs.Logic.{split, impossible', and_left, and_right}
use Rattle.shared.proofs.Below.{all_below, agree_below}
use Rattle.pieces.specs.declared.bytes.Class.{Class}
use Rattle.pieces.specs.declared.bytes.Class.TheVariants.{Gap, Single, Quote, Word, Operator, Unclassed}
use Rattle.pieces.specs.Class.{class, is_word, is_operator}
use Rattle.pieces.specs.Reading.{done, piece, Kind, word, number, operator, inside, takes, join, opens, begin, peek, read}
use Rattle.pieces.proofs.Sets.{word_of, operator_of}
use Rattle.pieces.proofs.Whole.{Solid}
use Rattle.pieces.specs.Sets.{all}
use Rattle.definition.specs.Plain.{operator_byte, reads_whole, begins_operator}
use Rattle.plain.specs.Scan.{is_word_byte, run_of}

-- ---- the loops

pub run-start : (f : ℕ → Bool) (w : List ℕ) → (length w ≡ 0 → ⊥) → run_of f w ≡ all f (drop 0 w)
run-start f [] n = absurd (n refl)
run-start f (b ∷ w) n = refl

pub run_listed : (f : ℕ → Bool) (w : List ℕ) → (length w ≡ 0 → ⊥) → list_all f w ≡ run_of f w
run_listed f [] n = absurd (n refl)
run_listed f (b ∷ w) n = rw (listed f w)
  where
    listed : (f : ℕ → Bool) (w : List ℕ) → list_all f w ≡ all f w
    listed f [] = refl
    listed f (b ∷ w) = rw (listed f w)

pub run-stop : (f : ℕ → Bool) (w : List ℕ) → 0 < length w → f (get_or w 0 0) ≡ false → false ≡ run_of f w
run-stop f [] h e = absurd (omega arith)
run-stop f (b ∷ w) h e = rw e

quote_no_word : is_word_byte 34 ≡ false
unfolding class
quote_no_word = refl

pub quote_first : (w : List ℕ) → get_or w 0 0 ≡ 34 → 0 < length w → false ≡ run_of is_word_byte w
quote_first w e h = run-stop is_word_byte w h (rw e quote_no_word)

-- ---- in two parts

pub all_parts : (f : ℕ → Bool) (n : ℕ) (w : List ℕ) → all f w ≡ all f (take n w) && all f (drop n w)
all_parts f zero w = refl
all_parts f (suc n) [] = refl
all_parts f (suc n) (b ∷ w) = rw (all_parts f n w) (sym (and_assoc (f b) (all f (take n w)) (all f (drop n w))))

module _ (m : ℕ) (f : ℕ → Bool) (w : List ℕ) (h : m ≤ length w) where
  abbrev last : ℕ
  last = length w - m

  -- the bytes before i are in the set, and i leaves no more than the last m
  pub last_part : (i : ℕ) → all f w ≡ all f (drop i w) → length w ≤ i + m → all f (drop last w) ≡ all f w
  last_part i e l =
      split (all f (drop last w))
      (λ t.
      let o : last + (i - last) ≡ i = omega arith in
      let tail = and_right (all f (take (i - last) (drop last w))) (all f (drop (i - last) (drop last w))) (sym (all_parts f (i - last) (drop last w)) ∙ t) in
      rw t (sym (e ∙ rw (drop-drop, o) at tail)))
      (λ t. rw t (sym (all_parts f last w ∙ rw t (and-false (all f (take last w))))))

  -- the first m and the last m are all
  pub both_ends : 0 < m → length w ≤ m + m → all f (take m w) && all f (take m (drop last w)) ≡ run_of f w
  both_ends some k =
      let run : run_of f w ≡ all f w = run-start f w (λ z. omega arith) in
      let e : take m (drop last w) ≡ drop last w = take_all m (drop last w) (omega (arith, length-drop last w)) in
      split (all f (take m w))
      (λ p. rw (p, e) (last_part m (all_parts f m w ∙ rw p) k ∙ sym run))
      (λ p. rw p (sym (run ∙ all_parts f m w ∙ rw p)))

-- ---- read

-- a kind of piece that takes the bytes of a set
module _ (k : Kind) (f : ℕ → Bool) (taken : (b p : ℕ) → f b ≡ true → join (inside k) b p ≡ takes k) (solid : Solid k) where
  goes_on : (w : List ℕ) (s i : ℕ) → all f w ≡ true → read w (inside k) s i ≡ piece s (i + length w) done
  unfolding read
  goes_on [] s i e = solid s i done ∙ rw add-zero
  goes_on (b ∷ w) s i e = rw (taken b (peek w) (and_left (f b) (all f w) e), add-suc, ← suc-add) (goes_on w s (suc i) (and_right (f b) (all f w) e))

  whole : (b : ℕ) (w : List ℕ) → begin (class b) b ≡ opens k → all f w ≡ true → reads_whole (b ∷ w) ≡ true
  unfolding reads_whole read
  whole b w o e = rw (o, goes_on w 0 1 e) (eq-eqb (1 + length w) (suc (length w)) (omega arith))

-- the first byte and the others
module _ (f : ℕ → Bool) (b : ℕ) (w : List ℕ) (e : run_of f (b ∷ w) ≡ true) where
  first : f b ≡ true
  first = and_left (f b) (all f w) e

  others : all f w ≡ true
  others = and_right (f b) (all f w) e

pub words_whole : (w : List ℕ) → run_of is_word_byte w ≡ true → reads_whole w ≡ true
words_whole [] e = impossible' e
words_whole (b ∷ w) e =
    let c = word_of (class b) (first is_word_byte b w e) in
    let o = others is_word_byte b w e in
    split (digit b)
    (λ d. whole number is_word_byte (λ b p h. rw (word_of (class b) h)) (λ s i r. refl) b w (rw (c, d)) o)
    (λ d. whole word is_word_byte (λ b p h. rw h) (λ s i r. refl) b w (rw (c, d)) o)

pub operators_whole : (w : List ℕ) → run_of operator_byte w ≡ true → reads_whole w ≡ true
operators_whole [] e = impossible' e
operators_whole (b ∷ w) e =
    whole operator operator_byte (λ b p h. rw h) (λ s i r. refl) b w (rw (operator_of (class b) (first operator_byte b w e))) (others operator_byte b w e)

pub operators_begin : (w : List ℕ) → run_of operator_byte w ≡ true → begins_operator w ≡ true
operators_begin [] e = impossible' e
operators_begin (b ∷ w) e = first operator_byte b w e

-- ---- no word byte is an operator byte

apart : (c : Class) → is_word c ≡ true → is_operator c ≡ false
apart Gap e = refl
apart Single e = refl
apart Quote e = refl
apart Word e = refl
apart Operator e = impossible' e
apart Unclassed e = refl

pub words_begin : (w : List ℕ) → run_of is_word_byte w ≡ true → begins_operator w ≡ false
words_begin [] e = refl
words_begin (b ∷ w) e = apart (class b) (first is_word_byte b w e)

-- ---- bytes of a set are word bytes, by one test that is computed at every byte

pub only_words : (f : ℕ → Bool) → all_below 256 (λ b. beq (f b && is_word_byte b) (f b)) ≡ true →
    (b : ℕ) → b < 256 → f b ≡ true → is_word_byte b ≡ true
only_words f t b h e = and_right (f b) (is_word_byte b) (agree_below 256 (λ b. f b && is_word_byte b) f t b h ∙ e)

-- small letters
pub small_word : (b : ℕ) → b < 256 → within (byte "a") (byte "z") b ≡ true → is_word_byte b ≡ true
unfolding class
small_word = only_words (within (byte "a") (byte "z")) refl

-- the tests of a byte that have no branch
abbrev tests : ℕ → Bool
tests b = ((leb 128 b || eqb b 95) || digit b) || within (byte "a") (byte "z") (bit_or b 32)

pub word_tests : (b : ℕ) → b < 256 → tests b ≡ is_word_byte b
unfolding class
word_tests = agree_below 256 tests is_word_byte refl
