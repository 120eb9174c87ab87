-- Names of four to eight bytes, by their first four and last four bytes in one number. Assumes nothing.
use mathlib.Core.Bool.{Bool, true}
use mathlib.Core.List.{List, [], ◌∷◌}
use mathlib.Core.Path.{◌≡◌, refl, sym, ◌∙◌}
use Prim.Native.Nat.{ℕ, zero, suc, ◌+◌, ◌-◌, ◌*◌, ◌≤◌, ◌<◌}
use native.Mathlib.Numerals.{add-one}
use native.Mathlib.Omega.{arith}
use lib.Bits.{bit_and, bit_xor}
use lib.Dec.{eqb}
use lib.ListN.{length, get_or, take, drop}
use lib.Seq.{drop-cons}
use Rattle.shared.proofs.Logic.{and_left, and_right}
use Rattle.pieces.specs.Class.{class}
use Rattle.pieces.specs.Sets.{all}
use Rattle.pieces.specs.Eight.{eight_ones}
use Rattle.pieces.proofs.Eight.{Bytes, Each, same_each, and_each, xor_each, eight_test}
use Rattle.plain.specs.Scan.{is_word_byte, run_of}
use Rattle.plain.specs.Eight.{fours_of, letters_in, words_in}
use Rattle.plain.proofs.Eight.{highs, letters_each, highs_each, eight_words}
use Rattle.plain.proofs.Runs.{all_parts, both_ends, only_words}

-- the code's test, of as many bytes as `ones` has the byte 1: with its high bit set a byte is no letter
abbrev letter_bits : ℕ → ℕ → ℕ
letter_bits ones x = highs ones (bit_and (letters_in ones x) (bit_xor x (128 * ones)))

abbrev is_letter : ℕ → Bool
is_letter b = eqb (letter_bits 1 b) 128

letter_word : (b : ℕ) → b < 256 → is_letter b ≡ true → is_word_byte b ≡ true
unfolding class
letter_word = only_words is_letter refl

letters_words : (s : List ℕ) → Bytes s → all is_letter s ≡ true → all is_word_byte s ≡ true
letters_words [] bytes e = refl
letters_words (b ∷ s) bytes e =
    rw (letter_word b (bytes 0) (and_left (is_letter b) (all is_letter s) e))
    (letters_words s (λ j. bytes (suc j)) (and_right (is_letter b) (all is_letter s) e))

only_letters : {w : List ℕ} {x : ℕ} → Each w (λ b. b) x → Each w (letter_bits 1) (letter_bits eight_ones x)
only_letters ξ = highs_each (and_each (letters_each ξ) (xor_each ξ (same_each ξ 128 (omega arith))))

-- ---- the bytes of the number

here : (w : List ℕ) (i : ℕ) {j : ℕ} → i < length w → j ≡ i + 1 → drop i w ≡ get_or w i 0 ∷ drop j w
here w i h e = rw (e, add-one i) (drop-cons w i 0 h)

four : (w : List ℕ) (i : ℕ) → i + 4 ≤ length w → take 4 (drop i w) ≡ get_or w i 0 ∷ get_or w (i + 1) 0 ∷ get_or w (i + 2) 0 ∷ get_or w (i + 3) 0 ∷ []
four w i h =
    rw (here w i {j = i + 1} (omega arith) refl, here w (i + 1) {j = i + 2} (omega arith) (omega arith), here w (i + 2) {j = i + 3} (omega arith) (omega arith), here w (i + 3) {j = i + 4} (omega arith) (omega arith))

bytes_eight : (a b c d e f g h : ℕ) → a < 256 → b < 256 → c < 256 → d < 256 → e < 256 → f < 256 → g < 256 → h < 256 → Bytes (a ∷ b ∷ c ∷ d ∷ e ∷ f ∷ g ∷ h ∷ [])
bytes_eight a b c d e f g h pa pb pc pd pe pf pg ph zero = pa
bytes_eight a b c d e f g h pa pb pc pd pe pf pg ph (suc zero) = pb
bytes_eight a b c d e f g h pa pb pc pd pe pf pg ph (suc (suc zero)) = pc
bytes_eight a b c d e f g h pa pb pc pd pe pf pg ph (suc (suc (suc zero))) = pd
bytes_eight a b c d e f g h pa pb pc pd pe pf pg ph (suc (suc (suc (suc zero)))) = pe
bytes_eight a b c d e f g h pa pb pc pd pe pf pg ph (suc (suc (suc (suc (suc zero))))) = pf
bytes_eight a b c d e f g h pa pb pc pd pe pf pg ph (suc (suc (suc (suc (suc (suc zero)))))) = pg
bytes_eight a b c d e f g h pa pb pc pd pe pf pg ph (suc (suc (suc (suc (suc (suc (suc zero))))))) = ph
bytes_eight a b c d e f g h pa pb pc pd pe pf pg ph (suc (suc (suc (suc (suc (suc (suc (suc j)))))))) = omega arith

module _ (w : List ℕ) (h : 4 ≤ length w) (k : length w ≤ 8) (bytes : Bytes w) where
  abbrev from : ℕ
  from = length w - 4

  abbrev parts : List ℕ
  parts = get_or w 0 0 ∷ get_or w 1 0 ∷ get_or w 2 0 ∷ get_or w 3 0 ∷ get_or w from 0 ∷ get_or w (from + 1) 0 ∷ get_or w (from + 2) 0 ∷ get_or w (from + 3) 0 ∷ []

  small : Bytes parts
  small = bytes_eight (get_or w 0 0) (get_or w 1 0) (get_or w 2 0) (get_or w 3 0) (get_or w from 0) (get_or w (from + 1) 0) (get_or w (from + 2) 0) (get_or w (from + 3) 0) (bytes 0) (bytes 1) (bytes 2) (bytes 3) (bytes from) (bytes (from + 1)) (bytes (from + 2)) (bytes (from + 3))

  covered : all is_word_byte parts ≡ run_of is_word_byte w
  covered =
      let low : all is_word_byte (take 4 w) ≡ all is_word_byte (take 4 parts) = rw (four w 0 (omega arith)) in
      let high : all is_word_byte (take 4 (drop from w)) ≡ all is_word_byte (drop 4 parts) = rw (four w from (omega arith)) in
      all_parts is_word_byte 4 parts ∙ rw (← low, ← high) (both_ends 4 is_word_byte w h (omega arith) (omega arith))

  module _ {x : ℕ} (e : x ≡ fours_of w) where
    pub letters_run : eqb (letter_bits eight_ones x) (128 * eight_ones) ≡ true → run_of is_word_byte w ≡ true
    letters_run t =
        let whole = eight_test parts 0 (omega arith) small (letter_bits 1) is_letter (λ b g. refl) {x = x} (omega arith) only_letters in
        sym covered ∙ letters_words parts small (sym whole ∙ t)

    pub fours_run : eqb (highs eight_ones (words_in eight_ones x)) (128 * eight_ones) ≡ run_of is_word_byte w
    fours_run = eight_words parts small 0 (omega arith) {x = x} (omega arith) ∙ covered
