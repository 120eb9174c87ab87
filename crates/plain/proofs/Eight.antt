-- The test of eight bytes at once for word bytes. Assumes nothing.
use mathlib.Core.Bool.{◌&&◌}
use mathlib.Core.List.{List}
use mathlib.Core.Path.{◌≡◌, refl, sym, ap, ap₂, ◌∙◌}
use Prim.Native.Nat.{ℕ, zero, suc, ◌+◌, ◌-◌, ◌*◌, ◌/◌, ◌%◌, ◌≤◌, ◌<◌}
use native.Mathlib.Nat.{div-add-mod', mod-lt, max-le}
use native.Mathlib.Omega.{arith}
use lib.Arith.{bin_ind}
use lib.Bits.{bit_and, bit_or, bit_xor, and_zero_r, and_comm, and_self, and_le_r, and_block, and_shr, and_mod, or_step, xor_lt}
use lib.Dec.{eqb}
use lib.ListN.{length, take, drop}
use borrow.Author.Tests.{eqb-true, eqb-false, ne_eqb}
use Rattle.shared.proofs.Logic.{split}
use Rattle.shared.proofs.Below.{agree_below}
use Rattle.pieces.specs.Class.{class}
use Rattle.pieces.specs.Sets.{all}
use Rattle.pieces.specs.Eight.{eight_at, eight_ones}
use Rattle.pieces.proofs.Eight.{Bytes, Each, same_each, and_each, or_each, xor_each, add_each, eight_test}
use Rattle.plain.specs.Scan.{is_word_byte, run_of}
use Rattle.plain.specs.Eight.{bytes_within, letters_in, words_in}
use Rattle.plain.proofs.Runs.{both_ends}

-- ---- bits under a mask

-- two numbers without bits outside of m have none together
pub or_within : (m a b : ℕ) → bit_or (bit_and a m) (bit_and b m) ≤ m
or_within =
    bin_ind (λ m. (a b : ℕ) → bit_or (bit_and a m) (bit_and b m) ≤ m)
    (λ a b. rw (and_zero_r a, and_zero_r b) (omega arith))
    (λ m ih a b.
    rw (or_step (bit_and a m) (bit_and b m), and_shr a m 1, and_shr b m 1, and_mod a m 1, and_mod b m 1)
    (omega (arith, ih (a / 2) (b / 2), max-le (and_le_r (a % 2) (m % 2)) (and_le_r (b % 2) (m % 2)), div-add-mod' m 2)))

-- by the last binary digit and those before it
digits : (a b : ℕ) → bit_and a b ≡ bit_and (a / 2) (b / 2) * 2 + bit_and (a % 2) (b % 2)
digits a b =
    ap₂ bit_and (sym (div-add-mod' a 2)) (sym (div-add-mod' b 2))
    ∙ and_block 1 (a / 2) (b / 2) (a % 2) (b % 2) (mod-lt a (omega arith)) (mod-lt b (omega arith))

digit_assoc : (r s t : ℕ) → r < 2 → s < 2 → t < 2 → bit_and (bit_and r s) t ≡ bit_and r (bit_and s t)
digit_assoc zero s t hr hs ht = refl
digit_assoc (suc zero) zero t hr hs ht = refl
digit_assoc (suc zero) (suc zero) zero hr hs ht = refl
digit_assoc (suc zero) (suc zero) (suc zero) hr hs ht = refl
digit_assoc (suc zero) (suc zero) (suc (suc t)) hr hs ht = absurd (omega arith)
digit_assoc (suc zero) (suc (suc s)) t hr hs ht = absurd (omega arith)
digit_assoc (suc (suc r)) s t hr hs ht = absurd (omega arith)

bits_assoc : (a b c : ℕ) → bit_and (bit_and a b) c ≡ bit_and a (bit_and b c)
bits_assoc =
    bin_ind (λ a. (b c : ℕ) → bit_and (bit_and a b) c ≡ bit_and a (bit_and b c))
    (λ b c. refl)
    (λ a ih b c.
    rw (digits (bit_and a b) c, digits a (bit_and b c), and_shr a b 1, and_shr b c 1, and_mod a b 1, and_mod b c 1, ih (b / 2) (c / 2))
    (ap (λ d. bit_and (a / 2) (bit_and (b / 2) (c / 2)) * 2 + d) (digit_assoc (a % 2) (b % 2) (c % 2) (mod-lt a (omega arith)) (mod-lt b (omega arith)) (mod-lt c (omega arith)))))

-- both have all bits of h
pub and_both : (a b h : ℕ) → eqb (bit_and (bit_and a b) h) h ≡ eqb (bit_and a h) h && eqb (bit_and b h) h
and_both a b h =
    split (eqb (bit_and a h) h)
    (λ p. rw (p, and_comm a b, bits_assoc b a h, eqb-true (bit_and a h) h p))
    (λ p. rw p (ne_eqb (bit_and (bit_and a b) h) h (λ e. eqb-false (bit_and a h) h p (first e))))
  where
    first : bit_and (bit_and a b) h ≡ h → bit_and a h ≡ h
    first e = ap (bit_and a) (sym e ∙ bits_assoc a b h) ∙ sym (bits_assoc a a (bit_and b h)) ∙ rw (and_self a) (sym (bits_assoc a b h) ∙ e)

-- ---- the code's tests, of as many bytes as `ones` has the byte 1

-- the high bits alone
abbrev pub highs : ℕ → ℕ → ℕ
highs ones x = bit_and x (128 * ones)

one_word : (b : ℕ) → b < 256 → eqb (highs 1 (words_in 1 b)) 128 ≡ is_word_byte b
unfolding class
one_word = agree_below 256 (λ b. eqb (highs 1 (words_in 1 b)) 128) is_word_byte refl

module _ {w : List ℕ} where
  within_each : {f : ℕ → ℕ} {x : ℕ} → Each w f x → ((b : ℕ) → f b ≤ 127) → (first last : ℕ) → Each w (λ b. bytes_within 1 (f b) first last) (bytes_within eight_ones x first last)
  within_each φ low first last = xor_each (add_each φ low (128 - first) (omega arith)) (add_each φ low (127 - last) (omega arith))

  pub highs_each : {f : ℕ → ℕ} {x : ℕ} → Each w f x → Each w (λ b. highs 1 (f b)) (highs eight_ones x)
  highs_each φ = and_each φ (same_each φ 128 (omega arith))

  module _ {x : ℕ} (ξ : Each w (λ b. b) x) where
    low_each : Each w (λ b. bit_and b 127) (bit_and x (127 * eight_ones))
    low_each = and_each ξ (same_each ξ 127 (omega arith))

    small_each : Each w (λ b. 32) (32 * eight_ones)
    small_each = same_each ξ 32 (omega arith)

    pub letters_each : Each w (letters_in 1) (letters_in eight_ones x)
    letters_each = within_each (or_each low_each small_each) (λ b. or_within 127 b 32) 97 122

    words_each : Each w (words_in 1) (words_in eight_ones x)
    words_each =
        let flipped : (b : ℕ) → bit_xor (bit_and b 127) 32 ≤ 127 = λ b. omega (arith, xor_lt 7 (bit_and b 127) 32 (omega (arith, and_le_r b 127)) (omega arith)) in
        or_each (or_each (or_each letters_each (within_each low_each (λ b. and_le_r b 127) 48 57)) (add_each (xor_each low_each small_each) flipped 1 (omega arith))) ξ

module _ (s : List ℕ) (bytes : Bytes s) where
  pub eight_words : (at : ℕ) → at + 8 ≤ length s → {x : ℕ} → x ≡ eight_at s at → eqb (highs eight_ones (words_in eight_ones x)) (128 * eight_ones) ≡ all is_word_byte (take 8 (drop at s))
  eight_words at h e = eight_test s at h bytes (λ b. highs 1 (words_in 1 b)) is_word_byte one_word e (λ ξ. highs_each (words_each ξ))

  -- the first eight and the last eight
  pub two_eights : 8 ≤ length s → length s ≤ 16 → {x y : ℕ} → x ≡ eight_at s 0 → y ≡ eight_at s (length s - 8)
      → eqb (highs eight_ones (bit_and (words_in eight_ones x) (words_in eight_ones y))) (128 * eight_ones) ≡ run_of is_word_byte s
  two_eights h k {x} {y} ex ey =
      and_both (words_in eight_ones x) (words_in eight_ones y) (128 * eight_ones)
      ∙ ap₂ ◌&&◌ (eight_words 0 (omega arith) ex) (eight_words (length s - 8) (omega arith) ey)
      ∙ both_ends 8 is_word_byte s h (omega arith) k
