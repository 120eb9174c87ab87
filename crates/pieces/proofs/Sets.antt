-- The sets of bytes in the code are the specification's classes: each by one test, computed at every byte.
-- Assumes nothing.
use mathlib.Core.Bool.{Bool, true, false}
use mathlib.Core.Path.{◌≡◌, refl}
use Prim.Native.Nat.{ℕ, ◌<◌}
use Rattle.shared.proofs.Below.{agree_below}
use Rattle.pieces.specs.declared.bytes.Class.{Class}
use Rattle.pieces.specs.declared.bytes.Class.TheVariants.{Gap, Single, Quote, Word, Operator, Unclassed}
use Rattle.pieces.specs.Class.{class, is_word, is_operator}
use Rattle.pieces.specs.Sets.{member, is_gap, is_single, is_quote}

-- the sets, as the code has them
abbrev pub gap_set : ℕ → Bool
gap_set = member 0x1_0000_0400 0 false

abbrev pub single_set : ℕ → Bool
single_set = member 0x8800_1300_0000_0000 0x2800_0000_2800_0000 false

abbrev pub quote_set : ℕ → Bool
quote_set = member 0x84_0000_0000 0 false

abbrev pub word_set : ℕ → Bool
word_set = member 0x03ff_0000_0000_0000 0x07ff_fffe_87ff_fffe true

abbrev pub operator_set : ℕ → Bool
operator_set = member 0x7400_ec7a_0000_0000 0x5000_0001_5000_0001 false

module _ (b : ℕ) (byte : b < 256) where
  pub gaps : gap_set b ≡ is_gap (class b)
  unfolding class
  gaps = agree_below 256 gap_set (λ b. is_gap (class b)) refl b byte

  pub singles : single_set b ≡ is_single (class b)
  unfolding class
  singles = agree_below 256 single_set (λ b. is_single (class b)) refl b byte

  pub quotes : quote_set b ≡ is_quote (class b)
  unfolding class
  quotes = agree_below 256 quote_set (λ b. is_quote (class b)) refl b byte

  pub words : word_set b ≡ is_word (class b)
  unfolding class
  words = agree_below 256 word_set (λ b. is_word (class b)) refl b byte

  pub operators : operator_set b ≡ is_operator (class b)
  unfolding class
  operators = agree_below 256 operator_set (λ b. is_operator (class b)) refl b byte

-- ---- a class by its test

pub gap_of : (c : Class) → is_gap c ≡ true → c ≡ Gap
gap_of Gap e = refl
gap_of Single e = cc
gap_of Quote e = cc
gap_of Word e = cc
gap_of Operator e = cc
gap_of Unclassed e = cc

pub single_of : (c : Class) → is_single c ≡ true → c ≡ Single
single_of Gap e = cc
single_of Single e = refl
single_of Quote e = cc
single_of Word e = cc
single_of Operator e = cc
single_of Unclassed e = cc

pub quote_of : (c : Class) → is_quote c ≡ true → c ≡ Quote
quote_of Gap e = cc
quote_of Single e = cc
quote_of Quote e = refl
quote_of Word e = cc
quote_of Operator e = cc
quote_of Unclassed e = cc

pub word_of : (c : Class) → is_word c ≡ true → c ≡ Word
word_of Gap e = cc
word_of Single e = cc
word_of Quote e = cc
word_of Word e = refl
word_of Operator e = cc
word_of Unclassed e = cc

pub operator_of : (c : Class) → is_operator c ≡ true → c ≡ Operator
operator_of Gap e = cc
operator_of Single e = cc
operator_of Quote e = cc
operator_of Word e = cc
operator_of Operator e = refl
operator_of Unclassed e = cc

pub unclassed_of : (c : Class) → is_word c ≡ false → is_operator c ≡ false → is_single c ≡ false → is_gap c ≡ false → is_quote c ≡ false → c ≡ Unclassed
unclassed_of Gap w o s g q = cc
unclassed_of Single w o s g q = cc
unclassed_of Quote w o s g q = cc
unclassed_of Word w o s g q = cc
unclassed_of Operator w o s g q = cc
unclassed_of Unclassed w o s g q = refl

pub ruleset class_by_tests = (gap_of, single_of, quote_of, word_of, operator_of, unclassed_of)
