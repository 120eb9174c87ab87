-- The form of a line's head, a byte at a time. Assumes nothing.
use mathlib.Core.Bool.{Bool, true, false, cond, ◌&&◌}
use mathlib.Core.List.{List, [], ◌∷◌}
use mathlib.Core.Path.{◌≡◌, refl, ◌∙◌}
use Prim.Native.Nat.{ℕ, ◌+◌, ◌-◌, ◌*◌, ◌≤◌, ◌<◌}
use native.Mathlib.Omega.{arith}
use lib.Dec.{eqb, leb, ltb}
use lib.ListN.{length, get_or, drop, length-drop}
use borrow.Author.Tests.{ne_eqb, le-leb, lt-leb, leb-true, ltb-true}
use Rattle.shared.specs.Bytes.{line_feed, digit}
use Rattle.shared.proofs.Lines.{line_within}
use Rattle.shared.proofs.Logic.{and_left, and_right}
use Rattle.rows.specs.KindNumber.{what_number}
use Rattle.rows.specs.declared.kind.What.{What}
use Rattle.rows.specs.declared.kind.What.TheVariants.{Leading, Token, Trailing}
use Rattle.std.specs.Prelude.{Option, None, Some}
use Rattle.sheet.specs.declared.line.Head.{Head}
use Rattle.sheet.specs.Line.{Line, bad, text_of, row_of, space_and_text, is_second, kind_from, kind_and_text, space_and_kind, what_of, line_of}
use Rattle.sheet.specs.Steps.{line_at, after_at, Headed, HeadAt}
use Rattle.sheet.proofs.Cut.{line_here, line_more, rest_more}

-- a choice between bad and bad
both : (b : Bool) → cond b bad bad ≡ bad
both true = refl
both false = refl

-- the shortest line has 5 bytes
too_short : (l : List ℕ) → length l < 5 → line_of l ≡ bad
unfolding line_of text_of
too_short [] h = refl
too_short (a ∷ []) h = both (leb (what_of a) 2)
too_short (a ∷ b ∷ []) h = rw (both (eqb b 32), both (leb (what_of a) 2))
too_short (a ∷ b ∷ c ∷ []) h = rw (both (digit c), both (eqb b 32), both (leb (what_of a) 2))
too_short (a ∷ b ∷ c ∷ d ∷ []) h = rw (both (eqb d 32), both (is_second (c - 48) d), both (digit c), both (eqb b 32), both (leb (what_of a) 2))
too_short (a ∷ b ∷ c ∷ d ∷ e ∷ l) h = absurd (omega arith)

-- ---- digits

pub digit_low : (b : ℕ) → digit b ≡ true → 48 ≤ b
digit_low b e = leb-true 48 b (and_left (leb 48 b) (leb b 57) e)

pub digit_high : (b : ℕ) → digit b ≡ true → b ≤ 57
digit_high b e = leb-true b 57 (and_right (leb 48 b) (leb b 57) e)

pub second-digit : (k b : ℕ) → is_second k b ≡ true → digit b ≡ true
second-digit k b e = and_left (digit b) (ltb 0 k && leb (10 * k + (b - 48)) 34) e

pub second_some : (k b : ℕ) → is_second k b ≡ true → 0 < k
second_some k b e = ltb-true 0 k (and_left (ltb 0 k) (leb (10 * k + (b - 48)) 34) (and_right (digit b) (ltb 0 k && leb (10 * k + (b - 48)) 34) e))

pub second-small : (k b : ℕ) → is_second k b ≡ true → 10 * k + (b - 48) ≤ 34
second-small k b e = leb-true (10 * k + (b - 48)) 34 (and_right (ltb 0 k) (leb (10 * k + (b - 48)) 34) (and_right (digit b) (ltb 0 k && leb (10 * k + (b - 48)) 34) e))

-- a digit is no line feed, nor is the byte of a what
pub digit-solid : (b : ℕ) → digit b ≡ true → b ≡ 10 → ⊥
digit-solid b e q = let h = digit_low b e in omega arith

pub what-solid : (b : ℕ) → what_of b ≤ 2 → b ≡ 10 → ⊥
what-solid b h q = let e : what_of b ≡ 3 = rw q in omega arith

pub what-small : (w : What) → what_number w ≤ 2
what-small Leading = omega arith
what-small Token = omega arith
what-small Trailing = omega arith

-- a head after bytes that have been read
onward : {said said' : Line} (sheet : List ℕ) (at at' : ℕ) (r : Option Head) → said ≡ said' → after_at sheet at ≡ after_at sheet at' → at ≤ at' → HeadAt said' sheet at' r → HeadAt said sheet at r
onward sheet at at' (Some head) e b h σ = record { says = e ∙ σ.says; rest = b ∙ σ.rest; after = omega (arith, σ.after); within = σ.within }
onward sheet at at' None e b h σ = e ∙ σ

-- ---- the kind, from an index on

module _ (sheet : List ℕ) (i : ℕ) (h : i < length sheet) (what k : ℕ) where
  space_here : get_or sheet i 0 ≡ 32 → space_and_text what k (line_at sheet i) ≡ row_of what k (text_of false (line_at sheet (i + 1)))
  space_here e = rw (line_here sheet i h, e)

  no_space : (get_or sheet i 0 ≡ 32 → ⊥) → space_and_text what k (line_at sheet i) ≡ bad
  no_space n = rw (line_here sheet i h, ne_eqb (get_or sheet i 0) 32 n)

  rest-space : get_or sheet i 0 ≡ 32 → after_at sheet i ≡ after_at sheet (i + 1)
  rest-space e = rest_more sheet i h (λ q. let z : ◌≡◌ {A = ℕ} 10 32 = cc in omega arith)

module _ (sheet : List ℕ) (at what : ℕ) (h : at + 3 ≤ length sheet) where
  pub kind-none : digit (get_or sheet at 0) ≡ false → kind_and_text what (line_at sheet at) ≡ bad
  kind-none e = rw (line_here sheet at (omega arith), e)

  module _ (d : digit (get_or sheet at 0) ≡ true) where
    one_digit : kind_and_text what (line_at sheet at) ≡ kind_from what (get_or sheet at 0 - 48) (line_at sheet (at + 1))
    one_digit = rw (line_more sheet at (omega arith) (digit-solid (get_or sheet at 0) d), d)

    rest_one : after_at sheet at ≡ after_at sheet (at + 1)
    rest_one = rest_more sheet at (omega arith) (digit-solid (get_or sheet at 0) d)

    module _ (s : is_second (get_or sheet at 0 - 48) (get_or sheet (at + 1) 0) ≡ true) where
      two : at + 1 + 1 ≡ at + 2
      two = omega arith

      second-solid : get_or sheet (at + 1) 0 ≡ 10 → ⊥
      second-solid = digit-solid (get_or sheet (at + 1) 0) (second-digit (get_or sheet at 0 - 48) (get_or sheet (at + 1) 0) s)

      two_digits : kind_and_text what (line_at sheet at) ≡ space_and_text what (10 * (get_or sheet at 0 - 48) + (get_or sheet (at + 1) 0 - 48)) (line_at sheet (at + 2))
      two_digits = one_digit ∙ rw (line_more sheet (at + 1) (omega arith) second-solid, s, two)

      pub kind_two : get_or sheet (at + 2) 0 ≡ 32 → Headed (kind_and_text what (line_at sheet at)) sheet at what (10 * (get_or sheet at 0 - 48) + (get_or sheet (at + 1) 0 - 48)) (at + 3)
      kind_two e =
          let three : at + 2 + 1 ≡ at + 3 = omega arith in
          let b : after_at sheet (at + 2) ≡ after_at sheet (at + 3) = rest-space sheet (at + 2) (omega arith) what 0 e ∙ rw three in
          record {
            says = two_digits ∙ space_here sheet (at + 2) (omega arith) _ _ e ∙ rw three;
            rest = rest_one ∙ rest_more sheet (at + 1) (omega arith) second-solid ∙ rw two b;
            after = omega arith;
            within = h;
          }

      pub kind_two_bad : (get_or sheet (at + 2) 0 ≡ 32 → ⊥) → kind_and_text what (line_at sheet at) ≡ bad
      kind_two_bad n = two_digits ∙ no_space sheet (at + 2) (omega arith) _ _ n

    module _ (s : is_second (get_or sheet at 0 - 48) (get_or sheet (at + 1) 0) ≡ false) where
      only_digit : kind_and_text what (line_at sheet at) ≡ space_and_text what (get_or sheet at 0 - 48) (line_at sheet (at + 1))
      only_digit = one_digit ∙ rw (line_here sheet (at + 1) (omega arith), s)

      pub kind_one : get_or sheet (at + 1) 0 ≡ 32 → Headed (kind_and_text what (line_at sheet at)) sheet at what (get_or sheet at 0 - 48) (at + 2)
      kind_one e =
          let two : at + 1 + 1 ≡ at + 2 = omega arith in
          record {
            says = only_digit ∙ space_here sheet (at + 1) (omega arith) _ _ e ∙ rw two;
            rest = rest_one ∙ rest-space sheet (at + 1) (omega arith) what 0 e ∙ rw two;
            after = omega arith;
            within = omega arith;
          }

      pub kind_one_bad : (get_or sheet (at + 1) 0 ≡ 32 → ⊥) → kind_and_text what (line_at sheet at) ≡ bad
      kind_one_bad n = only_digit ∙ no_space sheet (at + 1) (omega arith) _ _ n

-- ---- the head

pub head_short : (sheet : List ℕ) (at : ℕ) → length sheet < at + 5 → line_of (line_at sheet at) ≡ bad
head_short sheet at h = too_short (line_at sheet at) (omega (arith, line_within line_feed (drop at sheet) (omega arith), length-drop at sheet))

module _ (sheet : List ℕ) (at : ℕ) (h : at + 5 ≤ length sheet) where
  pub head_other : 2 < what_of (get_or sheet at 0) → line_of (line_at sheet at) ≡ bad
  unfolding line_of
  head_other g = rw (line_here sheet at (omega arith), lt-leb (what_of (get_or sheet at 0)) 2 g)

  module _ (g : what_of (get_or sheet at 0) ≤ 2) where
    after-what : line_of (line_at sheet at) ≡ space_and_kind (what_of (get_or sheet at 0)) (line_at sheet (at + 1))
    unfolding line_of
    after-what = rw (line_more sheet at (omega arith) (what-solid (get_or sheet at 0) g), le-leb (what_of (get_or sheet at 0)) 2 g)

    pub head_unspaced : (get_or sheet (at + 1) 0 ≡ 32 → ⊥) → line_of (line_at sheet at) ≡ bad
    head_unspaced n = after-what ∙ rw (line_here sheet (at + 1) (omega arith), ne_eqb (get_or sheet (at + 1) 0) 32 n)

    pub head-kind : (r : Option Head) → get_or sheet (at + 1) 0 ≡ 32 → HeadAt (kind_and_text (what_of (get_or sheet at 0)) (line_at sheet (at + 2))) sheet (at + 2) r → HeadAt (line_of (line_at sheet at)) sheet at r
    head-kind r e σ =
        let two : at + 1 + 1 ≡ at + 2 = omega arith in
        onward sheet at (at + 2) r (after-what ∙ rw (line_here sheet (at + 1) (omega arith), e, two))
        (rest_more sheet at (omega arith) (what-solid (get_or sheet at 0) g) ∙ rest-space sheet (at + 1) (omega arith) 0 0 e ∙ rw two) (omega arith) σ

pub ruleset head_forms = (head_short, head_other, head_unspaced, head-kind, what-small)
