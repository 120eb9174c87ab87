-- The digits that an input begins with are a numeral. Assumes nothing.
use Rattle.std.proofs.Common.{◌≡◌, ℕ, ◌+◌, ◌<◌, ◌≤◌, ◌==◌, Bool, true, false, cond, List, [], ◌∷◌, length, drop, refl, arith, ap, subst, ◌∙◌, length-drop, drop-drop, Bor}
use Rattle.std.specs.Char.{is_ascii_digit, digit_value}
use Rattle.std.specs.Str.Parse.{AllDigits, without_leading_plus, digits_value, ParsesUnsigned}
use Rattle.std.proofs.lemmas.List.Sums.{take_while-cons}
use Rattle.std.proofs.lemmas.List.Folds.{length-prefix_len}
use Rattle.std.proofs.lemmas.Grind.{common_steps}
use Rattle.std.specs.Prelude.{Result, Ok, Err, None, Some, MatchResult, SomeIff}
use Rattle.std.specs.List.{prefix_len}
use Rattle.std.specs.Result.{result_ok}
use Rattle.std.specs.Str.{IsUtf8}
use Rattle.std.proofs.lemmas.Str.{IsUtf8-from_ascii}
use Rattle.std.proofs.lemmas.Fmt.{IsAscii-from_digits}
use Rattle.console.specs.Number.{digits, HasNumber}

digit_small : (x : ℕ) → is_ascii_digit x ≡ true → digit_value x < 10
digit_small x e = grind (arith, common_steps)

pub all_digits : (l : List ℕ) → AllDigits 10 (digits l)
all_digits [] = tt
all_digits (x ∷ xs) =
    let P : Bool → Type 0 = λ v. is_ascii_digit x ≡ v → AllDigits 10 (cond v (x ∷ digits xs) []) in
    rw (take_while-cons is_ascii_digit x xs)
    (elim (is_ascii_digit x) as P [ true ↦ λ e. (digit_small x e, all_digits xs) | false ↦ λ e. tt ] refl)

-- no plus comes first
no_plus : (x : ℕ) → digit_value x < 10 → (x == 43) ≡ false
no_plus x h = grind (arith, common_steps)

pub plus_none : (ds : List ℕ) → AllDigits 10 ds → without_leading_plus ds ≡ ds
plus_none [] h = refl
plus_none (d ∷ ds) h = rw (no_plus d h.0)

-- they are text
pub digits_utf8 : (l : List ℕ) → IsUtf8 (digits l)
digits_utf8 l = IsUtf8-from_ascii (digits l) (IsAscii-from_digits (digits l) (all_digits l))

-- ---- what is read of them

module _ {E : Type 0} (B : E → Type 0) {bs : List ℕ} where
  pub text_read : (r : Result (Bor (List ℕ)) E) → MatchResult r (λ s. (s.now ≡ bs) × IsUtf8 bs) (λ e. ¬ (IsUtf8 bs) × B e) → result_ok r ≡ None → IsUtf8 bs → ⊥
  text_read (Ok s) m e u = cc
  text_read (Err x) m e u = m.0 u

  pub text_is : (r : Result (Bor (List ℕ)) E) {s : Bor (List ℕ)} → MatchResult r (λ s. (s.now ≡ bs) × IsUtf8 bs) (λ e. ¬ (IsUtf8 bs) × B e) → result_ok r ≡ Some s → s.now ≡ bs
  text_is (Ok t) {s} m e = let q : t ≡ s = cc in subst (λ t. t.now ≡ bs) q m.0
  text_is (Err x) m e = absurd (cc)

pub number_read : {E : Type 0} (l : List ℕ) (r : Result ℕ E) → ParsesUnsigned 64 10 (digits l) r → length (digits l) < length l →
    SomeIff (result_ok r) (HasNumber l) (digits_value 10 (digits l))
number_read l (Ok x) p h =
    let q = rw (plus_none (digits l) (all_digits l)) at p in ((q.0.0.0, h, q.0.1), q.1)
number_read l (Err x) p h =
    let q = rw (plus_none (digits l) (all_digits l)) at p in λ has. q ((has.0, all_digits l), has.2)

-- ---- what is left

empty : (rest : List ℕ) → length rest < 1 → rest ≡ drop 1 rest
empty [] h = refl
empty (x ∷ xs) h = absurd (omega arith)

module _ (l rest : List ℕ) (e : rest ≡ drop (prefix_len is_ascii_digit l) l) where
  pub left_after : drop 1 rest ≡ drop (length (digits l) + 1) l
  left_after = rw (e, length-prefix_len is_ascii_digit l) (drop-drop 1 (prefix_len is_ascii_digit l) l)

  pub none_left : length rest < 1 → rest ≡ drop (length (digits l) + 1) l
  none_left h = empty rest h ∙ left_after

  pub not_last : 1 ≤ length rest → length (digits l) < length l
  not_last h = omega (arith, length-prefix_len is_ascii_digit l, length-drop (prefix_len is_ascii_digit l) l, ap length e)

  pub none_has : length rest < 1 → ¬ (HasNumber l)
  none_has h has = omega (arith, has.1, length-prefix_len is_ascii_digit l, length-drop (prefix_len is_ascii_digit l) l, ap length e)
