-- `console::Left::number` meets its contract. Assumes nothing.
use Rattle.std.proofs.Common.{◌≡◌, drop, take, subst, sym, ◌∙◌, ap}
use Rattle.std.specs.Prelude.{SomeIff}
use Rattle.std.specs.Str.{IsUtf8}
use Rattle.std.specs.Str.Parse.{digits_value, ParsesUnsigned}
use Rattle.console.specs.Number.{digits, HasNumber}
use Rattle.console.proofs.Digits.{digits_utf8, text_read, text_is, number_read, left_after, none_left, none_has, not_last}
use Rattle.console.proofs.Left.number.Goals as goal

module _ (c : goal.After-from_residual-in_err-digits) where
  taken : c.in_ok-take.field-0.now ≡ digits c.args.self.now.bytes.now
  taken = c.in_ok-take.ensures.taken.1 ∙ ap (λ n. take n c.args.self.now.bytes.now) c.digits_len-size.ensures

  wrong : ⊥
  wrong = text_read _ c.from_utf8.result c.from_utf8.ensures.cases (sym c.ok.ensures.value ∙ c.in_err-digits.was) (subst IsUtf8 (sym taken) (digits_utf8 c.args.self.now.bytes.now))

pub returns-in_err-digits-clause-value : goal.returns-in_err-digits-clause-value
returns-in_err-digits-clause-value c = absurd (wrong c)

pub returns-in_err-digits-clause-left : goal.returns-in_err-digits-clause-left
returns-in_err-digits-clause-left c = absurd (wrong c)

pub returns-in_err-take-2-clause-value : goal.returns-in_err-take-2-clause-value
returns-in_err-take-2-clause-value c =
    let l = c.args.self.now.bytes.now in
    let e : c.take.new.self.bytes.now ≡ drop _ l = c.in_ok-take.ensures.left ∙ ap (λ n. drop n l) c.digits_len-size.ensures in
    rw c.from_residual-in_err-take-2.ensures (none_has l _ e c.in_err-take-2.ensures.taken)

pub returns-in_err-take-2-clause-left : goal.returns-in_err-take-2-clause-left
returns-in_err-take-2-clause-left c =
    let l = c.args.self.now.bytes.now in
    let e : c.take.new.self.bytes.now ≡ drop _ l = c.in_ok-take.ensures.left ∙ ap (λ n. drop n l) c.digits_len-size.ensures in
    c.in_err-take-2.ensures.left ∙ none_left l _ e c.in_err-take-2.ensures.taken

pub returns-in_err-number-clause-value : goal.returns-in_err-number-clause-value
returns-in_err-number-clause-value c =
    let l = c.args.self.now.bytes.now in
    let t : c.in_ok-take.field-0.now ≡ digits l = c.in_ok-take.ensures.taken.1 ∙ ap (λ n. take n l) c.digits_len-size.ensures in
    let e : c.take.new.self.bytes.now ≡ drop _ l = c.in_ok-take.ensures.left ∙ ap (λ n. drop n l) c.digits_len-size.ensures in
    let q = text_is _ c.from_utf8.result c.from_utf8.ensures.cases (sym c.ok.ensures.value ∙ c.in_ok-digits.was) ∙ t in
    let v = number_read l c.parse.result (subst (λ bs. ParsesUnsigned 64 10 bs c.parse.result) q c.parse.ensures.value.0) (not_last l _ e c.in_ok-take-2.ensures.taken.0) in
    subst (λ o. SomeIff o (HasNumber l) (digits_value 10 (digits l))) (sym c.ok-2.ensures.value ∙ c.in_err-number.was ∙ sym c.from_residual-in_err-number.ensures) v

pub returns-in_err-number-clause-left : goal.returns-in_err-number-clause-left
returns-in_err-number-clause-left c =
    let l = c.args.self.now.bytes.now in
    let e : c.take.new.self.bytes.now ≡ drop _ l = c.in_ok-take.ensures.left ∙ ap (λ n. drop n l) c.digits_len-size.ensures in
    c.in_ok-take-2.ensures.left ∙ left_after l _ e

pub returns-clause-left : goal.returns-clause-left
returns-clause-left c =
    let l = c.args.self.now.bytes.now in
    let e : c.take.new.self.bytes.now ≡ drop _ l = c.in_ok-take.ensures.left ∙ ap (λ n. drop n l) c.digits_len-size.ensures in
    c.in_ok-take-2.ensures.left ∙ left_after l _ e
