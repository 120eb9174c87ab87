-- The layout's answer, from the checks and the walk. Assumes nothing.
use mathlib.Core.Bool.{Bool, true}
use mathlib.Core.List.{List, ◌++◌}
use mathlib.Core.Path.{◌≡◌, refl, ap, ◌∙◌}
use Prim.Native.Nat.{ℕ, ◌≤◌}
use native.Mathlib.Omega.{arith}
use lib.Dec.{eqb, ltb}
use lib.ListN.{length, drop, replicate}
use borrow.Author.Tests.{eqb-true, ne_eqb, ltb-false}
use Rattle.shared.specs.Report.{Report, zeroed, deep, full}
use Rattle.shared.proofs.Logic.{split}
use Rattle.rows.specs.Options.{options_of, most_style, most_indent_width, bad_option}
use Rattle.rows.specs.Answer.{reported as check_reported, each_row_report, rows_report, check_report}
use Rattle.rows.specs.Token.{tokens_of}
use Rattle.rows.proofs.Passed.{Passed, whole_rows, few_rows}
use Rattle.definition.specs.Act.{State}
use Rattle.definition.specs.Plain.{plain}
use Rattle.definition.specs.Layout.{Ended, finished, stopped, lay, laid_out, layout}
use Rattle.definition.proofs.Laid.{sane, lay_sane}
use Rattle.formatter.specs.Format.{CheckedRows, formatted_of, LaidOut}
use Rattle.std.specs.Prelude.{Result, Ok, Err}
use Rattle.std.specs.Result.{IsErrAnd}
use Rattle.format_tokens.specs.declared.Text.{Text}
use Rattle.format_tokens.specs.declared.error.LayoutError.{LayoutError}
use Rattle.rows.specs.declared.CheckError.{CheckError}
use Rattle.rows.specs.declared.CheckError.TheVariants.{BadOption, RaggedRows, BadRow}
use Rattle.formatter.specs.declared.Finished.{Finished}
use Rattle.formatter.specs.declared.WalkError.{WalkError}
use Rattle.format_tokens.specs.Answer.{reported, after_check, after_walk}

-- an answer and an output, as the definition has them
pub record Answers (style indent signature list : ℕ) (rows text out : List ℕ) (report : Report) (after : List ℕ) : Type 0 where
  pub answer : report ≡ (layout style indent signature list rows text out).report
  pub output : after ≡ (layout style indent signature list rows text out).out

-- ---- the checks refuse

pub refused_answers : (style indent signature list : ℕ) (rows text out : List ℕ) {r : Report} → r ≡ check_report style indent signature list rows (length text) → (r.refusal ≡ 0 → ⊥)
    → Answers style indent signature list rows text out r out
unfolding layout
refused_answers style indent signature list rows text out e n =
    let q = ne_eqb (check_report style indent signature list rows (length text)).refusal 0 (λ z. n (ap (λ x. x.refusal) e ∙ z)) in
    record { answer = rw q e; output = rw q }

-- the error of the checks, as the layout's
pub check_answers : (e : CheckError) (style indent signature list : ℕ) (rows text out : List ℕ) → check_reported (Err e) ≡ check_report style indent signature list rows (length text)
    → Answers style indent signature list rows text out (reported (Err (after_check e))) out
check_answers (BadOption position) style indent signature list rows text out h = refused_answers style indent signature list rows text out h (λ z. omega arith)
check_answers RaggedRows style indent signature list rows text out h = refused_answers style indent signature list rows text out h (λ z. omega arith)
check_answers (BadRow row) style indent signature list rows text out h = refused_answers style indent signature list rows text out h (λ z. omega arith)

-- the same of an answer that a `?` made
pub refused_by : {style indent signature list : ℕ} {rows text out : List ℕ} (e : CheckError) (r : Result Text LayoutError) → IsErrAnd r (λ x. x ≡ after_check e)
    → check_reported (Err e) ≡ check_report style indent signature list rows (length text) → Answers style indent signature list rows text out (reported r) out
refused_by e (Ok x) q h = absurd q
refused_by e (Err x) q h = rw q (check_answers e _ _ _ _ _ _ _ h)

-- ---- the walk's end

-- what the layout answers to a walk that ended so, and the output after it
abbrev pub answer_to : Result Finished WalkError → Bool → Result Text LayoutError
answer_to (Ok f) mark = Ok (record { length = f.length; commas = f.commas; plain = mark })
answer_to (Err e) mark = Err (after_walk e)

abbrev pub output_to : Result Finished WalkError → List ℕ → List ℕ
output_to (Ok f) out = out
output_to (Err e) out = zeroed out

record Ends (e : Ended) (mark : Bool) (out : List ℕ) (report : Report) (after : List ℕ) : Type 0 where
  answer : report ≡ (laid_out e mark out).report
  output : after ≡ (laid_out e mark out).out

ends : (e : Ended) (mark : Bool) (out : List ℕ) {m : List ℕ} → sane (length out) e ≡ true → length m ≡ length out → ((s : State) → e ≡ finished s → m ≡ s.out ++ drop (length s.out) out)
    → Ends e mark out (reported (answer_to (formatted_of e) mark)) (output_to (formatted_of e) m)
ends (finished s) mark out h l f = record { answer = refl; output = f s refl }
ends (stopped n i) mark out {m} h l f =
    split (eqb n deep) (λ d. rw (eqb-true n deep d) (record { answer = refl; output = zeroes }))
    (λ d. rw (eqb-true n full (rw d at h)) (record { answer = refl; output = zeroes }))
  where
    zeroes : zeroed m ≡ zeroed out
    zeroes = ap (λ k. replicate k 0) l

-- ---- the checks pass

module _ {style indent signature list : ℕ} {rows : List ℕ} (text : List ℕ) (π : Passed style indent signature list rows (length text)) where
  pub passed_walks : CheckedRows rows text
  passed_walks = record { whole = let w = whole_rows π in omega arith; few = few_rows π; good = π.each }

  pub small_width : indent ≤ most_indent_width
  unfolding bad_option
  small_width =
      split (ltb most_style style)
      (λ a. let z : ◌≡◌ {A = ℕ} 0 1 = cc (rw a at π.options) in absurd (omega arith))
      (λ a. split (ltb most_indent_width indent)
      (λ b. let z : ◌≡◌ {A = ℕ} 0 1 = cc (rw (a, b) at π.options) in absurd (omega arith))
      (λ b. ltb-false most_indent_width indent b))

  passed_layout : (out : List ℕ)
      → layout style indent signature list rows text out ≡ laid_out (lay (options_of style indent signature list) (length out) (tokens_of rows text)) (plain (tokens_of rows text)) out
  unfolding layout check_report rows_report each_row_report
  passed_layout out = rw (π.options, π.even, π.each)

  -- the walk ended with r, and left m
  pub walked_answers : {out : List ℕ} {r : Result Finished WalkError} {m : List ℕ} {mark : Bool} → LaidOut rows text (options_of style indent signature list) out r m → mark ≡ plain (tokens_of rows text)
      → Answers style indent signature list rows text out (reported (answer_to r mark)) (output_to r m)
  walked_answers {out} {r} {m} {mark} λ₀ k =
      let o = options_of style indent signature list in
      let ε = ends (lay o (length out) (tokens_of rows text)) mark out (lay_sane o (length out) (tokens_of rows text)) λ₀.size λ₀.output in
      rw λ₀.answer (record { answer = ε.answer ∙ rw (passed_layout out, k); output = ε.output ∙ rw (passed_layout out, k) })

  -- the same, where the walk's end is known by another name
  pub walked_by : {out : List ℕ} {r s : Result Finished WalkError} {m : List ℕ} {mark : Bool} → LaidOut rows text (options_of style indent signature list) out r m → r ≡ s → mark ≡ plain (tokens_of rows text)
      → Answers style indent signature list rows text out (reported (answer_to s mark)) (output_to s m)
  walked_by λ₀ e k = rw (← e) (walked_answers λ₀ k)
