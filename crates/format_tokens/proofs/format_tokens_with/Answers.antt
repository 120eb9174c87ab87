-- `format_tokens::format_tokens_with` meets its contract. Assumes nothing.
use mathlib.Core.Path.{◌≡◌, sym, ◌∙◌}
use Rattle.rows.proofs.Passed.{passed, few_rows}
use Rattle.std.specs.Prelude.{Result}
use Rattle.formatter.specs.declared.Finished.{Finished}
use Rattle.formatter.specs.declared.WalkError.{WalkError}
use Rattle.format_tokens.specs.Answer.{reported}
use Rattle.format_tokens.proofs.Laid.{Answers, refused_by, passed_walks, small_width, answer_to, output_to, walked_by}
use Rattle.format_tokens.proofs.format_tokens_with.Goals as goal
use Rattle.format_tokens.proofs.format_tokens_with.Goals.{After-lay_out}

pub returns-in_err-check_unless_known-clause-answer : goal.returns-in_err-check_unless_known-clause-answer
returns-in_err-check_unless_known-clause-answer c = (refused_by _ _ c.from_residual.ensures.1 c.in_err-check_unless_known.ensures).answer

pub returns-in_err-check_unless_known-clause-output : goal.returns-in_err-check_unless_known-clause-output
returns-in_err-check_unless_known-clause-output c = (refused_by _ _ c.from_residual.ensures.1 c.in_err-check_unless_known.ensures).output

pub lay_out-requires : goal.lay_out-requires
lay_out-requires c =
    let text = c.args.text.now in
    let π = passed _ _ _ _ _ _ (sym c.in_ok-check_unless_known.ensures) in
    record {
      checked_rows = passed_walks text π;
      indent_width_bound = rw c.options_of.ensures.indent (small_width text π);
      plain_value = c.is_plain-plain.ensures.mark (few_rows π) π.each;
    }

-- the walk's end s, under the checks that passed
walked : (c : After-lay_out) {s : Result Finished WalkError} → c.lay_out.result ≡ s
    → let a = c.args in
    Answers a.options.style a.options.indent_width a.options.signature_width a.options.list_width a.rows.now a.text.now a.out.now (reported (answer_to s c.is_plain-plain.result)) (output_to s c.lay_out.new.out)
walked c e =
    let π = passed _ _ _ _ _ _ (sym c.in_ok-check_unless_known.ensures) in
    let laid = rw c.options_of.ensures.options at c.lay_out.ensures in
    walked_by c.args.text.now π laid e (c.is_plain-plain.ensures.mark (few_rows π) π.each)

pub returns-in-Ok : goal.returns-in-Ok
returns-in-Ok c =
    let α = walked (goal.at.returns-in-Ok c).After-lay_out c.in-Ok.is in
    record { answer = α.answer; output = α.output }

pub returns-in-Err : goal.returns-in-Err
returns-in-Err c =
    let α = walked (goal.at.returns-in-Err c).After-lay_out c.in-Err.is in
    record { answer = rw c.into.ensures α.answer; output = c.fill.ensures.after (λ y q. q) ∙ α.output }
