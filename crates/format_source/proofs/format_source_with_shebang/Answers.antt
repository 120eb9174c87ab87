-- `format_source::format_source_with_shebang` meets its contract. Assumes nothing.
use mathlib.Core.Path.{sym, ◌∙◌}
use lib.Seq.{length-take-le}
use Rattle.format_source.proofs.AfterLine.{within_source, without_line, rows_refused, text-fits, with_line_lem}
use Rattle.format_source.proofs.format_source_with_shebang.Goals as goal

pub returns-then-line-eq0 : goal.returns-then-line-eq0
returns-then-line-eq0 c =
    let a = c.args in
    let μ =
    without_line a.source.now a.rows.now a.text.now a.out.now c.shebang_len-line.ensures c.min-room.ensures
    (record { answer = c.format_tokens_with-answer.ensures.answer; output = c.format_tokens_with-answer.ensures.output })
    c.if-line-eq0.true in
    record {
      answer = μ.answer;
      output = μ.output;
    }

pub returns-then-before_walk : goal.returns-then-before_walk
returns-then-before_walk c =
    let a = c.args in
    let μ =
    rows_refused a.source.now a.rows.now a.text.now a.out.now c.shebang_len-line.ensures c.min-room.ensures
    (record { answer = c.format_tokens_with-answer.ensures.answer; output = c.format_tokens_with-answer.ensures.output })
    c.if-line-eq0.false (sym c.before_walk.ensures ∙ c.if-before_walk.true) in
    record {
      answer = μ.answer;
      output = μ.output;
    }

pub slice_bounds-with_line-end : goal.slice_bounds-with_line-end
slice_bounds-with_line-end c = sym (length-take-le _ _ (within_source c.args.source.now c.shebang_len-line.ensures c.if-line-eq0.false))

pub with_line-requires : goal.with_line-requires
with_line-requires c =
    let a = c.args in
    text-fits a.source.now a.rows.now a.text.now a.out.now c.shebang_len-line.ensures c.min-room.ensures
    (record { answer = c.format_tokens_with-answer.ensures.answer; output = c.format_tokens_with-answer.ensures.output })
    c.if-line-eq0.false

pub returns : goal.returns
returns c =
    let a = c.args in
    let μ =
    with_line_lem a.source.now a.rows.now a.text.now a.out.now c.shebang_len-line.ensures c.min-room.ensures
    (record { answer = c.format_tokens_with-answer.ensures.answer; output = c.format_tokens_with-answer.ensures.output })
    c.if-line-eq0.false (sym c.before_walk.ensures ∙ c.if-before_walk.false)
    (record { answer = c.with_line.ensures.answer; output = c.with_line.ensures.output }) in
    record {
      answer = μ.answer;
      output = μ.output;
    }
