-- `lookahead::decide` meets its contract. Assumes nothing.
use mathlib.Core.Path.{◌∙◌}
use native.Mathlib.Omega.{arith}
use Rattle.rows.proofs.RowList.{rows_length}
use Rattle.rows.specs.RowsLeft.{rows_left}
use Rattle.lookahead.proofs.Deciding.{wide_comma, wide_signature, wide_paren, wide_bracket}
use Rattle.lookahead.proofs.decide.Goals as goal

pub returns-then-m-gt0 : goal.returns-then-m-gt0
returns-then-m-gt0 c =
    wide_comma c.args.rows.now c.args.limit c.until_wide.result.0 (rows_left c.until_wide.result.1) c.if-m-limit.false c.args.span (c.until_wide.ensures.left c.if-m-limit.false) c.if-m-gt0.true

pub comma_ahead-requires-clause-depths : goal.comma_ahead-requires-clause-depths
comma_ahead-requires-clause-depths c =
    let f = c.until_wide.ensures.few in
    (omega (arith, f.parens, rows_length c.args.rows.now), omega (arith, f.brackets, rows_length c.args.rows.now))

pub comma_ahead-requires-in-Bracket-clause-depths : goal.comma_ahead-requires-in-Bracket-clause-depths
comma_ahead-requires-in-Bracket-clause-depths c =
    let f = c.until_wide.ensures.few in
    (omega (arith, f.brackets, rows_length c.args.rows.now), omega (arith, f.parens, rows_length c.args.rows.now))

pub returns-in-Signature : goal.returns-in-Signature
returns-in-Signature c =
    rw c.in-Signature.is
    (wide_signature c.args.rows.now c.args.limit c.until_wide.result.0 (rows_left c.until_wide.result.1) c.if-m-limit.false (rw c.in-Signature.is at (c.until_wide.ensures.left c.if-m-limit.false)))

pub returns-in-Paren : goal.returns-in-Paren
returns-in-Paren c =
    rw c.in-Paren.is
    (c.comma_ahead.ensures
    ∙ wide_paren c.args.rows.now c.args.limit c.until_wide.result.0 (rows_left c.until_wide.result.1) c.if-m-limit.false c.if-m-gt0.false (rw c.in-Paren.is at (c.until_wide.ensures.left c.if-m-limit.false)))

pub returns-in-Bracket : goal.returns-in-Bracket
returns-in-Bracket c =
    rw c.in-Bracket.is
    (c.comma_ahead-in-Bracket.ensures
    ∙ wide_bracket c.args.rows.now c.args.limit c.until_wide.result.0 (rows_left c.until_wide.result.1) c.if-m-limit.false c.if-m-gt0.false (rw c.in-Bracket.is at (c.until_wide.ensures.left c.if-m-limit.false)))
