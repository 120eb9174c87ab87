-- `formatter::token::rows_end` meets its contract. Assumes nothing.
use mathlib.Core.Path.{ap, sym, ◌∙◌}
use Rattle.rows.specs.RowsLeft.{rows_left}
use Rattle.formatter.proofs.Numbered.{what_tag}
use Rattle.formatter.proofs.RunEnd.{runs_start, runs_more, runs_other, runs_none}
use Rattle.formatter.proofs.token.rows_end.Goals as goal

pub loop-row-init : goal.loop-row-init
loop-row-init c = runs_start c.requires (ap rows_left c.into_iter-row-iterator.ensures.into_iter_gives ∙ c.of-row-items.ensures)

pub returns-then-row-what : goal.returns-then-row-what
returns-then-row-what c = runs_other c.loop-row.invariant c.in-Some.ensures.steps (λ e. c.if-row-what.true (e ∙ sym (what_tag c.args.what)))

pub loop-row-preserved : goal.loop-row-preserved
loop-row-preserved c = runs_more c.loop-row.invariant c.in-Some.ensures.steps (c.if-row-what.false ∙ what_tag c.args.what)

pub returns : goal.returns
returns c = runs_none c.loop-row.invariant c.in-None.ensures.steps.0
