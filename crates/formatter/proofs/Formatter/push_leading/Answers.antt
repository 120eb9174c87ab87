-- `formatter::Formatter::push_leading` meets its contract. Assumes nothing.
use mathlib.Core.Path.{ap, ◌∙◌}
use Rattle.rows.specs.RowsLeft.{rows_left}
use Rattle.formatter.proofs.Comments.{slice_bounds, slice_trivia, leads_start, lead_inside, leads_more, leads_done, lead_done}
use Rattle.formatter.proofs.Formatter.push_leading.Goals as goal

pub loop-row-init : goal.loop-row-init
loop-row-init c = leads_start (slice_bounds c.requires.whole_rows (ap rows_left c.into_iter-row-iterator.ensures.into_iter_gives ∙ c.of-row-items.ensures)) c.requires.indent_bounds.1

pub push_lead-requires-clause-inside : goal.push_lead-requires-clause-inside
push_lead-requires-clause-inside c = lead_inside c.loop-row.invariant c.in-Some.ensures.steps

pub loop-row-preserved : goal.loop-row-preserved
loop-row-preserved c = leads_more c.loop-row.invariant c.in-Some.ensures.steps c.push_lead.ensures.indent c.push_lead.ensures.does

pub returns : goal.returns
returns c =
    lead_done c.requires.whole_rows c.requires.lead_lt_own _
    (rw (← slice_trivia c.requires.whole_rows (ap rows_left c.into_iter-row-iterator.ensures.into_iter_gives ∙ c.of-row-items.ensures))
    (leads_done c.loop-row.invariant c.in-None.ensures.steps.0))
