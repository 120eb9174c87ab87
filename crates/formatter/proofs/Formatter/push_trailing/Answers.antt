-- `formatter::Formatter::push_trailing` meets its contract. Assumes nothing.
use mathlib.Core.Path.{ap, ◌∙◌}
use Rattle.rows.specs.RowsLeft.{rows_left}
use Rattle.formatter.proofs.Comments.{slice_bounds, slice_trivia, bounds-first, trails_start, trails_more, trails_done}
use Rattle.formatter.proofs.Formatter.push_trailing.Goals as goal

pub loop-row-init : goal.loop-row-init
loop-row-init c = trails_start (slice_bounds c.requires (ap rows_left c.into_iter-row-iterator.ensures.into_iter_gives ∙ c.of-row-items.ensures))

pub push_trail-requires : goal.push_trail-requires
push_trail-requires c = (bounds-first c.loop-row.invariant.bounds c.in-Some.ensures.steps).0

pub loop-row-preserved : goal.loop-row-preserved
loop-row-preserved c = trails_more c.loop-row.invariant c.in-Some.ensures.steps c.push_trail.ensures

pub returns : goal.returns
returns c =
    rw (← slice_trivia c.requires (ap rows_left c.into_iter-row-iterator.ensures.into_iter_gives ∙ c.of-row-items.ensures))
    (trails_done c.loop-row.invariant c.in-None.ensures.steps.0)
