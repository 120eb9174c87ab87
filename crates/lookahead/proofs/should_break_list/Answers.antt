-- `lookahead::should_break_list` meets its contract. Assumes nothing.
use mathlib.Core.Path.{ap, ◌∙◌}
use Rattle.rows.specs.Row.{rows_of}
use Rattle.lookahead.proofs.Said.{list_said}
use Rattle.lookahead.specs.Scan.{measure_rows, breaks_at}
use Rattle.lookahead.specs.Measure.{start}
use Rattle.lookahead.proofs.should_break_list.Goals as goal

pub returns : goal.returns
returns c = list_said c.args.rows.now c.args.list_width (c.decide.ensures ∙ ap (λ s. breaks_at s c.args.list_width (measure_rows s start (rows_of c.args.rows.now))) c.group.ensures)
