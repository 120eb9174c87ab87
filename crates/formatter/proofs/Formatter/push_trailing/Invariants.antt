use Rattle.rows.specs.RowsLeft.{rows_left}
use Rattle.formatter.proofs.Comments.{TrailsLeft}
use Rattle.formatter.proofs.Formatter.push_trailing.Given as goal

abbrev pub invariant-loop-row : goal.invariant-loop-row
invariant-loop-row l = TrailsLeft l.text (rows_left l.initial.row-iterator) (rows_left l.row-iterator) l.initial.sink l.sink
