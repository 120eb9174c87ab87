use Rattle.rows.specs.RowsLeft.{rows_left}
use Rattle.formatter.specs.CodeState.{code_state}
use Rattle.formatter.proofs.Comments.{LeadsLeft}
use Rattle.formatter.proofs.Formatter.push_leading.Given as goal

abbrev pub invariant-loop-row : goal.invariant-loop-row
invariant-loop-row l = LeadsLeft (rows_left l.initial.row-iterator) (rows_left l.row-iterator) (code_state l.fn.self l.fn.sink) (code_state l.self l.sink)
