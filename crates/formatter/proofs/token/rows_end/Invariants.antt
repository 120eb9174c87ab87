use Rattle.rows.specs.KindNumber.{what_number}
use Rattle.rows.specs.RowsLeft.{rows_left}
use Rattle.formatter.proofs.RunEnd.{Runs}
use Rattle.formatter.proofs.token.rows_end.Given as goal

abbrev pub invariant-loop-row : goal.invariant-loop-row
invariant-loop-row l = Runs (what_number l.what) l.rows l.at l.end (rows_left l.row-iterator)
