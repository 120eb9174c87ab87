use mathlib.Core.Bool.{false}
use mathlib.Core.Path.{◌≡◌}
use Rattle.rows.specs.Row.{rows_of}
use Rattle.rows.specs.RowsLeft.{rows_left}
use Rattle.lookahead.proofs.Tokens.{comment_ahead}
use Rattle.lookahead.proofs.next_has_comment.Given as goal

abbrev pub invariant-loop-row : goal.invariant-loop-row
invariant-loop-row l = comment_ahead false (rows_of l.rows) ≡ comment_ahead l.seen (rows_left l.row-iterator)
