use mathlib.Core.Path.{◌≡◌}
use Prim.Native.Nat.{◌+◌, ◌≤◌}
use lib.ListN.{length}
use Rattle.rows.specs.Row.{rows_of}
use Rattle.rows.specs.RowsLeft.{rows_left}
use Rattle.lookahead.proofs.Looking.{rest_of_block}
use Rattle.lookahead.proofs.Tokens.{single_line_rows}
use Rattle.lookahead.proofs.block_is_single_line.Given as goal

abbrev pub invariant-loop-row : goal.invariant-loop-row
invariant-loop-row l =
    (single_line_rows 0 (rows_of l.rows) ≡ rest_of_block l.follows l.depth (rows_left l.left))
    × (l.depth + length (rows_left l.left) ≤ length (rows_of l.rows))

abbrev pub decreases-loop-row : goal.decreases-loop-row
decreases-loop-row l = length (rows_left l.left)
