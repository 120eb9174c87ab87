use mathlib.Core.Path.{◌≡◌}
use Prim.Native.Nat.{◌+◌, ◌*◌, ◌≤◌}
use lib.ListN.{length}
use Rattle.rows.specs.Row.{rows_of}
use Rattle.rows.specs.RowsLeft.{rows_left}
use Rattle.lookahead.specs.Scan.{width_rows}
use Rattle.lookahead.proofs.total_width.Given as goal

abbrev pub invariant-loop-row : goal.invariant-loop-row
invariant-loop-row l =
    (width_rows (rows_of l.rows) ≡ l.width + width_rows (rows_left l.row-iterator))
    × (l.width + 4294967296 * length (rows_left l.row-iterator) ≤ 4294967296 * length (rows_of l.rows))
