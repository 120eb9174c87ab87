use mathlib.Core.Path.{◌≡◌}
use Prim.Native.Nat.{◌+◌, ◌≤◌}
use lib.ListN.{length}
use Rattle.rows.specs.KindNumber.{kind_number}
use Rattle.rows.specs.RowsLeft.{rows_left}
use Rattle.lookahead.specs.Scan.{comma_ahead}
use Rattle.lookahead.proofs.comma_ahead.Given as goal

abbrev pub invariant-loop-row : goal.invariant-loop-row
invariant-loop-row l =
    let said = comma_ahead (kind_number l.fn.pair.opener) (kind_number l.fn.pair.closer) (kind_number l.fn.other_pair.opener) (kind_number l.fn.other_pair.closer) in
    (said l.fn.own l.fn.other (rows_left l.fn.left) ≡ said l.own l.other (rows_left l.row-iterator))
    × (l.behind ≡ length (rows_left l.row-iterator))
    × (l.own + l.behind ≤ l.fn.own + length (rows_left l.fn.left))
    × (l.other + l.behind ≤ l.fn.other + length (rows_left l.fn.left))
