-- The rows that an iterator over rows has left.
-- Assumes nothing.
use Rattle.std.specs.Prelude.{List}
use Rattle.rows.specs.declared.Rows.{Rows}
use Rattle.rows.specs.Row.{Row, rows_of}

abbrev pub rows_left : Rows → List Row
rows_left s = rows_of s.rest.now
