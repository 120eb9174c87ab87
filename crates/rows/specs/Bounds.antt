-- Rows in code, and rows whose bytes lie in a text: what those who walk checked rows go by.
-- Assumes nothing.
use Rattle.std.specs.Prelude.{List, [], ◌∷◌, ℕ, ◌≤◌, length}
use Rattle.rows.specs.declared.Row.{}
use Rattle.rows.specs.Row.{Row}

-- the row that a `Row` of the code is
abbrev pub row_of : Rattle.rows.specs.declared.Row.Row → Row
row_of r = record { what = r.what; kind = r.kind; start = r.start; end = r.end }

-- a row whose bytes lie in the text
pub record Inside (text : List ℕ) (r : Row) : Type 0 where
  pub ordered : r.start ≤ r.end
  pub within : r.end ≤ length text

-- each of the rows
unfoldable pub InBounds : List ℕ → List Row → Type 0
InBounds text [] = Unit {0}
InBounds text (r ∷ rs) = Inside text r × InBounds text rs
