-- The rows from an index on: the row that the code reads there and those behind it, or none. Assumes nothing.
use mathlib.Core.List.{List, [], ◌∷◌}
use mathlib.Core.Path.{◌≡◌, sym, ap, ◌∙◌}
use Prim.Native.Nat.{ℕ, ◌+◌, ◌-◌, ◌≤◌, ◌<◌}
use native.Mathlib.Omega.{arith}
use lib.ListN.{length, drop}
use Rattle.rows.specs.Row.{Row, row_at, rows_of}
use Rattle.rows.proofs.RowList.{part_cons, part_none}

module _ (rows : List ℕ) (at : ℕ) (within : at ≤ length rows) where
  pub here : {r : Row} → 16 ≤ length rows - at → r ≡ row_at rows at → rows_of (drop at rows) ≡ r ∷ rows_of (drop (at + 16) rows)
  here h e = part_cons rows at (omega arith) ∙ ap (λ x. x ∷ rows_of (drop (at + 16) rows)) (sym e)

  pub over : length rows - at < 16 → rows_of (drop at rows) ≡ []
  over h = part_none rows at (omega arith)
