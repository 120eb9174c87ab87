-- Refusals 2 and 3 (specification, 'Refusals'): the rows, and each row in its place.
-- Assumes nothing.
use Rattle.std.specs.Prelude.{Bool, false, cond, not, ◌&&◌, ◌||◌, List, [], ◌∷◌, ◌≡◌, ℕ, ◌+◌, ◌-◌, ◌/◌, ◌%◌, eqb, ltb, length}
use Rattle.std.proofs.Math.Option.{Option, none, some}
use Rattle.rows.specs.Kinds.{Leading, TokenRow, Trailing, BlankLine, Other}
use Rattle.rows.specs.Row.{Row, row_size, rows_of}

-- A call takes at most this many rows, and this many bytes of rows.
abbrev pub most_rows : ℕ
most_rows = 65535

abbrev pub most_row_bytes : ℕ
most_row_bytes = 1048560

-- Refusal 2: the bytes are no whole rows, or there are over 65,535 rows.
abbrev pub ragged : List ℕ → Bool
ragged rows = not (eqb (length rows % row_size) 0) || ltb most_rows (length rows / row_size)

-- what stands before a row: nothing, or a row of a what
pub data Before : Type 0 where
  at_start : Before
  after : ℕ → Before

-- trailing rows follow a token or another trailing row
abbrev pub may_trail : Before → Bool
may_trail at_start = false
may_trail (after what) = eqb what TokenRow || eqb what Trailing

-- the highest kind of a row of a what
abbrev pub top_kind : ℕ → ℕ
top_kind what = cond (eqb what TokenRow) Other BlankLine

-- A kind above the highest, start above end, or end past a text of the size given.
abbrev pub misnamed : ℕ → ℕ → Row → Bool
misnamed top size r = ltb top r.kind || ltb r.end r.start || ltb size r.end

-- Unknown what or kind, start above end, end past the text, or wrong order.
abbrev pub bad_row : ℕ → Before → Row → Bool
bad_row size before r =
    ltb Trailing r.what
    || ltb (top_kind r.what) r.kind
    || ltb r.end r.start
    || ltb size r.end
    || (eqb r.what Trailing && not (may_trail before))

-- leading rows with no token after them
abbrev pub orphan : Before → Bool
orphan at_start = false
orphan (after what) = eqb what Leading

-- Refusal 3: the first bad row, from row i on; for an orphan lead the last row.
unfoldable pub bad_from : ℕ → Before → ℕ → List Row → Option ℕ
bad_from size before i [] = cond (orphan before) (some (i - 1)) none
bad_from size before i (r ∷ rs) = cond (bad_row size before r) (some i) (bad_from size (after r.what) (i + 1) rs)

-- No row is bad, where the text has so many bytes.
abbrev pub GoodRows : List ℕ → ℕ → Type 0
GoodRows rows size = bad_from size at_start 0 (rows_of rows) ≡ none
