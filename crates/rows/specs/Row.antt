-- Rows of four 32-bit numbers in a lent byte slice (specification, 'Rows').
-- Assumes nothing.
use Rattle.std.specs.Prelude.{List, [], ◌∷◌, ℕ, zero, suc, ◌+◌, ◌*◌, ◌/◌, length, get_or, drop}

-- the bytes of a row
abbrev pub row_size : ℕ
row_size = 16

pub record Row : Type 0 where
  pub what : ℕ
  pub kind : ℕ
  pub start : ℕ
  pub end : ℕ

-- the 32-bit number at an index, lowest byte first
abbrev pub number : List ℕ → ℕ → ℕ
number bytes at =
    get_or bytes at 0 + 256 * get_or bytes (at + 1) 0 + 65536 * get_or bytes (at + 2) 0 + 16777216 * get_or bytes (at + 3) 0

-- the row whose bytes start at an index
abbrev pub row_at : List ℕ → ℕ → Row
row_at bytes at =
    record { what = number bytes at; kind = number bytes (at + 4); start = number bytes (at + 8); end = number bytes (at + 12) }

-- the first n rows
unfoldable pub first_rows : ℕ → List ℕ → List Row
first_rows zero bytes = []
first_rows (suc n) bytes = row_at bytes 0 ∷ first_rows n (drop row_size bytes)

unfoldable pub rows_of : List ℕ → List Row
rows_of bytes = first_rows (length bytes / row_size) bytes
