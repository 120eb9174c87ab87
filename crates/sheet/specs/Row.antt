-- A row in bytes (specification, 'Rows').
-- Assumes nothing.
use Rattle.std.specs.Prelude.{Bool, ◌&&◌, List, ◌++◌, ℕ, ◌+◌, ◌*◌, leb}
use Rattle.std.proofs.lemmas.List.Edits.{sets}
use Rattle.shared.specs.Numbers.{most32, little_endian}
use Rattle.rows.specs.Row.{row_size}

-- An unsigned 32-bit number, little-endian.
abbrev pub number : ℕ → List ℕ
number x = little_endian 4 x

-- Four numbers: what, kind, start, end.
abbrev pub row_bytes : ℕ → ℕ → ℕ → ℕ → List ℕ
row_bytes what kind start end = number what ++ number kind ++ number start ++ number end

-- A slice of so many bytes has room for one more row than n, and the row's end is a 32-bit number.
abbrev pub row_fits : ℕ → ℕ → ℕ → Bool
row_fits row_space n end = leb (row_size * n + row_size) row_space && leb end most32

-- The slice `rows` with a row stored after its first n.
abbrev pub with_row : List ℕ → ℕ → ℕ → ℕ → ℕ → ℕ → List ℕ
with_row rows n what kind start end = sets rows (row_size * n) (row_bytes what kind start end)
