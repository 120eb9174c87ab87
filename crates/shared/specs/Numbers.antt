-- The code's numbers: their bounds by name, and their bytes.
-- Assumes nothing.
use Rattle.std.specs.Prelude.{List, [], ◌∷◌, ℕ, zero, suc, ◌/◌, ◌%◌}

-- the highest 32-bit number
abbrev pub most32 : ℕ
most32 = 4294967295

-- one past the highest 64-bit number
abbrev pub past64 : ℕ
past64 = 18446744073709551616

-- The n lowest bytes of a number, the lowest first.
unfoldable pub little_endian : ℕ → ℕ → List ℕ
little_endian zero x = []
little_endian (suc n) x = x % 256 ∷ little_endian n (x / 256)
