-- Bytes in one number, on which an operation acts byte by byte.
-- Assumes nothing.
use Rattle.std.specs.Prelude.{List, ℕ, ◌+◌, ◌*◌, get_or}
use Rattle.std.specs.Int.Bits.{bit_and, bit_or, bit_xor}

-- The eight bytes from an index on as one number, the first of them lowest.
abbrev pub eight_at : List ℕ → ℕ → ℕ
eight_at s at =
    (get_or s at 0 + get_or s (at + 1) 0 * 256 + get_or s (at + 2) 0 * 65536 + get_or s (at + 3) 0 * 16777216)
    + (get_or s (at + 4) 0 + get_or s (at + 5) 0 * 256 + get_or s (at + 6) 0 * 65536 + get_or s (at + 7) 0 * 16777216) * 4294967296

-- The byte 1 eight times.
abbrev pub eight_ones : ℕ
eight_ones = 0x0101_0101_0101_0101

-- The highest eight bytes below 128.
abbrev pub eight_lows : ℕ
eight_lows = 0x7f7f_7f7f_7f7f_7f7f

-- Of as many bytes as `ones` has the byte 1: in the high bit of each, whether a bit is set in it; the other bits are 0.
abbrev pub bytes_set : ℕ → ℕ → ℕ
bytes_set ones v = bit_and (bit_or (bit_and v (127 * ones) + 127 * ones) v) (128 * ones)

-- Of as many: in the high bit of each, whether it is another byte than b; the other bits are 0.
abbrev pub bytes_other : ℕ → ℕ → ℕ → ℕ
bytes_other ones x b = bytes_set ones (bit_xor x (b * ones))
