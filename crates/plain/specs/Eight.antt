-- The test for word bytes, on bytes in one number.
-- Assumes nothing.
use Rattle.std.specs.Prelude.{List, ℕ, ◌+◌, ◌-◌, ◌*◌, length}
use Rattle.std.specs.Int.Bits.{bit_and, bit_or, bit_xor}
use Rattle.shared.specs.Bytes.{byte}
use Rattle.rows.specs.Row.{number}

-- The first four bytes and the last four, which may overlap, in one number.
abbrev pub fours_of : List ℕ → ℕ
fours_of s = number s 0 + number s (length s - 4) * 0x1_0000_0000

-- Of bytes below 128, as many as `ones` has the byte 1: in the high bit of each, whether it is one of first to last.
abbrev pub bytes_within : ℕ → ℕ → ℕ → ℕ → ℕ
bytes_within ones low first last = bit_xor (low + (128 - first) * ones) (low + (127 - last) * ones)

-- Which bytes are letters but for the high bit. Each is made small first.
abbrev pub letters_in : ℕ → ℕ → ℕ
letters_in ones x = bytes_within ones (bit_or (bit_and x (127 * ones)) (32 * ones)) (byte "a") (byte "z")

-- Which bytes are word bytes.
abbrev pub words_in : ℕ → ℕ → ℕ
words_in ones x =
    let low = bit_and x (127 * ones) in
    let digits = bytes_within ones low (byte "0") (byte "9") in
    bit_or (bit_or (bit_or (letters_in ones x) digits) (bit_xor low (32 * ones) + 1 * ones)) x
