-- Decimal numbers that come first in an input: whole ones, and those that the replays read. Assumes nothing.
use Rattle.std.specs.Prelude.{List, ℕ, ◌+◌, ◌*◌, ◌-◌, ◌%◌, ◌^◌, ◌<◌, leb, length, fold, take_while}
use Rattle.std.specs.Char.{is_ascii_digit}
use Rattle.std.specs.Str.Parse.{digits_value}

-- ---- a whole number

-- The decimal digits that come first.
abbrev pub digits : List ℕ → List ℕ
digits l = take_while is_ascii_digit l

-- There is one, a byte follows, and 64 bits hold what they write.
abbrev pub HasNumber : List ℕ → Type 0
HasNumber l = (0 < length (digits l)) × (length (digits l) < length l) × (digits_value 10 (digits l) < 2 ^ 64)

-- ---- a number as the replays have it

-- What a byte counts as a digit: 0 below '0', and after '9' the ten digits come again.
abbrev pub digit : ℕ → ℕ
digit b = (b - 48) % 10

-- The number that bytes write, in 32 bits.
abbrev pub number : List ℕ → ℕ
number l = fold (λ n b. (10 * n + digit b) % 2 ^ 32) 0 l

-- The bytes of the numeral that comes first: those up to the first that is below '0'.
abbrev pub numeral : List ℕ → List ℕ
numeral l = take_while (λ b. leb 48 b) l
