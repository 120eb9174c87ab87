-- Sets of kinds held as bits of a number.
-- Assumes nothing.
use Rattle.std.specs.Prelude.{Bool, false, cond, ℕ, ◌/◌, ◌%◌, ◌^◌, eqb, ltb}

-- the bit k of a mask of 64
abbrev pub member : ℕ → ℕ → Bool
member mask k = cond (ltb k 64) (eqb (mask / 2 ^ k % 2) 1) false
