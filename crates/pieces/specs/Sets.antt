-- Sets of bytes, and runs of bytes in a set: what the code's loops count.
-- Assumes nothing.
use Rattle.std.specs.Prelude.{Bool, true, false, cond, List, ℕ, ◌-◌, ◌/◌, ◌%◌, ◌^◌, eqb, ltb, ◌<◌, ◌≡◌}
use Rattle.std.specs.List.{prefix_len, list_all}
use Rattle.pieces.specs.declared.bytes.ByteSet.{ByteSet}
use Rattle.pieces.specs.declared.bytes.Class.{Class}
use Rattle.pieces.specs.declared.bytes.Class.TheVariants.{Gap, Single, Quote, Word, Operator, Unclassed}

-- Bit k of the number is set.
abbrev pub bit : ℕ → ℕ → Bool
bit n k = eqb (n / 2 ^ k % 2) 1

-- A set of bytes: the bits of low for 0–63, those of high for 64–127, and all or none of 128–255.
abbrev pub member : ℕ → ℕ → Bool → ℕ → Bool
member low high upper b = cond (ltb b 64) (bit low b) (cond (ltb b 128) (bit high (b - 64)) upper)

-- The byte is in the set, as the code has it.
abbrev pub contains : ByteSet → ℕ → Bool
contains s b = member s.low s.high s.upper b

-- What a test answers, by what is known of its calls, is whether the byte is in the set f.
abbrev pub Tests : (ℕ → Bool → Type 0) → (ℕ → Bool) → Type 0
Tests answers f = (b : ℕ) (r : Bool) → b < 256 → answers b r → r ≡ f b

-- How many bytes of the set f stand first, before one that is not in it.
abbrev pub run_length : (ℕ → Bool) → List ℕ → ℕ
run_length f w = prefix_len f w

-- All bytes are in the set f.
abbrev pub all : (ℕ → Bool) → List ℕ → Bool
all f w = list_all f w

-- ---- the classes whose tests only the code cites

abbrev pub is_gap : Class → Bool
is_gap = elim [ Gap ↦ true | Single ↦ false | Quote ↦ false | Word ↦ false | Operator ↦ false | Unclassed ↦ false ]

abbrev pub is_single : Class → Bool
is_single = elim [ Gap ↦ false | Single ↦ true | Quote ↦ false | Word ↦ false | Operator ↦ false | Unclassed ↦ false ]

abbrev pub is_quote : Class → Bool
is_quote = elim [ Gap ↦ false | Single ↦ false | Quote ↦ true | Word ↦ false | Operator ↦ false | Unclassed ↦ false ]
