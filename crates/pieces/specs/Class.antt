-- Byte classes (specification, 'Reading back').
-- Assumes nothing.
use Rattle.std.specs.Prelude.{Bool, true, false, cond, ◌||◌, ℕ, eqb}
use Rattle.shared.specs.Bytes.{byte, bytes, one_of, within, digit}
use Rattle.pieces.specs.declared.bytes.Class.{Class}
use Rattle.pieces.specs.declared.bytes.Class.TheVariants.{Gap, Single, Quote, Word, Operator, Unclassed}

-- A byte of A–Z, a–z, 0–9, _ or 128–255.
abbrev pub word_byte : ℕ → Bool
word_byte b =
    within (byte "A") (byte "Z") b || within (byte "a") (byte "z") b || digit b || eqb b (byte "_") || within 128 255 b

-- The class of a byte. An operator byte is any other of 33–126.
unfoldable pub class : ℕ → Class
class b =
    cond (one_of (bytes "\n ") b) Gap
    (cond (one_of (bytes "()[]{},;?") b) Single
    (cond (one_of (bytes "\"'") b) Quote
    (cond (word_byte b) Word
    (cond (within 33 126 b) Operator Unclassed))))

-- The class is Word.
abbrev pub is_word : Class → Bool
is_word = elim [ Gap ↦ false | Single ↦ false | Quote ↦ false | Word ↦ true | Operator ↦ false | Unclassed ↦ false ]

-- The class is Operator.
abbrev pub is_operator : Class → Bool
is_operator = elim [ Gap ↦ false | Single ↦ false | Quote ↦ false | Word ↦ false | Operator ↦ true | Unclassed ↦ false ]
