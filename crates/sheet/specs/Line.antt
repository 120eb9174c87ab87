-- The lines of a sheet, and what one says (specification, 'The sheet').
-- Assumes nothing.
use Rattle.std.specs.Prelude.{Bool, true, false, cond, ◌&&◌, List, [], ◌∷◌, ℕ, ◌+◌, ◌-◌, ◌*◌, leb, ltb, eqb}
use Rattle.std.proofs.Math.Option.{Option, none, some, map}
use Rattle.shared.specs.Bytes.{byte, bytes, digit}
use Rattle.rows.specs.Kinds.{Leading, TokenRow, Trailing, Other}

-- Names line: `what kind text` and a line feed.
abbrev pub names : List ℕ
names = bytes "what kind text\n"

-- the bytes s begin with the bytes p
abbrev pub begins : List ℕ → List ℕ → Bool
begins [] s = true
begins (c ∷ p) [] = false
begins (c ∷ p) (b ∷ s) = eqb b c && begins p s

-- a byte put before the first of the lines
abbrev pub put_before : ℕ → List (List ℕ) → List (List ℕ)
put_before b [] = (b ∷ []) ∷ []
put_before b (l ∷ ls) = (b ∷ l) ∷ ls

-- The lines, each with the line feed that ends it. The last may lack it; where the sheet ends in a line feed, no line follows.
unfoldable pub lines : List ℕ → List (List ℕ)
lines [] = []
lines (b ∷ t) = cond (eqb b (byte "\n")) ((b ∷ []) ∷ lines t) (put_before b (lines t))

-- What a line says: nothing, where it breaks its form; else its row's what, kind and text.
pub data Line : Type 0 where
  bad : Line
  row : ℕ → ℕ → List ℕ → Line

-- a text, if there is one, with a byte before it
abbrev pub with_byte : ℕ → Option (List ℕ) → Option (List ℕ)
with_byte b text = map (λ bs. b ∷ bs) text

-- The text up to the line feed that ends the line, and may not be missing: `\n` is byte 10, `\\` a backslash, other
-- backslashes are wrong; none where it breaks its form. The flag says that a backslash stands before.
unfoldable pub text_of : Bool → List ℕ → Option (List ℕ)
text_of escaped [] = none
text_of false (b ∷ t) =
    cond (eqb b (byte "\n")) (some []) (cond (eqb b (byte "\\")) (text_of true t) (with_byte b (text_of false t)))
text_of true (b ∷ t) =
    cond (eqb b (byte "n")) (with_byte (byte "\n") (text_of false t))
    (cond (eqb b (byte "\\")) (with_byte (byte "\\") (text_of false t)) none)

-- the row of a what and a kind with a text, if there is one
abbrev pub row_of : ℕ → ℕ → Option (List ℕ) → Line
row_of what kind none = bad
row_of what kind (some bs) = row what kind bs

-- a space, and after it the text
abbrev pub space_and_text : ℕ → ℕ → List ℕ → Line
space_and_text what kind [] = bad
space_and_text what kind (b ∷ t) = cond (eqb b (byte " ")) (row_of what kind (text_of false t)) bad

-- A second digit may follow the kind's first one, k, if that isn't 0 and the kind is at most 34, the kind Other.
abbrev pub is_second : ℕ → ℕ → Bool
is_second k b = digit b && (ltb 0 k && leb (10 * k + (b - byte "0")) Other)

-- the kind's first digit k has been read
abbrev pub kind_from : ℕ → ℕ → List ℕ → Line
kind_from what k [] = bad
kind_from what k (b ∷ t) =
    cond (is_second k b) (space_and_text what (10 * k + (b - byte "0")) t) (space_and_text what k (b ∷ t))

-- Kind 0–34 in decimal without leading zeros, space, text.
abbrev pub kind_and_text : ℕ → List ℕ → Line
kind_and_text what [] = bad
kind_and_text what (b ∷ t) = cond (digit b) (kind_from what (b - byte "0") t) bad

-- a space, and after it the kind and the text
abbrev pub space_and_kind : ℕ → List ℕ → Line
space_and_kind what [] = bad
space_and_kind what (b ∷ t) = cond (eqb b (byte " ")) (kind_and_text what t) bad

-- `L`, `T` or `R`: what 0, 1, 2; 3 for any other byte
abbrev pub what_of : ℕ → ℕ
what_of b = cond (eqb b (byte "L")) Leading (cond (eqb b (byte "T")) TokenRow (cond (eqb b (byte "R")) Trailing 3))

-- `L`, `T` or `R`, space, kind, space, text up to the line feed.
unfoldable pub line_of : List ℕ → Line
line_of [] = bad
line_of (b ∷ t) = cond (leb (what_of b) Trailing) (space_and_kind (what_of b) t) bad
