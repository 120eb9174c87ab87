-- Bytes by name, each as it is written in quotes, and tests of bytes.
-- Assumes nothing.
use Rattle.std.specs.Prelude.{Bool, true, false, ◌||◌, ◌&&◌, List, [], ◌∷◌, ℕ, leb, eqb}
use Prim.Native.Char.{Char, code}
use Prim.Native.String.{String, [] as empty, ◌∷◌ as ◌before◌}

-- the byte of an ASCII character
abbrev pub byte : Char → ℕ
byte c = code c

-- the bytes of a quoted ASCII text
abbrev pub bytes : String → List ℕ
bytes empty = []
bytes (c before s) = byte c ∷ bytes s

-- k is one of the numbers listed, bytes or kinds
abbrev pub one_of : List ℕ → ℕ → Bool
one_of [] k = false
one_of (j ∷ js) k = eqb k j || one_of js k

-- two texts have the same bytes
abbrev pub same_bytes : List ℕ → List ℕ → Bool
same_bytes [] [] = true
same_bytes [] (b ∷ v) = false
same_bytes (a ∷ u) [] = false
same_bytes (a ∷ u) (b ∷ v) = eqb a b && same_bytes u v

-- b is from low to high
abbrev pub within : ℕ → ℕ → ℕ → Bool
within low high b = leb low b && leb b high

-- 0–9
abbrev pub digit : ℕ → Bool
digit b = within (byte "0") (byte "9") b

-- ---- gaps

abbrev pub line_feed : List ℕ
line_feed = bytes "\n"

abbrev pub space : List ℕ
space = bytes " "

-- ---- what the layout writes by itself

abbrev pub left_brace : List ℕ
left_brace = bytes "{"

abbrev pub right_brace : List ℕ
right_brace = bytes "}"

abbrev pub left_paren : List ℕ
left_paren = bytes "("

abbrev pub right_paren : List ℕ
right_paren = bytes ")"

abbrev pub right_bracket : List ℕ
right_bracket = bytes "]"

abbrev pub comma : List ℕ
comma = bytes ","

abbrev pub else_word : List ℕ
else_word = bytes "else"

-- ---- the marks of comments

abbrev pub slashes : List ℕ
slashes = bytes "//"

abbrev pub doc_slashes : List ℕ
doc_slashes = bytes "///"

abbrev pub slash_star : List ℕ
slash_star = bytes "/*"

abbrev pub star_slash : List ℕ
star_slash = bytes "*/"
