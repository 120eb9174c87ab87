-- The kinds of rows, tokens and trivia by name (specification, 'Kinds').
-- Assumes nothing.
use Rattle.std.specs.Prelude.{ℕ}

-- ---- what a row is

abbrev pub Leading : ℕ
Leading = 0

abbrev pub TokenRow : ℕ
TokenRow = 1

abbrev pub Trailing : ℕ
Trailing = 2

-- ---- kinds of trivia

abbrev pub LineComment : ℕ
LineComment = 0

abbrev pub DocComment : ℕ
DocComment = 1

abbrev pub BlockComment : ℕ
BlockComment = 2

abbrev pub BlankLine : ℕ
BlankLine = 3

-- ---- kinds of tokens, under the names of `TokenType`

abbrev pub Eof : ℕ
Eof = 0

abbrev pub Newline : ℕ
Newline = 1

abbrev pub LeftBrace : ℕ
LeftBrace = 2

abbrev pub RightBrace : ℕ
RightBrace = 3

abbrev pub LeftParen : ℕ
LeftParen = 4

abbrev pub RightParen : ℕ
RightParen = 5

abbrev pub LeftBracket : ℕ
LeftBracket = 6

abbrev pub RightBracket : ℕ
RightBracket = 7

abbrev pub Comma : ℕ
Comma = 8

abbrev pub Colon : ℕ
Colon = 9

abbrev pub Semicolon : ℕ
Semicolon = 10

abbrev pub Question : ℕ
Question = 11

abbrev pub Dot : ℕ
Dot = 12

abbrev pub DotDot : ℕ
DotDot = 13

abbrev pub ColonColon : ℕ
ColonColon = 14

abbrev pub Hash : ℕ
Hash = 15

abbrev pub Bang : ℕ
Bang = 16

abbrev pub BangHash : ℕ
BangHash = 17

abbrev pub Minus : ℕ
Minus = 18

abbrev pub Else : ℕ
Else = 19

abbrev pub Fn : ℕ
Fn = 20

abbrev pub Record : ℕ
Record = 21

abbrev pub Identifier : ℕ
Identifier = 22

abbrev pub NumberLiteral : ℕ
NumberLiteral = 23

abbrev pub ByteLiteral : ℕ
ByteLiteral = 24

abbrev pub StringLiteral : ℕ
StringLiteral = 25

abbrev pub CharacterLiteral : ℕ
CharacterLiteral = 26

abbrev pub FloatLiteral : ℕ
FloatLiteral = 27

abbrev pub BoolLiteral : ℕ
BoolLiteral = 28

abbrev pub Null : ℕ
Null = 29

abbrev pub Array : ℕ
Array = 30

abbrev pub Map : ℕ
Map = 31

abbrev pub Set : ℕ
Set = 32

abbrev pub Result : ℕ
Result = 33

-- all others
abbrev pub Other : ℕ
Other = 34
