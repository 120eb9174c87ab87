-- The numbers of the code's kinds (specification, 'Kinds').
-- Assumes nothing.
use Rattle.std.specs.Prelude.{ℕ, Option, None, Some}
use Rattle.rows.specs.Checks.{Before, at_start, after}
use Rattle.rows.specs.declared.kind.What.{What}
use Rattle.rows.specs.declared.kind.What.TheVariants.{Leading, Token, Trailing}
use Rattle.rows.specs.declared.kind.Trivia.{Trivia}
use Rattle.rows.specs.declared.kind.Trivia.TheVariants.{LineComment, DocComment, BlockComment, BlankLine}
use Rattle.rows.specs.declared.kind.Kind.{Kind}
use Rattle.rows.specs.declared.kind.Kind.TheVariants.{
  Eof,
  Newline,
  LeftBrace,
  RightBrace,
  LeftParen,
  RightParen,
  LeftBracket,
  RightBracket,
  Comma,
  Colon,
  Semicolon,
  Question,
  Dot,
  DotDot,
  ColonColon,
  Hash,
  Bang,
  BangHash,
  Minus,
  Else,
  Fn,
  Record,
  Identifier,
  NumberLiteral,
  ByteLiteral,
  StringLiteral,
  CharacterLiteral,
  FloatLiteral,
  BoolLiteral,
  Null,
  Array,
  Map,
  Set,
  Result,
  Other,
}

-- what a row is
abbrev pub what_number : What → ℕ
what_number Leading = 0
what_number Token = 1
what_number Trailing = 2

-- what stands before a row: nothing, or a row
abbrev pub before_of : Option What → Before
before_of None = at_start
before_of (Some w) = after (what_number w)

-- kinds of trivia
abbrev pub trivia_number : Trivia → ℕ
trivia_number LineComment = 0
trivia_number DocComment = 1
trivia_number BlockComment = 2
trivia_number BlankLine = 3

-- kinds of tokens
abbrev pub kind_number : Kind → ℕ
kind_number Eof = 0
kind_number Newline = 1
kind_number LeftBrace = 2
kind_number RightBrace = 3
kind_number LeftParen = 4
kind_number RightParen = 5
kind_number LeftBracket = 6
kind_number RightBracket = 7
kind_number Comma = 8
kind_number Colon = 9
kind_number Semicolon = 10
kind_number Question = 11
kind_number Dot = 12
kind_number DotDot = 13
kind_number ColonColon = 14
kind_number Hash = 15
kind_number Bang = 16
kind_number BangHash = 17
kind_number Minus = 18
kind_number Else = 19
kind_number Fn = 20
kind_number Record = 21
kind_number Identifier = 22
kind_number NumberLiteral = 23
kind_number ByteLiteral = 24
kind_number StringLiteral = 25
kind_number CharacterLiteral = 26
kind_number FloatLiteral = 27
kind_number BoolLiteral = 28
kind_number Null = 29
kind_number Array = 30
kind_number Map = 31
kind_number Set = 32
kind_number Result = 33
kind_number Other = 34
