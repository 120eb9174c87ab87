-- Kinds of tokens told apart by their numbers. Assumes nothing.
use mathlib.Core.Bool.{cond}
use mathlib.Core.Path.{◌≡◌, refl, sym, ap, ◌∙◌}
use Prim.Native.Nat.{ℕ}
use lib.Dec.{eqb}
use Rattle.rows.specs.KindNumber.{kind_number}
use Rattle.rows.specs.declared.kind.Kind.{Kind}
use Rattle.rows.specs.declared.kind.Kind.TheVariants.{Eof, Newline, LeftBrace, RightBrace, LeftParen, RightParen, LeftBracket, RightBracket, Comma, Colon, Semicolon, Question, Dot, DotDot, ColonColon, Hash, Bang, BangHash, Minus, Else, Fn, Record, Identifier, NumberLiteral, ByteLiteral, StringLiteral, CharacterLiteral, FloatLiteral, BoolLiteral, Null, Array, Map, Set, Result, Other}

named : ℕ → Kind
named n =
    cond (eqb n 0) Eof (cond (eqb n 1) Newline (cond (eqb n 2) LeftBrace (cond (eqb n 3) RightBrace
    (cond (eqb n 4) LeftParen (cond (eqb n 5) RightParen (cond (eqb n 6) LeftBracket
    (cond (eqb n 7) RightBracket (cond (eqb n 8) Comma (cond (eqb n 9) Colon (cond (eqb n 10) Semicolon
    (cond (eqb n 11) Question (cond (eqb n 12) Dot (cond (eqb n 13) DotDot (cond (eqb n 14) ColonColon
    (cond (eqb n 15) Hash (cond (eqb n 16) Bang (cond (eqb n 17) BangHash (cond (eqb n 18) Minus
    (cond (eqb n 19) Else (cond (eqb n 20) Fn (cond (eqb n 21) Record (cond (eqb n 22) Identifier
    (cond (eqb n 23) NumberLiteral (cond (eqb n 24) ByteLiteral (cond (eqb n 25) StringLiteral
    (cond (eqb n 26) CharacterLiteral (cond (eqb n 27) FloatLiteral (cond (eqb n 28) BoolLiteral
    (cond (eqb n 29) Null (cond (eqb n 30) Array (cond (eqb n 31) Map (cond (eqb n 32) Set
    (cond (eqb n 33) Result Other)))))))))))))))))))))))))))))))))

named_number : (k : Kind) → named (kind_number k) ≡ k
unfolding named
named_number Eof = refl
named_number Newline = refl
named_number LeftBrace = refl
named_number RightBrace = refl
named_number LeftParen = refl
named_number RightParen = refl
named_number LeftBracket = refl
named_number RightBracket = refl
named_number Comma = refl
named_number Colon = refl
named_number Semicolon = refl
named_number Question = refl
named_number Dot = refl
named_number DotDot = refl
named_number ColonColon = refl
named_number Hash = refl
named_number Bang = refl
named_number BangHash = refl
named_number Minus = refl
named_number Else = refl
named_number Fn = refl
named_number Record = refl
named_number Identifier = refl
named_number NumberLiteral = refl
named_number ByteLiteral = refl
named_number StringLiteral = refl
named_number CharacterLiteral = refl
named_number FloatLiteral = refl
named_number BoolLiteral = refl
named_number Null = refl
named_number Array = refl
named_number Map = refl
named_number Set = refl
named_number Result = refl
named_number Other = refl

pub other : {k : Kind} (j : Kind) → (k ≡ j → ⊥) → kind_number k ≡ kind_number j → ⊥
other {k} j n e = n (sym (named_number k) ∙ ap named e ∙ named_number j)
