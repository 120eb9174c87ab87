-- Kinds of the code: their numbers, and sets of them. Assumes nothing.
use mathlib.Core.Bool.{true, false}
use mathlib.Core.Path.{◌≡◌, refl}
use Prim.Native.Nat.{ℕ, ◌≤◌}
use native.Mathlib.Omega.{arith}
use borrow.Author.Tests.{leb-true, ne_eqb}
use lib.Dec.{eqb, leb}
use Rattle.std.specs.Prelude.{min}
use Rattle.rows.specs.declared.kind.Kind.{Kind}
use Rattle.rows.specs.declared.kind.Kind.TheVariants.{Eof, Newline, LeftBrace, RightBrace, LeftParen, RightParen, LeftBracket, RightBracket, Comma, Colon, Semicolon, Question, Dot, DotDot, ColonColon, Hash, Bang, BangHash, Minus, Else, Fn, Record, Identifier, NumberLiteral, ByteLiteral, StringLiteral, CharacterLiteral, FloatLiteral, BoolLiteral, Null, Array, Map, Set, Result, Other}
use Rattle.rows.specs.KindNumber.{kind_number, what_number}
use Rattle.rows.specs.contracts.kind.What as whats
use Rattle.rows.specs.declared.kind.What.{What}
use Rattle.rows.specs.declared.kind.What.TheVariants as what_is
use denote.Enum.Declared.{tag_of}
use Rattle.rows.proofs.KindNumbers.{same_number}

-- Each number is at most 34.
few : (k : Kind) → leb (kind_number k) 34 ≡ true
few Eof = refl
few Newline = refl
few LeftBrace = refl
few RightBrace = refl
few LeftParen = refl
few RightParen = refl
few LeftBracket = refl
few RightBracket = refl
few Comma = refl
few Colon = refl
few Semicolon = refl
few Question = refl
few Dot = refl
few DotDot = refl
few ColonColon = refl
few Hash = refl
few Bang = refl
few BangHash = refl
few Minus = refl
few Else = refl
few Fn = refl
few Record = refl
few Identifier = refl
few NumberLiteral = refl
few ByteLiteral = refl
few StringLiteral = refl
few CharacterLiteral = refl
few FloatLiteral = refl
few BoolLiteral = refl
few Null = refl
few Array = refl
few Map = refl
few Set = refl
few Result = refl
few Other = refl

pub kind_few : (k : Kind) → kind_number k ≤ 34
kind_few k = leb-true (kind_number k) 34 (few k)

-- A kind that a known number was read as has that number.
pub read_as : {n : ℕ} (k : Kind) → kind_number k ≡ min n 34 → n ≤ 34 → kind_number k ≡ n
read_as k e h = omega arith

-- Two kinds that differ have two numbers.
pub other_kind : (a b : Kind) → (a ≡ b → ⊥) → eqb (kind_number a) (kind_number b) ≡ false
other_kind a b n = ne_eqb (kind_number a) (kind_number b) (λ e. n (same_number a b e))

-- What a row is, as a number.
pub what_tag : (w : What) → tag_of whats.the_type w ≡ what_number w
what_tag what_is.Leading = refl
what_tag what_is.Token = refl
what_tag what_is.Trailing = refl
