-- Kinds of the code and their numbers. Assumes nothing.
use mathlib.Core.List.{[], ◌∷◌}
use mathlib.Core.Bool.{Bool, true, false}
use mathlib.Core.Path.{◌≡◌, refl, sym, ◌∙◌}
use Prim.Native.Nat.{ℕ, ◌<◌}
use native.Mathlib.Omega.{arith}
use lib.Dec.{eqb, ltb}
use lib.ListN.{get_or}
use borrow.Author.Tests.{eqb-true, eqb-false, ne_eqb, ltb-true, ltb-false}
use denote.Enum.Declared.{tag_of}
use denote.Enum.Bare.{sameb}
use Rattle.std.specs.Prelude.{min}
use Rattle.shared.proofs.Logic.{split}
use Rattle.shared.proofs.Injective.{injective}
use Rattle.rows.specs.contracts.kind.Kind.{the_type}
use Rattle.rows.specs.declared.kind.Kind.{Kind}
use Rattle.rows.specs.declared.kind.Kind.TheVariants.{Eof, Newline, LeftBrace, RightBrace, LeftParen, RightParen, LeftBracket, RightBracket, Comma, Colon, Semicolon, Question, Dot, DotDot, ColonColon, Hash, Bang, BangHash, Minus, Else, Fn, Record, Identifier, NumberLiteral, ByteLiteral, StringLiteral, CharacterLiteral, FloatLiteral, BoolLiteral, Null, Array, Map, Set, Result, Other}
use Rattle.rows.specs.KindNumber.{kind_number}

-- ---- `==` of kinds is that of their numbers

-- the kind of a number
abbrev kind_of : ℕ → Kind
kind_of n = get_or (Eof ∷ Newline ∷ LeftBrace ∷ RightBrace ∷ LeftParen ∷ RightParen ∷ LeftBracket ∷ RightBracket ∷ Comma ∷ Colon ∷ Semicolon ∷ Question ∷ Dot ∷ DotDot ∷ ColonColon ∷ Hash ∷ Bang ∷ BangHash ∷ Minus ∷ Else ∷ Fn ∷ Record ∷ Identifier ∷ NumberLiteral ∷ ByteLiteral ∷ StringLiteral ∷ CharacterLiteral ∷ FloatLiteral ∷ BoolLiteral ∷ Null ∷ Array ∷ Map ∷ Set ∷ Result ∷ Other ∷ []) n Other

back : (k : Kind) → kind_of (kind_number k) ≡ k
back Eof = refl
back Newline = refl
back LeftBrace = refl
back RightBrace = refl
back LeftParen = refl
back RightParen = refl
back LeftBracket = refl
back RightBracket = refl
back Comma = refl
back Colon = refl
back Semicolon = refl
back Question = refl
back Dot = refl
back DotDot = refl
back ColonColon = refl
back Hash = refl
back Bang = refl
back BangHash = refl
back Minus = refl
back Else = refl
back Fn = refl
back Record = refl
back Identifier = refl
back NumberLiteral = refl
back ByteLiteral = refl
back StringLiteral = refl
back CharacterLiteral = refl
back FloatLiteral = refl
back BoolLiteral = refl
back Null = refl
back Array = refl
back Map = refl
back Set = refl
back Result = refl
back Other = refl

-- the tag of a kind, as `as u32` gives it
pub tag_is : (k : Kind) → tag_of the_type k ≡ kind_number k
tag_is Eof = refl
tag_is Newline = refl
tag_is LeftBrace = refl
tag_is RightBrace = refl
tag_is LeftParen = refl
tag_is RightParen = refl
tag_is LeftBracket = refl
tag_is RightBracket = refl
tag_is Comma = refl
tag_is Colon = refl
tag_is Semicolon = refl
tag_is Question = refl
tag_is Dot = refl
tag_is DotDot = refl
tag_is ColonColon = refl
tag_is Hash = refl
tag_is Bang = refl
tag_is BangHash = refl
tag_is Minus = refl
tag_is Else = refl
tag_is Fn = refl
tag_is Record = refl
tag_is Identifier = refl
tag_is NumberLiteral = refl
tag_is ByteLiteral = refl
tag_is StringLiteral = refl
tag_is CharacterLiteral = refl
tag_is FloatLiteral = refl
tag_is BoolLiteral = refl
tag_is Null = refl
tag_is Array = refl
tag_is Map = refl
tag_is Set = refl
tag_is Result = refl
tag_is Other = refl

pub same_number : (a b : Kind) → kind_number a ≡ kind_number b → a ≡ b
same_number = injective kind_number kind_of back

pub same_kind : (a b : Kind) → sameb the_type a b ≡ eqb (kind_number a) (kind_number b)
same_kind a b = rw (tag_is a, tag_is b)

module _ {b : Bool} (a k : Kind) (e : b ≡ sameb the_type a k) where
  pub alike : b ≡ true → kind_number a ≡ kind_number k
  alike t = eqb-true _ _ (sym (same_kind a k) ∙ sym e ∙ t)

  pub unlike : b ≡ false → kind_number a ≡ kind_number k → ⊥
  unlike f = eqb-false _ _ (sym (same_kind a k) ∙ sym e ∙ f)

-- ---- a number above 34 counts as 34: it is none of the kinds below

pub min_kind : (k c : ℕ) → c < 34 → eqb (min k 34) c ≡ eqb k c
min_kind k c h =
    split (ltb k 34)
    (λ e. let l = ltb-true k 34 e in let m : min k 34 ≡ k = omega arith in rw m)
    (λ e. let l = ltb-false k 34 e in rw (ne_eqb (min k 34) c (λ q. omega (arith, q, h)), ne_eqb k c (λ q. omega (arith, q, h))))
