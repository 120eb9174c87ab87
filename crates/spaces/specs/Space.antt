-- `needs_space` and `is_value_token` of format.rs (specification, 'Spaces').
-- Assumes nothing.
use Rattle.std.specs.Prelude.{Bool, false, cond, not, ◌&&◌, ◌||◌, [], ◌∷◌, ℕ, eqb}
use Rattle.std.proofs.Math.Option.{Option, none, some}
use Rattle.shared.specs.Bytes.{one_of}
use Rattle.rows.specs.Kinds.{LeftBrace, RightBrace, LeftParen, RightParen, LeftBracket, RightBracket, Minus}
use Rattle.rows.specs.Kinds.{Comma, Colon, Semicolon, Question, Dot, DotDot, ColonColon, Hash, Bang, BangHash}
use Rattle.rows.specs.Kinds.{Identifier, NumberLiteral, ByteLiteral, StringLiteral, CharacterLiteral, FloatLiteral, BoolLiteral, Null}
use Rattle.rows.specs.Kinds.{Array, Map, Set, Result}

-- ---- `needs_space` (format.rs 684)

-- never a space right after these
abbrev pub no_space_after : ℕ → Bool
no_space_after prev = one_of (LeftParen ∷ LeftBracket ∷ Dot ∷ DotDot ∷ ColonColon ∷ Hash ∷ Bang ∷ BangHash ∷ []) prev

-- never a space right before these
abbrev pub no_space_before : ℕ → Bool
no_space_before curr = one_of (RightParen ∷ RightBracket ∷ Dot ∷ DotDot ∷ ColonColon ∷ Comma ∷ Colon ∷ Semicolon ∷ Question ∷ []) curr

-- empty block `{}`
abbrev pub empty_block : ℕ → ℕ → Bool
empty_block prev curr = eqb curr RightBrace && eqb prev LeftBrace

-- function calls
abbrev pub calls : ℕ → ℕ → Bool
calls prev curr = eqb curr LeftParen && one_of (Identifier ∷ RightParen ∷ RightBracket ∷ []) prev

-- index expressions and generic type brackets
abbrev pub indexes : ℕ → ℕ → Bool
indexes prev curr = eqb curr LeftBracket && one_of (Identifier ∷ RightParen ∷ RightBracket ∷ Array ∷ Map ∷ Set ∷ Result ∷ []) prev

abbrev pub needs_space : ℕ → ℕ → Bool
needs_space prev curr = not (no_space_after prev || no_space_before curr || empty_block prev curr || calls prev curr || indexes prev curr)

-- ---- `is_value_token` (format.rs 738)

-- a token that can end an expression, after which a `-` is binary
abbrev pub is_value_kind : ℕ → Bool
is_value_kind k =
    one_of (Identifier ∷ NumberLiteral ∷ ByteLiteral ∷ StringLiteral ∷ CharacterLiteral ∷ FloatLiteral ∷ BoolLiteral ∷ RightParen ∷ RightBracket ∷ Null ∷ []) k

abbrev pub is_value_token : Option ℕ → Bool
is_value_token none = false
is_value_token (some k) = is_value_kind k

-- ---- before a token of the walk

-- whether a space stands before a token of the kind k; none after a unary `-`
abbrev pub space_after : Option ℕ → Bool → ℕ → Bool
space_after none unary k = false
space_after (some p) unary k = cond (eqb p Minus && unary) false (needs_space p k)
