-- The plain mark (specification, 'The plain mark'): its seven clauses, in their order, over the tokens.
-- "Directly" is the next token; "neighbours" are next once Newline and Eof are passed over.
-- Assumes nothing.
use Rattle.std.specs.Prelude.{ℕ, Bool, true, false, cond, not, ◌&&◌, ◌||◌, List, [], ◌∷◌, length, ◌==◌}
use Rattle.std.proofs.Math.Option.{Option, none, some}
use Rattle.shared.specs.Bytes.{bytes, one_of, same_bytes, digit}
use Rattle.rows.specs.Kinds.{Eof, Newline, LeftBrace, RightBrace, LeftParen, RightParen, LeftBracket, RightBracket, Comma, Colon, Semicolon, Question, Dot, DotDot, ColonColon, Hash, Bang, BangHash, Minus, Else, Record}
use Rattle.rows.specs.Token.{Token}
use Rattle.lookahead.specs.Measure.{bare}
use Rattle.pieces.specs.Class.{class, is_operator}
use Rattle.pieces.specs.Reading.{Reading, done, refused, piece, reading}
use Rattle.lookahead.specs.Measure.{next_is}

-- Newline and Eof: all other tokens are written
abbrev pub is_mute : Token → Bool
is_mute t = one_of (Eof ∷ Newline ∷ []) t.kind

-- a clause holds of each token
unfoldable pub every : (Token → Bool) → List Token → Bool
every clause [] = true
every clause (t ∷ ts) = clause t && every clause ts

-- the neighbour before what comes after t
abbrev pub neighbour : Option Token → Token → Option Token
neighbour last t = cond (is_mute t) last (some t)

-- a clause holds of each token and the neighbour before it
unfoldable pub every_pair : (Option Token → Token → Bool) → Option Token → List Token → Bool
every_pair clause last [] = true
every_pair clause last (t ∷ ts) = clause last t && every_pair clause (neighbour last t) ts

-- ---- 1. no trivia rows

abbrev pub clause₁ : Token → Bool
clause₁ t = bare t

-- ---- 2. kinds 2–16, 18, 19 have their lexemes, and BangHash only operator bytes

abbrev pub operator_byte : ℕ → Bool
operator_byte b = is_operator (class b)

abbrev pub only_operators : List ℕ → Bool
only_operators [] = true
only_operators (b ∷ w) = operator_byte b && only_operators w

-- kinds 2–16, 18 and 19, each with its lexeme
abbrev pub fixed : List (ℕ × List ℕ)
fixed =
    (LeftBrace, bytes "{") ∷ (RightBrace, bytes "}") ∷ (LeftParen, bytes "(") ∷ (RightParen, bytes ")") ∷ (LeftBracket, bytes "[") ∷ (RightBracket, bytes "]") ∷
    (Comma, bytes ",") ∷ (Colon, bytes ":") ∷ (Semicolon, bytes ";") ∷ (Question, bytes "?") ∷ (Dot, bytes ".") ∷ (DotDot, bytes "..") ∷ (ColonColon, bytes "::") ∷
    (Hash, bytes "#") ∷ (Bang, bytes "!") ∷ (Minus, bytes "-") ∷ (Else, bytes "else") ∷ []

-- by the first pair of the kind k, if there is one
abbrev pub fits_fixed : List (ℕ × List ℕ) → ℕ → List ℕ → Bool
fits_fixed [] k w = cond (k == BangHash) (only_operators w) true
fits_fixed (p ∷ ps) k w = cond (k == p.0) (same_bytes w p.1) (fits_fixed ps k w)

unfoldable pub has_its_lexeme : ℕ → List ℕ → Bool
has_its_lexeme k w = fits_fixed fixed k w

abbrev pub clause₂ : Token → Bool
clause₂ t = has_its_lexeme t.kind t.lexeme

-- ---- 3. each lexeme but those of Newline and Eof reads as one piece that is the whole lexeme

abbrev pub is_one_piece : ℕ → Reading → Bool
is_one_piece n done = false
is_one_piece n (refused i) = false
is_one_piece n (piece s e done) = s == 0 && e == n
is_one_piece n (piece s e (refused i)) = false
is_one_piece n (piece s e (piece s' e' r)) = false

unfoldable pub reads_whole : List ℕ → Bool
reads_whole w = is_one_piece (length w) (reading w)

abbrev pub clause₃ : Token → Bool
clause₃ t = is_mute t || reads_whole t.lexeme

-- ---- 4. where a neighbour ends and the next begins with an operator byte, the first isn't one of seven kinds and the second isn't one of four

abbrev pub ends_operator : List ℕ → Bool
ends_operator [] = false
ends_operator (b ∷ []) = operator_byte b
ends_operator (b ∷ c ∷ w) = ends_operator (c ∷ w)

abbrev pub begins_operator : List ℕ → Bool
begins_operator [] = false
begins_operator (b ∷ w) = operator_byte b

-- Dot, DotDot, ColonColon, Hash, Bang, BangHash, Minus
abbrev pub tight_before : ℕ → Bool
tight_before k = one_of (Dot ∷ DotDot ∷ ColonColon ∷ Hash ∷ Bang ∷ BangHash ∷ Minus ∷ []) k

-- Dot, DotDot, ColonColon, Colon
abbrev pub tight_after : ℕ → Bool
tight_after k = one_of (Dot ∷ DotDot ∷ ColonColon ∷ Colon ∷ []) k

abbrev pub operators_meet : Token → Token → Bool
operators_meet t u = ends_operator t.lexeme && begins_operator u.lexeme

abbrev pub may_meet : Option Token → Token → Bool
may_meet none u = true
may_meet (some t) u = not (operators_meet t u) || not (tight_before t.kind || tight_after u.kind)

abbrev pub clause₄ : Option Token → Token → Bool
clause₄ last t = is_mute t || may_meet last t

-- ---- 5. no lexeme begun with a digit has Dot for its next neighbour

abbrev pub begins_digit : List ℕ → Bool
begins_digit [] = false
begins_digit (b ∷ w) = digit b

abbrev pub no_dot_after : Option Token → Token → Bool
no_dot_after none u = true
no_dot_after (some t) u = not (begins_digit t.lexeme && u.kind == Dot)

abbrev pub clause₅ : Option Token → Token → Bool
clause₅ last t = is_mute t || no_dot_after last t

-- ---- 6. no `{` directly after `,`, nor after it with only Eof between

-- the last token but Eof is a Comma
abbrev pub comma_last : Bool → Token → Bool
comma_last comma t = cond (t.kind == Eof) comma (t.kind == Comma)

abbrev pub clause₆ : Bool → Token → Bool
clause₆ comma t = not (t.kind == LeftBrace && comma)

unfoldable pub no_brace_after_comma : Bool → List Token → Bool
no_brace_after_comma comma [] = true
no_brace_after_comma comma (t ∷ ts) = clause₆ comma t && no_brace_after_comma (comma_last comma t) ts

-- ---- 7. the first `{` after a Record is not directly followed by `}`

-- a Record, and no `{` since
abbrev pub record_open : Bool → Token → Bool
record_open armed t = cond (t.kind == Record) true (not (t.kind == LeftBrace) && armed)

abbrev pub clause₇ : Bool → Token → List Token → Bool
clause₇ armed t ts = not (t.kind == LeftBrace && (armed && next_is RightBrace ts))

unfoldable pub no_empty_record : Bool → List Token → Bool
no_empty_record armed [] = true
no_empty_record armed (t ∷ ts) = clause₇ armed t ts && no_empty_record (record_open armed t) ts

-- ---- the mark

unfoldable pub plain : List Token → Bool
plain ts =
    every clause₁ ts
    && (every clause₂ ts
    && (every clause₃ ts
    && (every_pair clause₄ none ts
    && (every_pair clause₅ none ts
    && (no_brace_after_comma false ts
    && no_empty_record false ts)))))
