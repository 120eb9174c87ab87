-- The plain mark over rows, in one pass: the facts that its clauses ask for.
-- proofs/Rows.antt shows that the pass is the mark of `definition`.
-- Assumes nothing.
use Rattle.std.specs.Prelude.{Bool, true, false, cond, not, ◌&&◌, ◌||◌, List, [], ◌∷◌, ◌≡◌, ℕ, eqb}
use Rattle.shared.specs.Bytes.{byte, one_of}
use Rattle.rows.specs.Kinds.{TokenRow, Eof, Newline, LeftBrace, RightBrace, LeftParen, RightParen, LeftBracket, RightBracket}
use Rattle.rows.specs.Kinds.{Comma, Dot, Record}
use Rattle.rows.specs.Row.{Row}
use Rattle.rows.specs.Token.{bytes_of}
use Rattle.pieces.specs.Class.{class, is_word}
use Rattle.pieces.specs.Sets.{all}
use Rattle.definition.specs.Plain.{has_its_lexeme, reads_whole, begins_operator, ends_operator, begins_digit}
use Rattle.definition.specs.Plain.{tight_before, tight_after}

-- ---- what the clauses ask of the tokens before a token

-- Of the last token but Newline and Eof:
--     operator   its lexeme ends with an operator byte
--     tight      its kind is one that no operator byte may follow directly
--     digit      its lexeme begins with a digit
-- Of all tokens:
--     comma      the last but Eof is a Comma
--     armed      there is a Record, and no `{` since
--     opened     the last is the first `{` after a Record
pub record Facts : Type 0 where
  pub operator : Bool
  pub tight : Bool
  pub digit : Bool
  pub comma : Bool
  pub armed : Bool
  pub opened : Bool

-- Before the first token none of them holds.
abbrev pub unseen : Facts
unseen = record { operator = false; tight = false; digit = false; comma = false; armed = false; opened = false }

-- Newline and Eof are the kinds that are not written.
abbrev pub mute : ℕ → Bool
mute k = one_of (Eof ∷ Newline ∷ []) k

-- ---- whether a token of the kind k and the lexeme w may come next, where the facts q hold

-- Clauses 5, 6 and 7 forbid a token of the kind k, whatever its lexeme.
abbrev pub forbids : Facts → ℕ → Bool
forbids q k =
    cond (eqb k Dot) q.digit (cond (eqb k LeftBrace) q.comma (cond (eqb k RightBrace) q.opened false))

-- Clause 4: two operator bytes would meet at kinds where they may not.
abbrev pub collides : Facts → ℕ → List ℕ → Bool
collides q k w = q.operator && (begins_operator w && (q.tight || tight_after k))

-- The token may come next.
abbrev pub fits : Facts → ℕ → List ℕ → Bool
fits q k w = mute k || (not (forbids q k) && ((has_its_lexeme k w && reads_whole w) && not (collides q k w)))

-- What the code asks by clauses 4 and 5 where w begins with an operator byte.
abbrev pub meets : Facts → ℕ → Bool
meets q k = (eqb k Dot && q.digit) || (q.operator && (q.tight || tight_after k))

-- The same, where the last token but Newline and Eof is of the kind j and the lexeme v.
abbrev pub meets_after : ℕ → List ℕ → ℕ → Bool
meets_after j v k = (eqb k Dot && begins_digit v) || (ends_operator v && (tight_before j || tight_after k))

-- ---- the facts after a token of the kind k and the lexeme w

-- A Record was seen, and no `{` since.
abbrev pub armed_after : Bool → ℕ → Bool
armed_after armed k = cond (eqb k Record) true (not (eqb k LeftBrace) && armed)

-- The token is the first `{` after a Record.
abbrev pub opens : Facts → ℕ → Bool
opens q k = eqb k LeftBrace && q.armed

-- All of them: Newline and Eof leave the first three as they are, and Eof leaves the fourth.
abbrev pub facts_after : Facts → ℕ → List ℕ → Facts
facts_after q k w = record {
  operator = cond (mute k) q.operator (ends_operator w);
  tight = cond (mute k) q.tight (tight_before k);
  digit = cond (mute k) q.digit (begins_digit w);
  comma = cond (eqb k Eof) q.comma (eqb k Comma);
  armed = armed_after q.armed k;
  opened = opens q k;
}

-- ---- the pass

-- All rows are tokens' rows, and each token fits after those before it, of which the facts q hold.
unfoldable pub plain_rows : List ℕ → Facts → List Row → Bool
plain_rows text q [] = true
plain_rows text q (r ∷ rs) =
    eqb r.what TokenRow
    && (fits q r.kind (bytes_of text r)
    && plain_rows text (facts_after q r.kind (bytes_of text r)) rs)

-- ---- runs of bytes

-- The byte is of the class Word.
abbrev pub is_word_byte : ℕ → Bool
is_word_byte b = is_word (class b)

-- The lexeme has bytes, and all of them are in the set f.
abbrev pub run_of : (ℕ → Bool) → List ℕ → Bool
run_of f [] = false
run_of f (b ∷ w) = f b && all f w

-- The lexeme w reads as one piece that is the whole of it, and begins with no operator byte.
abbrev pub IsValue : List ℕ → Type 0
IsValue w = (reads_whole w ≡ true) × (begins_operator w ≡ false)

-- ---- lexemes of one byte

-- The byte that is the lexeme of a kind from LeftBrace to Comma, or 0 for another kind.
unfoldable pub bracket_of : ℕ → ℕ
bracket_of k =
    cond (eqb k LeftBrace) (byte "{")
    (cond (eqb k RightBrace) (byte "}")
    (cond (eqb k LeftParen) (byte "(")
    (cond (eqb k RightParen) (byte ")")
    (cond (eqb k LeftBracket) (byte "[")
    (cond (eqb k RightBracket) (byte "]")
    (cond (eqb k Comma) (byte ",")
    0))))))
