-- The lookaheads of format.rs, over the tokens from the opener to the end (specification, 'Looking ahead').
-- Assumes nothing.
use Rattle.std.specs.Prelude.{Bool, true, false, cond, not, ◌&&◌, ◌||◌, List, [], ◌∷◌, map, ℕ, ◌+◌, ◌-◌, eqb, ltb, length}
use Rattle.std.specs.Bool.{beq}
use Rattle.rows.specs.Kinds.{TokenRow, Eof, Newline, LeftBrace, RightBrace, LeftParen, RightParen, LeftBracket, RightBracket, Comma}
use Rattle.rows.specs.Row.{Row}
use Rattle.rows.specs.Token.{Trivia, line_comment, doc_comment, block_comment, blank_line, Token}

-- ---- `next_has_comment`, over the tokens after a token (format.rs 131)

unfoldable pub any_comment : List Trivia → Bool
any_comment [] = false
any_comment (line_comment c ∷ ts) = true
any_comment (doc_comment c ∷ ts) = true
any_comment (block_comment c ∷ ts) = true
any_comment (blank_line ∷ ts) = any_comment ts

abbrev pub next_has_comment : List Token → Bool
next_has_comment [] = false
next_has_comment (t ∷ ts) = any_comment t.leading

-- ---- the kind of the next token

abbrev pub next_is : ℕ → List Token → Bool
next_is k [] = false
next_is k (t ∷ ts) = eqb t.kind k

-- ---- `block_is_single_line` (format.rs 155)

abbrev pub is_empty : {A : Type 0} → List A → Bool
is_empty [] = true
is_empty (t ∷ ts) = false

-- no trivia, leading or trailing
abbrev pub bare : Token → Bool
bare t = is_empty t.leading && is_empty t.trailing

-- from a brace depth on
unfoldable pub single_line_from : ℕ → List Token → Bool
single_line_from depth [] = false
single_line_from depth (t ∷ ts) =
    cond (not (bare t)) false
    (cond (eqb t.kind LeftBrace) (single_line_from (depth + 1) ts)
    (cond (eqb t.kind RightBrace) (cond (eqb (depth - 1) 0) true (single_line_from (depth - 1) ts))
    (cond (eqb t.kind Newline) false
    (cond (eqb t.kind Eof) false
    (single_line_from depth ts)))))

abbrev pub block_is_single_line : List Token → Bool
block_is_single_line ts = single_line_from 0 ts

-- ---- `sig_measure` (format.rs 183) and `group_measure` (format.rs 218)

-- what a measure looks at: a token's kind, and how many bytes its lexeme has
pub record Sized : Type 0 where
  pub kind : ℕ
  pub size : ℕ

abbrev pub sized : Token → Sized
sized t = record { kind = t.kind; size = length t.lexeme }

abbrev pub sizes : List Token → List Sized
sizes ts = map sized ts

-- the same by the numbers of the token rows; other rows are passed over
unfoldable pub row_sizes : List Row → List Sized
row_sizes [] = []
row_sizes (r ∷ rs) =
    cond (eqb r.what TokenRow) (record { kind = r.kind; size = r.end - r.start } ∷ row_sizes rs) (row_sizes rs)

-- the running numbers of both loops
pub record Measure : Type 0 where
  pub paren_depth : ℕ
  pub bracket_depth : ℕ
  pub commas : ℕ
  pub width : ℕ
  pub saw_token : Bool

abbrev pub start : Measure
start = record { paren_depth = 0; bracket_depth = 0; commas = 0; width = 0; saw_token = false }

-- the depth after a token of the kind k
abbrev pub depth_after : ℕ → ℕ → ℕ → ℕ → ℕ
depth_after opener closer k depth = cond (eqb k opener) (depth + 1) (cond (eqb k closer) (depth - 1) depth)

-- one turn of both loops: `top` is whether a Comma counts; the width grows by the lexeme's bytes and one more
abbrev pub counted : Bool → Measure → Sized → Measure
counted top m t = record {
  paren_depth = depth_after LeftParen RightParen t.kind m.paren_depth;
  bracket_depth = depth_after LeftBracket RightBracket t.kind m.bracket_depth;
  commas = cond (eqb t.kind Comma && top) (m.commas + 1) m.commas;
  width = m.width + (t.size + 1);
  saw_token = true;
}

-- Both loops. They break before a token where `stops` says so, by the depths after it and its kind, and before Eof; `top`
-- says by the depths before a Comma whether it counts.
unfoldable pub measure_from : (Measure → ℕ → Bool) → (Measure → Bool) → Measure → List Sized → Measure
measure_from stops top m [] = m
measure_from stops top m (t ∷ ts) =
    let n = counted (top m) m t in
    cond (stops n t.kind || eqb t.kind Eof) m (measure_from stops top n ts)

-- it breaks at the `)` that matches
abbrev pub sig_stops : Measure → ℕ → Bool
sig_stops m k = eqb k RightParen && eqb m.paren_depth 0

abbrev pub sig_measure : List Sized → Measure
sig_measure ts = measure_from sig_stops (λ m. eqb m.paren_depth 1 && eqb m.bracket_depth 0) start ts

abbrev pub params : Measure → ℕ
params m = cond m.saw_token (m.commas + 1) 0

-- it breaks at the closer that matches
abbrev pub group_stops : Bool → Measure → ℕ → Bool
group_stops is_paren m k =
    ((eqb k RightParen && is_paren) || (eqb k RightBracket && not is_paren))
    && (eqb m.paren_depth 0 && eqb m.bracket_depth 0)

-- exactly one level inside the opening kind
abbrev pub top_level : Bool → Measure → Bool
top_level is_paren m = eqb (m.paren_depth + m.bracket_depth) 1 && beq is_paren (eqb m.paren_depth 1)

-- the group's opening kind is that of the first token
abbrev pub opens_paren : List Sized → Bool
opens_paren [] = false
opens_paren (t ∷ ts) = eqb t.kind LeftParen

abbrev pub group_measure : List Sized → Measure
group_measure ts = measure_from (group_stops (opens_paren ts)) (top_level (opens_paren ts)) start ts

-- ---- the two decisions, of a measure (format.rs 444, and `should_break_list` 258)

-- a signature breaks: more than 3 params, or wider than the signature width
abbrev pub sig_breaks : ℕ → Measure → Bool
sig_breaks width m = (ltb 3 (params m) || ltb width m.width) && ltb 0 (params m)

-- a list breaks: a top-level comma, and wider than the list width
abbrev pub list_breaks : ℕ → Measure → Bool
list_breaks width m = ltb 0 m.commas && ltb width m.width

unfoldable pub should_break_sig : ℕ → List Token → Bool
should_break_sig width ts = sig_breaks width (sig_measure (sizes ts))

unfoldable pub should_break_list : ℕ → List Token → Bool
should_break_list width ts = list_breaks width (group_measure (sizes ts))
