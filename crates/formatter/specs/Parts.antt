-- The parts of the definition's arms that have a method of their own in the code, in the order of format.rs.
-- Assumes nothing.
use Rattle.std.specs.Prelude.{Bool, true, false, cond, not, ◌&&◌, ◌||◌, List, ℕ, ◌+◌, ◌-◌, ◌*◌, eqb}
use Rattle.std.specs.Prelude
use Rattle.std.proofs.Math.Option.{some, map}
use Rattle.rows.specs.Kinds.{LeftBrace, RightBrace, RightParen, RightBracket}
use Rattle.rows.specs.Options.{Options}
use Rattle.rows.specs.Token.{Token}
use Rattle.lookahead.specs.Measure.{is_empty, next_has_comment, block_is_single_line}
use Rattle.definition.specs.Formatter.{Formatter, set_in_record, set_record_depth, set_record_pending, set_returned, set_prev}
use Rattle.definition.specs.Act.{State, Act, if, update, gap, lexeme, insert, ◌⨾◌}
use Rattle.definition.specs.Emit.{is_at, prev_is, on_new_line, ended_by, dedented, emit_token_text}
use Rattle.spaces.specs.Space.{space_after}
use Rattle.formatter.specs.CodeState.{prev_of}
use Rattle.definition.specs.Arms.{in_one_line_block, in_broken_list, ends_with_two_feeds, group_closed, popped}
use Rattle.lookahead.specs.Measure.{next_is}
use Rattle.definition.specs.Arms.{open_inline, open_inner_inline}

-- ---- Newline

-- Whether a Newline that is not swallowed writes a line feed, before the tokens ts.
abbrev pub feeds_line : List Token → State → Bool
feeds_line ts s =
    cond (is_empty s.out && next_has_comment ts) false
    (cond (s.formatter.in_record || in_one_line_block s.formatter) false
    (cond s.formatter.at_line_start (not (ends_with_two_feeds s.out)) true))

-- ---- braces

-- How many spaces stand before the `}` of a one-line block.
abbrev pub inline_close_size : Options → Formatter → ℕ
inline_close_size o f = cond f.at_line_start (o.indent_width * f.indent) (cond (prev_is LeftBrace f) 0 1)

-- Whether a `{`, the first of the tokens ts, opens a block over several lines.
abbrev pub opens_block : List Token → Formatter → Bool
opens_block ts f =
    cond f.record_pending true
    (cond f.in_record true (cond (in_one_line_block f) false (not (block_is_single_line ts))))

-- What such a `{` does to the record fields.
abbrev pub record_entered : Formatter → Formatter
record_entered f =
    cond f.record_pending (set_record_depth 1 (set_in_record true (set_record_pending false f)))
    (cond f.in_record (set_record_depth (f.record_depth + 1) f) f)

-- The act of any other `{`: it opens a one-line block, or a block inside one.
abbrev pub open_one_line : Options → Act
open_one_line o = if in_one_line_block (open_inner_inline o) (open_inline o)

-- An act that opens a block, after which the last kind is `{`.
abbrev pub braced : Act → Act
braced a = a ⨾ update (set_prev (some LeftBrace))

-- ---- brackets

-- Whether a `)` ends a broken signature: its depth, one less, is 0.
abbrev pub closes_signature : Formatter → Bool
closes_signature f = is_at (map (λ d. d - 1) f.sig_break_depth) 0

-- The act of the closer of a broken list, which has the bytes w and the kind k. A comma goes before it where one is wanted.
abbrev pub close_list : Options → Bool → List ℕ → ℕ → Act
close_list o wanted w k =
    update (λ f. dedented (popped f))
    ⨾ cond wanted (insert (on_new_line o) w) (gap (on_new_line o) ⨾ lexeme w)
    ⨾ update (λ f. set_returned true (ended_by k (group_closed f)))

-- ---- gaps

-- How many spaces stand before a token of the kind k.
abbrev pub gap_size : Options → ℕ → Formatter → ℕ
gap_size o k f =
    cond f.at_line_start (o.indent_width * f.indent) (cond (space_after f.prev f.prev_minus_is_unary k) 1 0)

-- How many spaces stand before a comment: the indent at a line's start, else one.
abbrev pub indent_or_space_size : Options → Formatter → ℕ
indent_or_space_size o f = cond f.at_line_start (o.indent_width * f.indent) 1

-- ---- lexemes

-- The act of `emit_token_text`, and of the bytes w after it.
abbrev pub emit_tail : Options → Token → List ℕ → Act
emit_tail o t w = emit_token_text o t ⨾ gap (λ f. w)

-- ---- `push_token`

-- Whether the arm returns before the trailing trivia.
abbrev pub returns_early : Token → List Token → Formatter → Bool
returns_early t ts f =
    cond (eqb t.kind LeftBrace) (f.record_pending && next_is RightBrace ts)
    (cond (eqb t.kind RightParen) (closes_signature f || in_broken_list f)
    (eqb t.kind RightBracket && in_broken_list f))

-- Whether the token took the next one along: `record E {}` does, and no other `{` leaves `}` as the last kind.
abbrev pub took_next : ℕ → Prelude.Option ℕ → Bool
took_next kind prev = eqb kind LeftBrace && is_at (prev_of prev) RightBrace
