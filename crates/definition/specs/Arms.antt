-- The arms of `push_token`, each an act, in the order of format.rs. A number in a heading is a line of format.rs.
-- Where the Rust returns from an arm, `returned` is set, and no trailing trivia are written.
-- Assumes nothing.
use Rattle.std.specs.Prelude.{ℕ, ◌+◌, ◌-◌, Bool, true, false, cond, not, ◌&&◌, ◌||◌, List, [], ◌∷◌, ◌++◌, drop, ◌==◌, nat_lt}
use mathlib.Core.List.{head?}
use Rattle.std.proofs.Math.Option.{none, some, map}
use Rattle.shared.specs.Bytes.{byte, bytes, line_feed, space, left_brace, right_brace, left_paren, right_paren, right_bracket, comma, else_word}
use Rattle.rows.specs.Kinds.{Newline, LeftBrace, RightBrace, LeftParen, RightParen, RightBracket, Comma, Else, Record, Identifier}
use Rattle.rows.specs.Options.{Options}
use Rattle.rows.specs.Token.{Token}
use Rattle.lookahead.specs.Measure.{next_is, next_has_comment, is_empty, block_is_single_line, should_break_sig, should_break_list}
use Rattle.definition.specs.Formatter.{Formatter, set_at_line_start, set_prev, set_inline_depth, set_fn_state, set_sig_break_depth, set_record_pending, set_in_record, set_record_depth, set_just_closed_inline, set_suppress_newline_at, set_group_depth, set_break_stack, set_returned, set_skip_next}
use Rattle.definition.specs.Act.{Act, update, gap, lexeme, insert, ◌⨾◌, choose, nothing, if}
use Rattle.definition.specs.Emit.{is_at, prev_is, indent_str, indent_or_space, on_new_line, ended_by, line_begun, indented, dedented, open_block_multiline, push_lexeme, emit_token_text}

-- ---- tests that several arms make

abbrev pub in_one_line_block : Formatter → Bool
in_one_line_block f = nat_lt 0 f.inline_depth

-- directly in a record
abbrev pub at_record_fields : Formatter → Bool
at_record_fields f = f.in_record && f.record_depth == 1

-- directly in the innermost broken list: `break_stack.last() == Some(&group_depth)`
abbrev pub in_broken_list : Formatter → Bool
in_broken_list f = is_at (head? f.break_stack) f.group_depth

-- ---- updates that several arms make

abbrev pub group_opened : Formatter → Formatter
group_opened f = set_group_depth (f.group_depth + 1) f

abbrev pub group_closed : Formatter → Formatter
group_closed f = set_group_depth (f.group_depth - 1) f

abbrev pub popped : Formatter → Formatter
popped f = set_break_stack (drop 1 f.break_stack) f

abbrev pub pushed : Formatter → Formatter
pushed f = set_break_stack (f.group_depth ∷ f.break_stack) f

-- ---- Newline, 320

-- `ends_with("\n\n")`
unfoldable pub ends_with_two_feeds : List ℕ → Bool
ends_with_two_feeds [] = false
ends_with_two_feeds (a ∷ []) = false
ends_with_two_feeds (a ∷ b ∷ []) = a == (byte "\n") && b == (byte "\n")
ends_with_two_feeds (a ∷ b ∷ c ∷ bs) = ends_with_two_feeds (b ∷ c ∷ bs)

abbrev pub feed_line : Act
feed_line = gap (λ f. line_feed) ⨾ update (λ f. set_prev (some Newline) (set_at_line_start true f))

unfoldable pub newline_arm : ℕ → List Token → Act
newline_arm i ts =
    if (λ f. is_at f.suppress_newline_at i) (update (set_suppress_newline_at none))
    (choose (λ s. is_empty s.out && next_has_comment ts) nothing
    (if (λ f. f.in_record || in_one_line_block f) nothing
    (if (λ f. not f.at_line_start) feed_line
    (choose (λ s. not (ends_with_two_feeds s.out)) (gap (λ f. line_feed) ⨾ update (set_prev (some Newline)))
    nothing))))

-- ---- RightBrace, 341

-- in a one-line block: `{}` is tight
abbrev pub inline_close_gap : Options → Formatter → List ℕ
inline_close_gap o f = cond f.at_line_start (indent_str o f) (cond (prev_is LeftBrace f) [] space)

abbrev pub close_inline : Options → Act
close_inline o =
    update (λ f. set_just_closed_inline true (set_inline_depth (f.inline_depth - 1) f))
    ⨾ gap (inline_close_gap o)
    ⨾ lexeme right_brace
    ⨾ update (ended_by RightBrace)

-- a record: a closing comma, unless the last kind is Comma or LeftBrace
abbrev pub close_record : Options → Act
close_record o =
    update (λ f. dedented (set_record_depth 0 (set_in_record false f)))
    ⨾ if (λ f. prev_is Comma f || prev_is LeftBrace f) (gap (on_new_line o) ⨾ lexeme right_brace) (insert (on_new_line o) right_brace)
    ⨾ update (ended_by RightBrace)

abbrev pub close_block : Options → Act
close_block o =
    update (λ f. dedented (set_record_depth (cond f.in_record (f.record_depth - 1) f.record_depth) f))
    ⨾ gap (on_new_line o)
    ⨾ lexeme right_brace
    ⨾ update (ended_by RightBrace)

unfoldable pub right_brace_arm : Options → Act
right_brace_arm o = if in_one_line_block (close_inline o) (if at_record_fields (close_record o) (close_block o))

-- ---- LeftBrace, 387

-- `record E {}`: the lexeme and `{}`, and the `}` after it is taken along
unfoldable pub empty_record : Options → Token → Act
empty_record o t =
    push_lexeme o t
    ⨾ lexeme (bytes "{}")
    ⨾ update (λ f. set_skip_next true (set_returned true (set_record_pending false (set_prev (some RightBrace) f))))

-- a block over several lines, in a record or not
abbrev pub open_block : Options → ℕ → Act
open_block o i = open_block_multiline o i ⨾ update (set_prev (some LeftBrace))

-- a one-line block in a one-line block: at a line's start the `{` is left out
abbrev pub open_inner_inline : Options → Act
open_inner_inline o =
    if (λ f. f.at_line_start) (gap (indent_str o)) (gap (λ f. space) ⨾ lexeme left_brace)
    ⨾ update (λ f. ended_by LeftBrace (set_inline_depth (f.inline_depth + 1) f))

abbrev pub open_inline : Options → Act
open_inline o = gap (indent_or_space o) ⨾ lexeme left_brace ⨾ update (λ f. ended_by LeftBrace (set_inline_depth 1 f))

unfoldable pub left_brace_arm : Options → ℕ → Token → List Token → Act
left_brace_arm o i t ts =
    if (λ f. f.record_pending)
    (if (λ f. next_is RightBrace ts) (empty_record o t)
    (update (λ f. set_record_depth 1 (set_in_record true (set_record_pending false f))) ⨾ open_block o i))
    (if (λ f. f.in_record) (update (λ f. set_record_depth (f.record_depth + 1) f) ⨾ open_block o i)
    (if in_one_line_block (open_inner_inline o)
    (if (λ f. block_is_single_line (t ∷ ts)) (open_inline o)
    (open_block o i))))

-- ---- LeftParen, 439, and LeftBracket, 478

-- a wide list: one item a line
abbrev pub open_list : Options → ℕ → Token → Act
open_list o i t = emit_token_text o t ⨾ gap (λ f. line_feed) ⨾ update (λ f. line_begun (i + 1) (pushed (group_opened (indented f))))

-- a group that stays on its line
abbrev pub open_group : Options → Token → Act
open_group o t = push_lexeme o t ⨾ update group_opened

-- outside one-line blocks and records
abbrev pub breaks_list : Options → Token → List Token → Formatter → Bool
breaks_list o t ts f = f.inline_depth == 0 && (not f.in_record && should_break_list o.list_width (t ∷ ts))

-- `fn name (` or `fn (`, outside one-line blocks
abbrev pub at_signature : Formatter → Bool
at_signature f = f.inline_depth == 0 && (f.fn_state == 2 || f.fn_state == 1)

abbrev pub break_signature : Options → ℕ → Act
break_signature o i =
    lexeme left_paren ⨾ update indented ⨾ gap (λ f. line_feed ++ indent_str o f)
    ⨾ update
    (λ f. group_opened (ended_by LeftParen (set_suppress_newline_at (some (i + 1)) (set_sig_break_depth (some 1) f))))

abbrev pub open_signature : Options → ℕ → Token → List Token → Act
open_signature o i t ts =
    update (set_fn_state 0)
    ⨾ if (λ f. should_break_sig o.fn_sig_width (t ∷ ts)) (break_signature o i) (open_group o t)

unfoldable pub left_paren_arm : Options → ℕ → Token → List Token → Act
left_paren_arm o i t ts =
    if at_signature (open_signature o i t ts)
    (if (breaks_list o t ts) (open_list o i t)
    (update (λ f. set_sig_break_depth (map (λ d. d + 1) f.sig_break_depth) f) ⨾ open_group o t))

unfoldable pub left_bracket_arm : Options → ℕ → Token → List Token → Act
left_bracket_arm o i t ts = if (breaks_list o t ts) (open_list o i t) (open_group o t)

-- ---- RightParen, 496

abbrev pub close_group : Options → Token → Act
close_group o t = push_lexeme o t ⨾ update group_closed

-- the signature's `)`: the indent goes after it
abbrev pub close_signature_paren : Options → Act
close_signature_paren o =
    gap (on_new_line o) ⨾ lexeme right_paren
    ⨾ update (λ f. set_returned true (ended_by RightParen (group_closed (dedented f))))

abbrev pub close_signature : Options → Act
close_signature o = update (set_sig_break_depth none) ⨾ close_signature_paren o

-- a broken list's `)`: no comma
abbrev pub close_call : Options → Act
close_call o =
    update (λ f. dedented (popped f)) ⨾ gap (on_new_line o) ⨾ lexeme right_paren
    ⨾ update (λ f. set_returned true (ended_by RightParen (group_closed f)))

unfoldable pub right_paren_arm : Options → Token → Act
right_paren_arm o t =
    update (λ f. set_sig_break_depth (map (λ d. d - 1) f.sig_break_depth) f)
    ⨾ if (λ f. is_at f.sig_break_depth 0) (close_signature o)
    (if in_broken_list (close_call o) (close_group o t))

-- ---- RightBracket, 533

-- a broken list's `]`: a comma, unless the last kind is Comma
abbrev pub close_array : Options → Act
close_array o =
    update (λ f. dedented (popped f))
    ⨾ if (prev_is Comma) (gap (on_new_line o) ⨾ lexeme right_bracket) (insert (on_new_line o) right_bracket)
    ⨾ update (λ f. set_returned true (ended_by RightBracket (group_closed f)))

unfoldable pub right_bracket_arm : Options → Token → Act
right_bracket_arm o t = if in_broken_list (close_array o) (close_group o t)

-- ---- Comma, 555

abbrev pub break_comma : ℕ → Act
break_comma i = lexeme comma ⨾ gap (λ f. line_feed) ⨾ update (λ f. set_prev (some Comma) (line_begun (i + 1) f))

unfoldable pub comma_arm : Options → ℕ → Token → Act
comma_arm o i t = if (λ f. at_record_fields f || in_broken_list f) (break_comma i) (push_lexeme o t)

-- ---- Else, 574

abbrev pub else_on_new_line : Formatter → Bool
else_on_new_line f = f.inline_depth == 0 && (not f.in_record && (not f.inline_close && prev_is RightBrace f))

abbrev pub break_else : Options → Act
break_else o = gap (λ f. line_feed ++ indent_str o f) ⨾ lexeme else_word ⨾ update (ended_by Else)

unfoldable pub else_arm : Options → Token → Act
else_arm o t = if else_on_new_line (break_else o) (push_lexeme o t)

-- ---- all others, 589

-- `record` arms the record layout, a name leaves it armed, anything else disarms it
abbrev pub track_record : ℕ → Formatter → Formatter
track_record k f = set_record_pending (k == Record || (k == Identifier && f.record_pending)) f

abbrev pub other_arm : Options → Token → Act
other_arm o t = update (track_record t.kind) ⨾ push_lexeme o t
