-- Gaps, trivia and token text: what the arms of `push_token` call, in the order of format.rs. A number in a heading is a line of format.rs.
-- Assumes nothing.
use Rattle.std.specs.Prelude.{ℕ, ◌+◌, ◌-◌, ◌*◌, Bool, true, false, cond, not, ◌&&◌, List, [], ◌∷◌, ◌++◌, replicate, ◌==◌}
use Rattle.std.proofs.Math.Option.{Option, none, some}
use Rattle.shared.specs.Bytes.{byte, line_feed, space, left_brace, slashes, doc_slashes, slash_star, star_slash}
use Rattle.rows.specs.Kinds.{Newline, Minus, Fn, Identifier}
use Rattle.rows.specs.Options.{BraceStyle, SameLine, Allman, Options}
use Rattle.rows.specs.Token.{Trivia, line_comment, doc_comment, block_comment, blank_line, Token}
use Rattle.spaces.specs.Space.{is_value_token, space_after}
use Rattle.definition.specs.Formatter.{Formatter, set_indent, set_at_line_start, set_prev, set_prev_minus_is_unary, set_fn_state, set_suppress_newline_at}
use Rattle.definition.specs.Act.{Act, update, gap, lexeme, comment, ◌⨾◌, nothing, if}

abbrev pub is_some : Option ℕ → Bool
is_some none = false
is_some (some j) = true

abbrev pub is_at : Option ℕ → ℕ → Bool
is_at none k = false
is_at (some j) k = j == k

abbrev pub prev_is : ℕ → Formatter → Bool
prev_is k f = is_at f.prev k

-- ---- gaps

-- `indent_str`, 124
abbrev pub indent_str : Options → Formatter → List ℕ
indent_str o f = replicate (o.indent_width * f.indent) (byte " ")

-- `push_trivia_gap`, 144, and the gap before a one-line block's `{`: the indent at a line's start, else a space
abbrev pub indent_or_space : Options → Formatter → List ℕ
indent_or_space o f = cond f.at_line_start (indent_str o f) space

-- the indent, on a line of its own
abbrev pub on_new_line : Options → Formatter → List ℕ
on_new_line o f = cond f.at_line_start [] line_feed ++ indent_str o f

-- ---- updates that several arms share

-- a token of the kind k ends the text so far
abbrev pub ended_by : ℕ → Formatter → Formatter
ended_by k f = set_prev (some k) (set_at_line_start false f)

-- a line has begun by itself: a Newline at index i would double it
abbrev pub line_begun : ℕ → Formatter → Formatter
line_begun i f = set_suppress_newline_at (some i) (set_at_line_start true f)

abbrev pub indented : Formatter → Formatter
indented f = set_indent (f.indent + 1) f

abbrev pub dedented : Formatter → Formatter
dedented f = set_indent (f.indent - 1) f

-- ---- `track_fn_state`, 265

abbrev pub fn_state_after : ℕ → Formatter → ℕ
fn_state_after k f = cond (k == Fn) 1 (cond (k == Identifier && f.fn_state == 1) 2 (cond (k == Newline) f.fn_state 0))

abbrev pub track_fn_state : ℕ → Formatter → Formatter
track_fn_state k f = set_fn_state (cond (is_some f.sig_break_depth) f.fn_state (fn_state_after k f)) f

-- ---- trivia of `push_token`: leading, 285, and trailing, 608

abbrev pub lead_act : Options → Trivia → Act
lead_act o (line_comment c) = comment (λ f. indent_or_space o f ++ (slashes ++ space ++ c ++ line_feed))
lead_act o (doc_comment c) = comment (λ f. indent_or_space o f ++ (doc_slashes ++ space ++ c ++ line_feed))
lead_act o (block_comment c) = comment (λ f. indent_or_space o f ++ (slash_star ++ space ++ c ++ (space ++ star_slash ++ line_feed)))
lead_act o blank_line = comment (λ f. cond f.in_record [] line_feed) ⨾ update (set_at_line_start true)

unfoldable pub leading_trivia : Options → List Trivia → Act
leading_trivia o [] = nothing
leading_trivia o (t ∷ ts) = lead_act o t ⨾ leading_trivia o ts

abbrev pub trail_act : Trivia → Act
trail_act (line_comment c) = comment (λ f. slashes ++ space ++ c)
trail_act (doc_comment c) = comment (λ f. doc_slashes ++ space ++ c)
trail_act (block_comment c) = comment (λ f. slash_star ++ c ++ star_slash)
trail_act blank_line = nothing

unfoldable pub trailing_trivia : List Trivia → Act
trailing_trivia [] = nothing
trailing_trivia (t ∷ ts) = trail_act t ⨾ trailing_trivia ts

-- ---- `open_block_multiline`, 632

abbrev pub open_same_line : Act
open_same_line = gap (λ f. space) ⨾ lexeme left_brace ⨾ update (λ f. set_at_line_start false (indented f))

abbrev pub open_allman : Options → ℕ → Act
open_allman o i = gap (on_new_line o) ⨾ lexeme left_brace ⨾ gap (λ f. line_feed) ⨾ update (λ f. line_begun (i + 1) (indented f))

abbrev pub is_allman : BraceStyle → Bool
is_allman SameLine = false
is_allman Allman = true

unfoldable pub open_block_multiline : Options → ℕ → Act
open_block_multiline o i = if (λ f. is_allman o.brace_style) (open_allman o i) open_same_line

-- ---- `push_lexeme`, 654, and `emit_token_text`, 664

abbrev pub token_gap : Options → ℕ → Formatter → List ℕ
token_gap o k f = cond f.at_line_start (indent_str o f) (cond (space_after f.prev f.prev_minus_is_unary k) space [])

-- the unary `-` state of `push_lexeme`
abbrev pub track_minus : ℕ → Formatter → Formatter
track_minus k f = set_prev_minus_is_unary (cond (k == Minus) (not (is_value_token f.prev)) f.prev_minus_is_unary) f

abbrev pub push_lexeme : Options → Token → Act
push_lexeme o t = gap (token_gap o t.kind) ⨾ lexeme t.lexeme ⨾ update (λ f. ended_by t.kind (track_minus t.kind f))

abbrev pub emit_token_text : Options → Token → Act
emit_token_text o t = gap (token_gap o t.kind) ⨾ lexeme t.lexeme ⨾ update (ended_by t.kind)
