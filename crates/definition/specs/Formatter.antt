-- The fields of `Formatter` (format.rs, 61), but for the options and the output; four more at the end hold what `push_token` has in a local or a result.
-- Assumes nothing.
use Rattle.std.specs.Prelude.{ℕ, Bool, true, false, List, []}
use Rattle.std.proofs.Math.Option.{Option, none}

pub record Formatter : Type 0 where
  -- the indent level
  pub indent : ℕ
  -- at_line_start
  pub at_line_start : Bool
  -- the last token's kind
  pub prev : Option ℕ
  -- the last `-` was unary
  pub prev_minus_is_unary : Bool
  -- depth inside `{...}` blocks kept on one line
  pub inline_depth : ℕ
  -- 0 none, 1 saw `fn`, 2 saw `fn` and a name
  pub fn_state : ℕ
  -- paren depth in a broken signature
  pub sig_break_depth : Option ℕ
  -- saw `record`, and no `{` since
  pub record_pending : Bool
  -- inside a record
  pub in_record : Bool
  -- brace depth inside it
  pub record_depth : ℕ
  -- the last `}` closed a one-line block
  pub just_closed_inline : Bool
  -- the index of a Newline to swallow
  pub suppress_newline_at : Option ℕ
  -- depth of round and square brackets
  pub group_depth : ℕ
  -- group depths of the broken lists, innermost first
  pub break_stack : List ℕ
  -- `inline_close` of `push_token`: `just_closed_inline` as this token took it
  pub inline_close : Bool
  -- the arm returned early: no trailing trivia are written
  pub returned : Bool
  -- the next token was taken along: `push_token` returned idx + 2
  pub skip_next : Bool
  -- refusal 4: the index of the token that would push a 65th entry
  pub too_deep : Option ℕ

-- `Formatter::new`, 95
abbrev pub new : Formatter
new = record { indent = 0; at_line_start = true; prev = none; prev_minus_is_unary = false; inline_depth = 0; fn_state = 0; sig_break_depth = none; record_pending = false; in_record = false; record_depth = 0; just_closed_inline = false; suppress_newline_at = none; group_depth = 0; break_stack = []; inline_close = false; returned = false; skip_next = false; too_deep = none }

-- ---- a setter for each field

abbrev pub set_indent : ℕ → Formatter → Formatter
set_indent v f = record { indent = v; at_line_start = f.at_line_start; prev = f.prev; prev_minus_is_unary = f.prev_minus_is_unary; inline_depth = f.inline_depth; fn_state = f.fn_state; sig_break_depth = f.sig_break_depth; record_pending = f.record_pending; in_record = f.in_record; record_depth = f.record_depth; just_closed_inline = f.just_closed_inline; suppress_newline_at = f.suppress_newline_at; group_depth = f.group_depth; break_stack = f.break_stack; inline_close = f.inline_close; returned = f.returned; skip_next = f.skip_next; too_deep = f.too_deep }

abbrev pub set_at_line_start : Bool → Formatter → Formatter
set_at_line_start v f = record { indent = f.indent; at_line_start = v; prev = f.prev; prev_minus_is_unary = f.prev_minus_is_unary; inline_depth = f.inline_depth; fn_state = f.fn_state; sig_break_depth = f.sig_break_depth; record_pending = f.record_pending; in_record = f.in_record; record_depth = f.record_depth; just_closed_inline = f.just_closed_inline; suppress_newline_at = f.suppress_newline_at; group_depth = f.group_depth; break_stack = f.break_stack; inline_close = f.inline_close; returned = f.returned; skip_next = f.skip_next; too_deep = f.too_deep }

abbrev pub set_prev : Option ℕ → Formatter → Formatter
set_prev v f = record { indent = f.indent; at_line_start = f.at_line_start; prev = v; prev_minus_is_unary = f.prev_minus_is_unary; inline_depth = f.inline_depth; fn_state = f.fn_state; sig_break_depth = f.sig_break_depth; record_pending = f.record_pending; in_record = f.in_record; record_depth = f.record_depth; just_closed_inline = f.just_closed_inline; suppress_newline_at = f.suppress_newline_at; group_depth = f.group_depth; break_stack = f.break_stack; inline_close = f.inline_close; returned = f.returned; skip_next = f.skip_next; too_deep = f.too_deep }

abbrev pub set_prev_minus_is_unary : Bool → Formatter → Formatter
set_prev_minus_is_unary v f = record { indent = f.indent; at_line_start = f.at_line_start; prev = f.prev; prev_minus_is_unary = v; inline_depth = f.inline_depth; fn_state = f.fn_state; sig_break_depth = f.sig_break_depth; record_pending = f.record_pending; in_record = f.in_record; record_depth = f.record_depth; just_closed_inline = f.just_closed_inline; suppress_newline_at = f.suppress_newline_at; group_depth = f.group_depth; break_stack = f.break_stack; inline_close = f.inline_close; returned = f.returned; skip_next = f.skip_next; too_deep = f.too_deep }

abbrev pub set_inline_depth : ℕ → Formatter → Formatter
set_inline_depth v f = record { indent = f.indent; at_line_start = f.at_line_start; prev = f.prev; prev_minus_is_unary = f.prev_minus_is_unary; inline_depth = v; fn_state = f.fn_state; sig_break_depth = f.sig_break_depth; record_pending = f.record_pending; in_record = f.in_record; record_depth = f.record_depth; just_closed_inline = f.just_closed_inline; suppress_newline_at = f.suppress_newline_at; group_depth = f.group_depth; break_stack = f.break_stack; inline_close = f.inline_close; returned = f.returned; skip_next = f.skip_next; too_deep = f.too_deep }

abbrev pub set_fn_state : ℕ → Formatter → Formatter
set_fn_state v f = record { indent = f.indent; at_line_start = f.at_line_start; prev = f.prev; prev_minus_is_unary = f.prev_minus_is_unary; inline_depth = f.inline_depth; fn_state = v; sig_break_depth = f.sig_break_depth; record_pending = f.record_pending; in_record = f.in_record; record_depth = f.record_depth; just_closed_inline = f.just_closed_inline; suppress_newline_at = f.suppress_newline_at; group_depth = f.group_depth; break_stack = f.break_stack; inline_close = f.inline_close; returned = f.returned; skip_next = f.skip_next; too_deep = f.too_deep }

abbrev pub set_sig_break_depth : Option ℕ → Formatter → Formatter
set_sig_break_depth v f = record { indent = f.indent; at_line_start = f.at_line_start; prev = f.prev; prev_minus_is_unary = f.prev_minus_is_unary; inline_depth = f.inline_depth; fn_state = f.fn_state; sig_break_depth = v; record_pending = f.record_pending; in_record = f.in_record; record_depth = f.record_depth; just_closed_inline = f.just_closed_inline; suppress_newline_at = f.suppress_newline_at; group_depth = f.group_depth; break_stack = f.break_stack; inline_close = f.inline_close; returned = f.returned; skip_next = f.skip_next; too_deep = f.too_deep }

abbrev pub set_record_pending : Bool → Formatter → Formatter
set_record_pending v f = record { indent = f.indent; at_line_start = f.at_line_start; prev = f.prev; prev_minus_is_unary = f.prev_minus_is_unary; inline_depth = f.inline_depth; fn_state = f.fn_state; sig_break_depth = f.sig_break_depth; record_pending = v; in_record = f.in_record; record_depth = f.record_depth; just_closed_inline = f.just_closed_inline; suppress_newline_at = f.suppress_newline_at; group_depth = f.group_depth; break_stack = f.break_stack; inline_close = f.inline_close; returned = f.returned; skip_next = f.skip_next; too_deep = f.too_deep }

abbrev pub set_in_record : Bool → Formatter → Formatter
set_in_record v f = record { indent = f.indent; at_line_start = f.at_line_start; prev = f.prev; prev_minus_is_unary = f.prev_minus_is_unary; inline_depth = f.inline_depth; fn_state = f.fn_state; sig_break_depth = f.sig_break_depth; record_pending = f.record_pending; in_record = v; record_depth = f.record_depth; just_closed_inline = f.just_closed_inline; suppress_newline_at = f.suppress_newline_at; group_depth = f.group_depth; break_stack = f.break_stack; inline_close = f.inline_close; returned = f.returned; skip_next = f.skip_next; too_deep = f.too_deep }

abbrev pub set_record_depth : ℕ → Formatter → Formatter
set_record_depth v f = record { indent = f.indent; at_line_start = f.at_line_start; prev = f.prev; prev_minus_is_unary = f.prev_minus_is_unary; inline_depth = f.inline_depth; fn_state = f.fn_state; sig_break_depth = f.sig_break_depth; record_pending = f.record_pending; in_record = f.in_record; record_depth = v; just_closed_inline = f.just_closed_inline; suppress_newline_at = f.suppress_newline_at; group_depth = f.group_depth; break_stack = f.break_stack; inline_close = f.inline_close; returned = f.returned; skip_next = f.skip_next; too_deep = f.too_deep }

abbrev pub set_just_closed_inline : Bool → Formatter → Formatter
set_just_closed_inline v f = record { indent = f.indent; at_line_start = f.at_line_start; prev = f.prev; prev_minus_is_unary = f.prev_minus_is_unary; inline_depth = f.inline_depth; fn_state = f.fn_state; sig_break_depth = f.sig_break_depth; record_pending = f.record_pending; in_record = f.in_record; record_depth = f.record_depth; just_closed_inline = v; suppress_newline_at = f.suppress_newline_at; group_depth = f.group_depth; break_stack = f.break_stack; inline_close = f.inline_close; returned = f.returned; skip_next = f.skip_next; too_deep = f.too_deep }

abbrev pub set_suppress_newline_at : Option ℕ → Formatter → Formatter
set_suppress_newline_at v f = record { indent = f.indent; at_line_start = f.at_line_start; prev = f.prev; prev_minus_is_unary = f.prev_minus_is_unary; inline_depth = f.inline_depth; fn_state = f.fn_state; sig_break_depth = f.sig_break_depth; record_pending = f.record_pending; in_record = f.in_record; record_depth = f.record_depth; just_closed_inline = f.just_closed_inline; suppress_newline_at = v; group_depth = f.group_depth; break_stack = f.break_stack; inline_close = f.inline_close; returned = f.returned; skip_next = f.skip_next; too_deep = f.too_deep }

abbrev pub set_group_depth : ℕ → Formatter → Formatter
set_group_depth v f = record { indent = f.indent; at_line_start = f.at_line_start; prev = f.prev; prev_minus_is_unary = f.prev_minus_is_unary; inline_depth = f.inline_depth; fn_state = f.fn_state; sig_break_depth = f.sig_break_depth; record_pending = f.record_pending; in_record = f.in_record; record_depth = f.record_depth; just_closed_inline = f.just_closed_inline; suppress_newline_at = f.suppress_newline_at; group_depth = v; break_stack = f.break_stack; inline_close = f.inline_close; returned = f.returned; skip_next = f.skip_next; too_deep = f.too_deep }

abbrev pub set_break_stack : List ℕ → Formatter → Formatter
set_break_stack v f = record { indent = f.indent; at_line_start = f.at_line_start; prev = f.prev; prev_minus_is_unary = f.prev_minus_is_unary; inline_depth = f.inline_depth; fn_state = f.fn_state; sig_break_depth = f.sig_break_depth; record_pending = f.record_pending; in_record = f.in_record; record_depth = f.record_depth; just_closed_inline = f.just_closed_inline; suppress_newline_at = f.suppress_newline_at; group_depth = f.group_depth; break_stack = v; inline_close = f.inline_close; returned = f.returned; skip_next = f.skip_next; too_deep = f.too_deep }

abbrev pub set_inline_close : Bool → Formatter → Formatter
set_inline_close v f = record { indent = f.indent; at_line_start = f.at_line_start; prev = f.prev; prev_minus_is_unary = f.prev_minus_is_unary; inline_depth = f.inline_depth; fn_state = f.fn_state; sig_break_depth = f.sig_break_depth; record_pending = f.record_pending; in_record = f.in_record; record_depth = f.record_depth; just_closed_inline = f.just_closed_inline; suppress_newline_at = f.suppress_newline_at; group_depth = f.group_depth; break_stack = f.break_stack; inline_close = v; returned = f.returned; skip_next = f.skip_next; too_deep = f.too_deep }

abbrev pub set_returned : Bool → Formatter → Formatter
set_returned v f = record { indent = f.indent; at_line_start = f.at_line_start; prev = f.prev; prev_minus_is_unary = f.prev_minus_is_unary; inline_depth = f.inline_depth; fn_state = f.fn_state; sig_break_depth = f.sig_break_depth; record_pending = f.record_pending; in_record = f.in_record; record_depth = f.record_depth; just_closed_inline = f.just_closed_inline; suppress_newline_at = f.suppress_newline_at; group_depth = f.group_depth; break_stack = f.break_stack; inline_close = f.inline_close; returned = v; skip_next = f.skip_next; too_deep = f.too_deep }

abbrev pub set_skip_next : Bool → Formatter → Formatter
set_skip_next v f = record { indent = f.indent; at_line_start = f.at_line_start; prev = f.prev; prev_minus_is_unary = f.prev_minus_is_unary; inline_depth = f.inline_depth; fn_state = f.fn_state; sig_break_depth = f.sig_break_depth; record_pending = f.record_pending; in_record = f.in_record; record_depth = f.record_depth; just_closed_inline = f.just_closed_inline; suppress_newline_at = f.suppress_newline_at; group_depth = f.group_depth; break_stack = f.break_stack; inline_close = f.inline_close; returned = f.returned; skip_next = v; too_deep = f.too_deep }

abbrev pub set_too_deep : Option ℕ → Formatter → Formatter
set_too_deep v f = record { indent = f.indent; at_line_start = f.at_line_start; prev = f.prev; prev_minus_is_unary = f.prev_minus_is_unary; inline_depth = f.inline_depth; fn_state = f.fn_state; sig_break_depth = f.sig_break_depth; record_pending = f.record_pending; in_record = f.in_record; record_depth = f.record_depth; just_closed_inline = f.just_closed_inline; suppress_newline_at = f.suppress_newline_at; group_depth = f.group_depth; break_stack = f.break_stack; inline_close = f.inline_close; returned = f.returned; skip_next = f.skip_next; too_deep = v }
