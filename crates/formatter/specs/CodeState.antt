-- The state that the code holds, with the sink that it writes to beside it, and the state of the definition that it stands for.
-- Assumes nothing.
use Rattle.std.specs.Prelude.{Bool, false, ℕ, take, None, Some}
use Rattle.std.specs.Prelude
use Rattle.std.proofs.Math.Option.{Option, none, some}
use Rattle.rows.specs.Options
use Rattle.definition.specs.Formatter
use Rattle.definition.specs.Act.{State, state}
use Rattle.formatter.specs.declared.Formatter.{Formatter}
use Rattle.formatter.specs.declared.Options.{Options}
use Rattle.formatter.specs.declared.Ends.{Ends}
use Rattle.row_writers.specs.declared.Source.{Source}
use Rattle.sink.specs.declared.write.Sink.{Sink}
use Rattle.formatter.specs.declared.BraceStyle.{BraceStyle}
use Rattle.formatter.specs.declared.BraceStyle.TheVariants.{SameLine, Allman}
use Rattle.formatter.specs.declared.SignatureDepth.{SignatureDepth}
use Rattle.formatter.specs.declared.FnState.{FnState}

-- ---- the fields that are Options

-- An Option of the code, as the definition has it; f says what number its value stands for.
abbrev pub option_of : {A : Type 0} → (A → ℕ) → Prelude.Option A → Option ℕ
option_of f None = none
option_of f (Some x) = some (f x)

-- The last token's kind, if there was a token.
abbrev pub prev_of : Prelude.Option ℕ → Option ℕ
prev_of p = option_of (λ k. k) p

-- The index of the Newline to swallow, if there is one.
abbrev pub newline_of : Prelude.Option ℕ → Option ℕ
newline_of n = option_of (λ i. i) n

-- The paren depth inside a broken signature, if the walk is in one.
abbrev pub signature_of : Prelude.Option SignatureDepth → Option ℕ
signature_of s = option_of (λ d. d.0) s

-- `fn_state`, as the definition has it.
abbrev pub fn_number : FnState → ℕ
fn_number s = s.0

-- The highest of its three values: `fn` and a name stand before.
abbrev pub most_fn_state : ℕ
most_fn_state = 2

-- ---- the options

-- The brace style, as the definition has it.
abbrev pub style_of : BraceStyle → Options.BraceStyle
style_of SameLine = Options.SameLine
style_of Allman = Options.Allman

-- The code's options, as the definition has them.
abbrev pub options_of : Options → Options.Options
options_of o =
    record {
      brace_style = style_of o.brace_style;
      indent_width = o.indent_width;
      fn_sig_width = o.fn_sig_width;
      list_width = o.list_width;
    }

-- ---- the definition's formatter

-- What `push_token` of format.rs has in a local or a result, and the definition in four more fields; the code's state has
-- none of them.
pub record Locals : Type 0 where
  pub inline_close : Bool
  pub returned : Bool
  pub skip_next : Bool
  pub too_deep : Option ℕ

-- The locals of a state of the definition.
abbrev pub locals_of : Formatter.Formatter → Locals
locals_of f = record { inline_close = f.inline_close; returned = f.returned; skip_next = f.skip_next; too_deep = f.too_deep }

-- The definition's formatter that the code's fields and the locals x stand for.
abbrev pub formatter_of : Formatter → Locals → Formatter.Formatter
formatter_of f x =
    record {
      indent = f.indent;
      at_line_start = f.at_line_start;
      prev = prev_of f.prev;
      prev_minus_is_unary = f.prev_minus_is_unary;
      inline_depth = f.inline_depth.0;
      fn_state = fn_number f.fn_state;
      sig_break_depth = signature_of f.sig_break_depth;
      record_pending = f.record_pending;
      in_record = f.in_record;
      record_depth = f.record_depth.0;
      just_closed_inline = f.just_closed_inline;
      suppress_newline_at = newline_of f.suppress_newline_at;
      group_depth = f.group_depth.0;
      break_stack = f.break_stack;
      inline_close = x.inline_close;
      returned = x.returned;
      skip_next = x.skip_next;
      too_deep = x.too_deep;
    }

-- The same for a test that reads no locals.
abbrev pub fields_of : Formatter → Formatter.Formatter
fields_of f = formatter_of f (record { inline_close = false; returned = false; skip_next = false; too_deep = none })

-- All that a method may change: the formatter and the sink.
pub record CodeState : Type 0 where
  pub form : Formatter
  pub sink : Sink

-- The two put together.
abbrev pub code_state : Formatter → Sink → CodeState
code_state f s = record { form = f; sink = s }

-- The state of the definition that p stands for, with the locals x: the text is the first `len` bytes of the output.
abbrev pub state_of : Locals → CodeState → State
state_of x p = state (formatter_of p.form x) (take p.sink.len p.sink.out.now) p.form.commas

-- ---- what no method changes

-- The options, the rows and the text, what all rows tell, and whether no row is trivia.
pub record Given : Type 0 where
  pub options : Options
  pub source : Source
  pub ends : Ends
  pub bare : Bool

abbrev pub given : Formatter → Given
given f = record { options = f.options; source = record { rows = f.rows; text = f.text }; ends = f.ends; bare = f.bare }
