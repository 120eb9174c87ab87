-- Fast braces: the braces of a one-line block, which a tight loop lays out. It is a second form of their arms, and is proved
-- equal: the definition's walk goes on after them as it would have from their start.
-- Assumes nothing.
use Rattle.std.specs.Prelude.{Bool, true, false, cond, not, ◌&&◌, List, ◌≡◌, ℕ, ◌+◌, ◌-◌, ◌*◌, ◌/◌, ◌≤◌, ltb, length, take, drop}
use Rattle.std.proofs.Math.Option.{none, some}
use Rattle.rows.specs.Kinds.{Other}
use Rattle.rows.specs.Options.{Options}
use Rattle.rows.specs.Row.{row_size}
use Rattle.rows.specs.Token.{tokens_of}
use Rattle.definition.specs.Formatter.{Formatter, set_prev, set_inline_depth, set_just_closed_inline, set_inline_close, set_returned}
use Rattle.definition.specs.Act.{state}
use Rattle.definition.specs.Layout.{finished, lay_from}
use Rattle.formatter.specs.declared.Formatter as code
use Rattle.formatter.specs.CodeState.{CodeState, fn_number}
use Rattle.formatter.specs.Token.{kind_of}
use Rattle.formatter.specs.FastTokens.{ChangedBy}

-- ---- before fast braces

-- The state is outside records and in a line, no `record` or `fn` is looked back to, and there is no trivia.
pub record MayStartFastBraces (f : code.Formatter) : Type 0 where
  pub bare : f.bare ≡ true
  pub mid_line : f.at_line_start ≡ false
  pub no_record : f.record_pending ≡ false
  pub outside : f.in_record ≡ false
  pub no_fn : fn_number f.fn_state ≡ 0

-- A place among fast braces: the index of the next row, the length of the text, the last kind, and the state's `inline_depth`
-- and `just_closed_inline`.
pub record FastBraces : Type 0 where
  pub at : ℕ
  pub len : ℕ
  pub prev : ℕ
  pub depth : ℕ
  pub closed : Bool

-- The place at the row at `at`, in the code's state p.
abbrev pub fast_braces_at : CodeState → ℕ → FastBraces
fast_braces_at p at =
    record {
      at = at;
      len = p.sink.len;
      prev = kind_of p.form.prev;
      depth = p.form.inline_depth.0;
      closed = p.form.just_closed_inline;
    }

-- What is asked of the definition's formatter f at the place b.
pub record BeforeFastBraces (f : Formatter) (b : FastBraces) : Type 0 where
  pub mid_line : f.at_line_start ≡ false
  pub prev : f.prev ≡ some b.prev
  pub no_fn : f.fn_state ≡ 0
  pub no_record : f.record_pending ≡ false
  pub outside : f.in_record ≡ false
  pub depth : f.inline_depth ≡ b.depth
  pub closed : f.just_closed_inline ≡ b.closed
  pub no_skip : f.skip_next ≡ false
  pub shallow : f.too_deep ≡ none

-- ---- after fast braces

-- The definition's formatter f with the fields of the place b.
abbrev pub with_fast_braces : FastBraces → Formatter → Formatter
with_fast_braces b f =
    set_prev (some b.prev) (set_inline_depth b.depth (set_just_closed_inline b.closed f))

-- The same with the locals: `taken` says whether there was a brace, and `close` is what the last one took.
abbrev pub after_fast_braces : Bool → Bool → FastBraces → Formatter → Formatter
after_fast_braces taken close b f =
    with_fast_braces b (set_inline_close (cond taken close f.inline_close) (set_returned (not taken && f.returned) f))

-- Fast braces are laid out from the place b and the output l to the place r and the output m. The definition's walk comes to the
-- same.
pub record FastBracesLaidOut (rows : List ℕ) (b : FastBraces) (l m : List ℕ) (r : FastBraces) : Type 0 where
  pub whole : r.at ≡ b.at + row_size * ((r.at - b.at) / row_size)
  pub within : r.at ≤ length rows
  pub last : b.prev ≤ Other → r.prev ≤ Other
  pub size : length m ≡ length l
  pub far : b.len ≤ r.len
  pub room : r.len ≤ length m
  pub rest : drop r.len m ≡ drop r.len l
  pub deep : r.depth ≤ b.depth + (r.at - b.at) / row_size
  pub close : Bool
  pub lays :
      (text : List ℕ) (o : Options) (f : Formatter) (c i : ℕ) → BeforeFastBraces f b
      → lay_from o (length l) (finished (state f (take b.len l) c)) i (tokens_of (drop b.at rows) text)
      ≡ lay_from o (length l)
      (finished (state (after_fast_braces (ltb b.at r.at) close r f) (take r.len m) c))
      (i + (r.at - b.at) / row_size) (tokens_of (drop r.at rows) text)

-- From the row at `from`, the code's state p comes to q at the row at `at`.
pub record LaysFastBraces (p : CodeState) (from at : ℕ) (q : CodeState) : Type 0 where
  pub laid :
      FastBracesLaidOut p.form.rows.now (fast_braces_at p from) p.sink.out.now q.sink.out.now
      (fast_braces_at q at)
  pub changed : ChangedBy (with_fast_braces (fast_braces_at q at)) p q
