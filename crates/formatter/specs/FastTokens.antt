-- Fast tokens: those that only write their lexeme, and a space before it, and that a tight loop lays out. It is a second form of
-- their arms, and is proved equal: the definition's walk goes on after them as it would have from their start.
-- Assumes nothing.
use Rattle.std.specs.Prelude.{Bool, true, false, cond, not, ◌&&◌, ◌||◌, List, [], ◌≡◌, ℕ, ◌+◌, ◌-◌, ◌*◌, ◌/◌, ◌≤◌, ◌<◌, eqb, leb, ltb, length, take, drop}
use Rattle.std.proofs.Math.Option.{none, some}
use Rattle.rows.specs.Kinds.{Leading, Trailing, RightBrace, RightParen, RightBracket, Comma, Hash, Minus}
use Rattle.rows.specs.Kinds.{Else, Fn, Record, Identifier, Other}
use Rattle.rows.specs.Row.{row_size, row_at, rows_of}
use Rattle.rows.specs.Options.{Options}
use Rattle.rows.specs.Token.{tokens_of}
use Rattle.spaces.specs.Space.{is_value_kind}
use Rattle.definition.specs.Formatter.{Formatter, set_prev, set_prev_minus_is_unary, set_fn_state, set_record_pending}
use Rattle.definition.specs.Formatter.{set_group_depth, set_inline_close, set_returned}
use Rattle.definition.specs.Act.{state}
use Rattle.definition.specs.Emit.{is_some, is_at}
use Rattle.definition.specs.Arms.{at_record_fields, in_broken_list}
use Rattle.definition.specs.Layout.{finished, lay_from}
use Rattle.spaces.specs.Between.{bit}
use Rattle.formatter.specs.declared.Formatter as code
use Rattle.formatter.specs.CodeState.{Locals, CodeState, fn_number, prev_of, signature_of, fields_of, formatter_of, given}
use Rattle.formatter.specs.Does.{Same}
use Rattle.formatter.specs.Token.{kind_of}
use Rattle.formatter.specs.Format.{TokenBoundary, run_rows}

-- ---- the kinds

-- Which of the kinds that are fast in some states only are so now.
pub record FastKinds : Type 0 where
  pub commas : Bool
  pub elses : Bool
  pub fns : Bool
  pub closers : Bool

-- A Comma is fast where it does not break its line, `else` where no `}` stands before it, `fn` outside broken signatures, and
-- `)` and `]` where no signature and no list is broken.
abbrev pub fast_kinds_of : code.Formatter → FastKinds
fast_kinds_of f =
    record {
      commas = not (at_record_fields (fields_of f) || in_broken_list (fields_of f));
      elses = not (is_at (prev_of f.prev) RightBrace);
      fns = not (is_some (signature_of f.sig_break_depth));
      closers = not (is_some (signature_of f.sig_break_depth)) && eqb (length f.break_stack) 0;
    }

-- RightParen and RightBracket.
abbrev pub is_closer : ℕ → Bool
is_closer k = eqb k RightParen || eqb k RightBracket

-- The kinds that are fast, as the bits of a number: those five by the state, and of the others all above Comma
-- (`is_fast_kind` of proofs/FastTokenTurn.antt).
abbrev pub fast_kind_bits : FastKinds → ℕ
fast_kind_bits t =
    0x7_ffe7_fe00 + cond t.commas 0x100 0 + cond t.elses 0x8_0000 0 + cond t.fns 0x10_0000 0
    + cond t.closers 0xa0 0

-- How many spaces stand before a fast token of the kind k, where `spaced` many may: the kinds before Hash take none.
abbrev pub space_before : ℕ → ℕ → ℕ
space_before spaced k = cond (ltb k Hash) 0 spaced

-- ---- the fields that fast tokens change

-- But for the last kind.
pub record FastState : Type 0 where
  pub fn_state : ℕ
  pub record_pending : Bool
  pub prev_minus_is_unary : Bool
  pub group_depth : ℕ

-- `fn_state` after a token of the kind k, where it was n.
abbrev pub fn_after : ℕ → ℕ → ℕ
fn_after k n = cond (eqb k Fn) 1 (cond (eqb k Identifier && eqb n 1) 2 0)

-- `record_pending` after a token of the kind k, where it was b.
abbrev pub pending_after : ℕ → Bool → Bool
pending_after k b = cond (leb k Comma || eqb k Else) b (eqb k Record || (eqb k Identifier && b))

-- `prev_minus_is_unary` after a token of the kind k, where it was b and the kind before is p.
abbrev pub unary_after : ℕ → ℕ → Bool → Bool
unary_after p k b = cond (eqb k Minus) (not (is_value_kind p)) b

-- `group_depth` after a token of the kind k, where it was n.
abbrev pub group_after : ℕ → ℕ → ℕ
group_after k n = cond (is_closer k) (n - 1) n

-- The kinds that change one of these fields, as the bits of a number: all, where `fn` or `record` is still looked back to.
abbrev pub changing_kinds : ℕ → Bool → ℕ
changing_kinds fn pending = cond (pending || not (eqb fn 0)) 0x7_ffff_ffff 0x34_00a0

-- These fields of the code's state f.
abbrev pub fast_state_of : code.Formatter → FastState
fast_state_of f =
    record {
      fn_state = fn_number f.fn_state;
      record_pending = f.record_pending;
      prev_minus_is_unary = f.prev_minus_is_unary;
      group_depth = f.group_depth.0;
    }

-- The fields after a token of the kind k, where the kind before is p and they were those of m.
abbrev pub fast_state_after : ℕ → ℕ → FastState → FastState
fast_state_after p k m =
    record {
      fn_state = fn_after k m.fn_state;
      record_pending = pending_after k m.record_pending;
      prev_minus_is_unary = unary_after p k m.prev_minus_is_unary;
      group_depth = group_after k m.group_depth;
    }

-- The definition's formatter f with the fields of m, and with the last kind k besides.
abbrev pub with_fields : FastState → Formatter → Formatter
with_fields m f =
    set_fn_state m.fn_state
    (set_record_pending m.record_pending
    (set_prev_minus_is_unary m.prev_minus_is_unary (set_group_depth m.group_depth f)))

abbrev pub with_fast_state : ℕ → FastState → Formatter → Formatter
with_fast_state k m f = set_prev (some k) (with_fields m f)

-- ---- before fast tokens

-- The row at an index is a token's without trivia.
pub record BareRow (rows : List ℕ) (at : ℕ) : Type 0 where
  pub leads : run_rows Leading (rows_of (drop at rows)) ≡ 0
  pub trails : run_rows Trailing (rows_of (drop (at + row_size) rows)) ≡ 0

-- A whole row of a known kind stands at the index, unless the rows end there.
abbrev pub RowAhead : List ℕ → ℕ → Type 0
RowAhead rows at =
    at < length rows
    → (at + row_size ≤ length rows) × ((at ≡ row_size * (at / row_size)) × ((row_at rows at).kind ≤ Other))

-- The row at the index `at` is a fast token's, of the kinds `fast`, which fits into `room` bytes with its spaces.
pub record IsFastToken (rows : List ℕ) (fast at room spaced : ℕ) : Type 0 where
  pub ahead : at < length rows
  pub kind : bit fast (row_at rows at).kind ≡ 0 → ⊥
  pub alone : BareRow rows at
  pub byte : (row_at rows at).start < (row_at rows at).end
  pub fits : space_before spaced (row_at rows at).kind + ((row_at rows at).end - (row_at rows at).start) ≤ room

-- The state is in a line, not right after the `}` of a one-line block, and in a broken signature no `fn` is looked back to.
pub record MayStartFastTokens (f : code.Formatter) : Type 0 where
  pub mid_line : f.at_line_start ≡ false
  pub not_closed : f.just_closed_inline ≡ false
  pub no_fn : is_some (signature_of f.sig_break_depth) ≡ true → fn_number f.fn_state ≡ 0

-- The same of the definition's formatter f, whose last kind is p and whose fields are those of m, for the fast kinds t.
pub record BeforeFastTokens (f : Formatter) (p : ℕ) (m : FastState) (t : FastKinds) : Type 0 where
  pub mid_line : f.at_line_start ≡ false
  pub not_closed : f.just_closed_inline ≡ false
  pub no_skip : f.skip_next ≡ false
  pub shallow : f.too_deep ≡ none
  pub with_state : with_fast_state p m f ≡ f
  pub no_fn : is_some f.sig_break_depth ≡ true → (t.fns ≡ false) × (m.fn_state ≡ 0)
  pub unbroken : t.commas ≡ true → at_record_fields f || in_broken_list f ≡ false
  pub no_brace : t.elses ≡ true → eqb p RightBrace ≡ false
  pub whole : t.closers ≡ true → (f.sig_break_depth ≡ none) × (f.break_stack ≡ [])

-- ---- after fast tokens

-- The definition's formatter after them: the last kind, the fields, and, if there was such a token, its locals.
abbrev pub after_fast_tokens : Bool → ℕ → FastState → Formatter → Formatter
after_fast_tokens taken k m f =
    with_fast_state k m (set_inline_close (not taken && f.inline_close) (set_returned (not taken && f.returned) f))

-- q is p with this change of the definition's formatter, but for the text.
pub record ChangedBy (change : Formatter → Formatter) (p q : CodeState) : Type 0 where
  pub form : (x : Locals) → formatter_of q.form x ≡ change (formatter_of p.form x)
  pub same : Same p q
  pub commas : q.form.commas ≡ p.form.commas

-- The code's fields after a fast token of the kind k, where the kind before is p: g has those, and else is f.
pub record TracksFastToken (p k : ℕ) (f g : code.Formatter) : Type 0 where
  pub state : fast_state_of g ≡ fast_state_after p k (fast_state_of f)
  pub form : (x : Locals) → formatter_of g x ≡ with_fields (fast_state_of g) (formatter_of f x)
  pub given : given g ≡ given f
  pub commas : g.commas ≡ f.commas

-- A place among fast tokens: the index of the next row, the last kind, the length of the text, and the fields.
pub record FastTokens : Type 0 where
  pub at : ℕ
  pub prev : ℕ
  pub len : ℕ
  pub state : FastState

-- Fast tokens are laid out from the row at `from`: r tells where they end, and k is the output l with their text. Before them the
-- text's length is n, the last kind `prev`, and the fields are those of m. The definition's walk comes to the same.
pub record FastTokensLaidOut
    (rows text : List ℕ) (from n prev : ℕ) (m : FastState) (t : FastKinds) (l k : List ℕ) (r : FastTokens) : Type 0 where
  pub whole : r.at ≡ from + row_size * ((r.at - from) / row_size)
  pub head : TokenBoundary rows text r.at
  pub last : r.prev ≤ Other
  pub group : r.state.group_depth ≤ m.group_depth
  pub size : length k ≡ length l
  pub far : n ≤ r.len
  pub room : r.len ≤ length k
  pub rest : drop r.len k ≡ drop r.len l
  pub lays :
      (o : Options) (f : Formatter) (c i : ℕ) → BeforeFastTokens f prev m t
      → lay_from o (length l) (finished (state f (take n l) c)) i (tokens_of (drop from rows) text)
      ≡ lay_from o (length l)
      (finished (state (after_fast_tokens (ltb from r.at) r.prev r.state f) (take r.len k) c))
      (i + (r.at - from) / row_size) (tokens_of (drop r.at rows) text)

-- The last kind, as a number; 0 where there was no token.
abbrev pub last_kind : code.Formatter → ℕ
last_kind f = kind_of f.prev

-- From the row at `from`, the code's state p comes to q at the row at `at`.
pub record LaysFastTokens (p : CodeState) (from at : ℕ) (q : CodeState) : Type 0 where
  pub laid :
      FastTokensLaidOut p.form.rows.now p.form.text.now from p.sink.len (last_kind p.form) (fast_state_of p.form)
      (fast_kinds_of p.form) p.sink.out.now q.sink.out.now
      (record { at = at; prev = last_kind q.form; len = q.sink.len; state = fast_state_of q.form })
  pub changed : ChangedBy (with_fast_state (last_kind q.form) (fast_state_of q.form)) p q
