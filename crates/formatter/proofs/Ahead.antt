-- What the loop goes on with: after a token that was taken along, after fast tokens, and after fast braces. Assumes nothing.
use mathlib.Core.Bool.{true, false}
use mathlib.Core.List.{List, [], ◌∷◌}
use mathlib.Core.Option.{some}
use mathlib.Core.Path.{◌≡◌, refl, sym, ap, subst, ◌∙◌}
use Prim.Native.Nat.{ℕ, zero, suc, ◌+◌, ◌-◌, ◌*◌, ◌/◌, ◌≤◌, ◌<◌}
use native.Mathlib.Omega.{arith}
use lib.Dec.{eqb, leb, ltb}
use lib.ListN.{length, drop}
use lib.Seq.{length-take-le}
use borrow.Author.Tests.{leb-true, leb-false}
use Rattle.shared.proofs.Logic.{split, and_right, impossible'}
use Rattle.rows.specs.Kinds.{TokenRow, Trailing}
use Rattle.rows.specs.Row.{Row, rows_of}
use Rattle.rows.specs.Token.{tokens_of}
use Rattle.rows.proofs.RowList.{rows_drop, rows_length}
use Rattle.definition.specs.Formatter as definition
use Rattle.definition.specs.Act.{State, Act, run, update}
use Rattle.definition.specs.Emit.{is_some}
use Rattle.lookahead.specs.Measure.{next_is}
use Rattle.definition.specs.PushToken.{push_token, turn}
use Rattle.definition.specs.Layout.{finished, lay_from}
use Rattle.definition.proofs.Growth.{depth}
use Rattle.definition.proofs.Last.{Told}
use Rattle.sink.proofs.Sink.{later}
use Rattle.sink.proofs.Appends.{nothing}
use Rattle.std.specs.declared.option.Option.{Option}
use Rattle.std.specs.declared.option.Option.TheVariants.{None, Some}
use Rattle.formatter.specs.CodeState.{Locals, Given, CodeState, state_of, locals_of, prev_of, signature_of, formatter_of, options_of, given}
use Rattle.formatter.specs.Does.{Does}
use Rattle.formatter.specs.Token.{kind_of}
use Rattle.formatter.specs.Format.{CheckedRows, TokenBoundary, only_tokens, own_row, next_row}
use Rattle.formatter.specs.FastTokens.{BeforeFastTokens, FastTokensLaidOut, LaysFastTokens, last_kind, after_fast_tokens, fast_state_of, fast_kinds_of}
use Rattle.formatter.specs.FastBraces.{BeforeFastBraces, LaysFastBraces, after_fast_braces, fast_braces_at}
use Rattle.formatter.proofs.Does.{yes, no, updated}
use Rattle.formatter.proofs.Turned.{taken}
use Rattle.formatter.proofs.Runs.{checked-after}
use Rattle.formatter.proofs.Place.{bare-run, token_here, tokens_next, tokens_next_lem}
use Rattle.formatter.proofs.Pushed.{depth-signature}
use Rattle.formatter.proofs.Going.{Going, last_few, goes_on, tokens_none}
use Rattle.formatter.proofs.Turn.{chosen_not}

-- ---- the token that comes next

module _ {rows text : List ℕ} {at : ℕ} (ω : CheckedRows rows text) (η : TokenBoundary rows text at) (h : at < length rows) where
  -- A token that is said to come next is there.
  pub next_there : (k : ℕ) → next_is k (tokens_next rows text at) ≡ true → next_row rows (own_row rows at) < length rows
  next_there k e =
      split (leb (length rows) (next_row rows (own_row rows at)))
      (λ l. let z : tokens_next rows text at ≡ [] = sym (tokens_next_lem ω η h) ∙ tokens_none rows text (next_row rows (own_row rows at)) (leb-true (length rows) (next_row rows (own_row rows at)) l) in impossible' (rw z at e))
      (λ l. leb-false (length rows) (next_row rows (own_row rows at)) l)

-- ---- the token that was taken along

module _ {z : Given} {l₀ : List ℕ} {x : Locals} {p : CodeState} {i at : ℕ} (ω : CheckedRows z.source.rows.now z.source.text.now) (γ : Going z l₀ i at x p) (h : at < length z.source.rows.now) (k : x.skip_next ≡ true) where
  abbrev rows : List ℕ
  rows = z.source.rows.now

  abbrev act : Act
  act = turn (options_of z.options) i (token_here rows z.source.text.now at) (tokens_next rows z.source.text.now at)

  abbrev without : Locals
  without = locals_of (definition.set_skip_next false (state_of x p).formatter)

  skipped : run act (state_of x p) ≡ run (update (definition.set_skip_next false)) (state_of x p)
  skipped =
      chosen_not (state_of x p) (λ s. is_some s.formatter.too_deep) _ _ (rw γ.shallow)
      ∙ taken (state_of x p) (λ s. s.formatter.skip_next) (update (definition.set_skip_next false)) (push_token (options_of z.options) i (token_here rows z.source.text.now at) (tokens_next rows z.source.text.now at)) k

  pub skips : Going z l₀ (i + 1) (next_row rows (own_row rows at)) without p
  unfolding run
  skips =
      let d : Does act x p p = no (λ n. rw γ.shallow) (yes (λ n. k) (updated refl refl refl nothing)) in
      let e = ap (λ (s : State). locals_of s.formatter) skipped in
      let fits : length (run act (state_of x p)).out ≤ length p.sink.out.now = rw skipped (omega (arith, length-take-le p.sink.len p.sink.out.now γ.room, γ.room)) in
      subst (λ y. Going z l₀ (i + 1) (next_row rows (own_row rows at)) y p) e
      (goes_on ω γ h d fits (ap (λ (y : Locals). y.too_deep) e ∙ γ.shallow))

-- ---- after fast tokens and fast braces

known_prev : (p : Option ℕ) → is_some (prev_of p) ≡ true → prev_of p ≡ some (kind_of p)
known_prev None e = impossible' e
known_prev (Some k) e = refl

only_drop : (n : ℕ) (rs : List Row) → only_tokens rs ≡ true → only_tokens (drop n rs) ≡ true
unfolding only_tokens
only_drop zero rs e = e
only_drop (suc n) [] e = refl
only_drop (suc n) (r ∷ rs) e = only_drop n rs (and_right (eqb r.what TokenRow) (only_tokens rs) e)

module _ (rows : List ℕ) (at : ℕ) (whole : at ≡ 16 * (at / 16)) where
  rows_at : rows_of (drop at rows) ≡ drop (at / 16) (rows_of rows)
  rows_at = ap (λ k. rows_of (drop k rows)) whole ∙ rows_drop (at / 16) rows

  pub only_at : only_tokens (rows_of rows) ≡ true → only_tokens (rows_of (drop at rows)) ≡ true
  only_at e = rw rows_at (only_drop (at / 16) (rows_of rows) e)

  head_at : (text : List ℕ) → CheckedRows rows text → only_tokens (rows_of rows) ≡ true → at ≤ length rows → TokenBoundary rows text at
  head_at text ω e h =
      record {
        within = h;
        whole = whole;
        checked = rw rows_at (checked-after (length text) _ 0 (rows_of rows) ω.good (at / 16) (let l = rows_length rows in omega arith));
        bare = bare-run rows at Trailing refl whole e;
      }

module _ {z : Given} {l₀ : List ℕ} {x : Locals} {f : CodeState} {i at : ℕ} (ω : CheckedRows z.source.rows.now z.source.text.now) (γ : Going z l₀ i at x f) where
  -- In a line there is a token before.
  pub last_known : f.form.at_line_start ≡ false → prev_of f.form.prev ≡ some (last_kind f.form)
  last_known e = known_prev f.form.prev (γ.told.mid_line e)

  -- What was laid out ahead, up to the row at `to`, with the locals y.
  record Past (to : ℕ) (y : Locals) (g : CodeState) : Type 0 where
    whole : to ≡ at + 16 * ((to - at) / 16)
    head : TokenBoundary z.source.rows.now z.source.text.now to
    size : length g.sink.out.now ≡ length f.sink.out.now
    far : f.sink.len ≤ g.sink.len
    room : g.sink.len ≤ length g.sink.out.now
    rest : drop g.sink.len g.sink.out.now ≡ drop g.sink.len f.sink.out.now
    lays :
        lay_from (options_of z.options) (length f.sink.out.now) (finished (state_of x f)) i (tokens_of (drop at z.source.rows.now) z.source.text.now)
        ≡ lay_from (options_of z.options) (length f.sink.out.now) (finished (state_of y g)) (i + (to - at) / 16) (tokens_of (drop to z.source.rows.now) z.source.text.now)
    shallow : y.too_deep ≡ x.too_deep
    told : Told (formatter_of g.form y)
    indent : g.form.indent ≡ f.form.indent
    group : g.form.group_depth.0 ≤ f.form.group_depth.0
    inline : g.form.inline_depth.0 ≤ f.form.inline_depth.0 + (to - at) / 16
    records : g.form.record_depth.0 ≡ f.form.record_depth.0
    signature : signature_of g.form.sig_break_depth ≡ signature_of f.form.sig_break_depth
    commas : g.form.commas ≡ f.form.commas

  goes_past : {to : ℕ} {y : Locals} {g : CodeState} → Past to y g → Going z l₀ (i + (to - at) / 16) to y g
  goes_past {to} {y} {g} π =
      let w = π.whole in
      let v = γ.head.whole in
      let c = γ.counts in
      record {
        head = π.head;
        index = let j = γ.index in omega arith;
        size = π.size ∙ γ.size;
        room = π.room;
        lays = sym (rw γ.size at π.lays) ∙ γ.lays;
        rest = π.rest ∙ later f.sink.len g.sink.len f.sink.out.now l₀ π.far γ.rest;
        shallow = π.shallow ∙ γ.shallow;
        told = π.told;
        counts =
            record {
              indent = let a = c.indent in let e = π.indent in omega arith;
              group = let a = c.group in let e = π.group in omega arith;
              inline = let a = c.inline in let e = π.inline in omega arith;
              records = let a = c.records in let e = π.records in omega arith;
              signature =
                  let a = c.signature in
                  omega (arith, depth-signature f.form.sig_break_depth, depth-signature g.form.sig_break_depth, ap depth π.signature);
              commas = let a = c.commas in let e = π.commas in omega arith;
            };
      }

  -- ---- fast tokens

  module _ (same : given f.form ≡ z) {to : ℕ} {g : CodeState} (ρ : BeforeFastTokens (formatter_of f.form x) (last_kind f.form) (fast_state_of f.form) (fast_kinds_of f.form)) (σ : LaysFastTokens f at to g) where
    abbrev gone : Locals
    gone = locals_of (after_fast_tokens (ltb at to) (last_kind g.form) (fast_state_of g.form) (formatter_of f.form x))

    pub goes_past_fast_tokens : Going z l₀ (i + (to - at) / 16) to gone g
    goes_past_fast_tokens =
        let laid = subst (λ y. FastTokensLaidOut y.source.rows.now y.source.text.now at f.sink.len (last_kind f.form) (fast_state_of f.form) (fast_kinds_of f.form) f.sink.out.now g.sink.out.now (record { at = to; prev = last_kind g.form; len = g.sink.len; state = fast_state_of g.form })) same σ.laid in
        let form : formatter_of g.form gone ≡ after_fast_tokens (ltb at to) (last_kind g.form) (fast_state_of g.form) (formatter_of f.form x) = σ.changed.form gone in
        goes_past (record {
          whole = laid.whole;
          head = laid.head;
          size = laid.size;
          far = laid.far;
          room = laid.room;
          rest = laid.rest;
          lays = rw (form, σ.changed.commas) (laid.lays (options_of z.options) (formatter_of f.form x) f.form.commas i ρ);
          shallow = refl;
          told = rw form (record { last = laid.last; mid_line = λ e. refl });
          indent = ap (λ y. y.indent) form;
          group = laid.group;
          inline = let e : g.form.inline_depth.0 ≡ f.form.inline_depth.0 = ap (λ y. y.inline_depth) form in omega arith;
          records = ap (λ y. y.record_depth) form;
          signature = ap (λ y. y.sig_break_depth) form;
          commas = σ.changed.commas;
        })

  -- ---- fast braces

  module _ (only : only_tokens (rows_of z.source.rows.now) ≡ true) (same : given f.form ≡ z) {to : ℕ} {g : CodeState} (ρ : BeforeFastBraces (formatter_of f.form x) (fast_braces_at f at)) (σ : LaysFastBraces f at to g) where
    abbrev gone_braces : Locals
    gone_braces = locals_of (after_fast_braces (ltb at to) σ.laid.close (fast_braces_at g to) (formatter_of f.form x))

    pub goes_past_fast_braces : Going z l₀ (i + (to - at) / 16) to gone_braces g
    goes_past_fast_braces =
        let form : formatter_of g.form gone_braces ≡ after_fast_braces (ltb at to) σ.laid.close (fast_braces_at g to) (formatter_of f.form x) = σ.changed.form gone_braces in
        let rows : f.form.rows.now ≡ z.source.rows.now = ap (λ y. y.source.rows.now) same in
        let w = σ.laid.whole in
        let v = γ.head.whole in
        goes_past (record {
          whole = w;
          head = head_at z.source.rows.now to (omega arith) z.source.text.now ω only (rw rows at σ.laid.within);
          size = σ.laid.size;
          far = σ.laid.far;
          room = σ.laid.room;
          rest = σ.laid.rest;
          lays = rw (form, σ.changed.commas) (rw rows at (σ.laid.lays z.source.text.now (options_of z.options) (formatter_of f.form x) f.form.commas i ρ));
          shallow = refl;
          told = rw form (record { last = σ.laid.last (last_few γ); mid_line = λ e. refl });
          indent = ap (λ y. y.indent) form;
          group = let e : g.form.group_depth.0 ≡ f.form.group_depth.0 = ap (λ y. y.group_depth) form in omega arith;
          inline = σ.laid.deep;
          records = ap (λ y. y.record_depth) form;
          signature = ap (λ y. y.sig_break_depth) form;
          commas = σ.changed.commas;
        })
