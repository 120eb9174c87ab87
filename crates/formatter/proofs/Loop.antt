-- The loop's invariant, and what the calls of one turn do to it. Assumes nothing.
use mathlib.Core.Bool.{true, false, ◌&&◌}
use mathlib.Core.List.{List}
use mathlib.Core.Option.{none, some}
use mathlib.Core.Path.{◌≡◌, refl, sym, ap, subst, ◌∙◌}
use Prim.Native.Nat.{ℕ, ◌+◌, ◌-◌, ◌/◌, ◌≤◌, ◌<◌}
use native.Mathlib.Omega.{arith}
use lib.Dec.{eqb, ltb}
use lib.ListN.{length, drop}
use Rattle.std.specs.Prelude.{Result, Ok, Err}
use Rattle.std.specs.Result.{IsErrAnd}
use Rattle.shared.specs.Numbers.{most32}
use Rattle.shared.proofs.Logic.{split}
use Rattle.rows.specs.Kinds.{LeftBrace, RightBrace}
use Rattle.rows.specs.Options
use Rattle.rows.specs.Checks.{most_rows, most_row_bytes}
use Rattle.rows.specs.Row.{row_size, rows_of}
use Rattle.rows.specs.Token.{Token}
use Rattle.definition.specs.Formatter as definition
use Rattle.definition.specs.Act.{State, run}
use Rattle.definition.specs.Emit.{is_at}
use Rattle.definition.specs.PushToken.{overflows, turn}
use Rattle.definition.specs.Layout.{checked}
use Rattle.formatter.specs.declared.TokenAt.{TokenAt}
use Rattle.formatter.specs.declared.Finished.{Finished}
use Rattle.formatter.specs.declared.WalkError.{WalkError}
use Rattle.formatter.specs.declared.token.Place.{Place}
use Rattle.formatter.specs.CodeState.{Locals, Given, CodeState, state_of, locals_of, formatter_of, options_of, given}
use Rattle.formatter.specs.Does.{Does, Same}
use Rattle.formatter.specs.Token.{StandsFor}
use Rattle.formatter.specs.Parts.{took_next}
use Rattle.formatter.specs.FastTokens.{MayStartFastTokens, LaysFastTokens, last_kind, after_fast_tokens, fast_state_of}
use Rattle.formatter.specs.FastBraces.{MayStartFastBraces, LaysFastBraces, after_fast_braces, fast_braces_at}
use Rattle.formatter.specs.Format.{TokenBoundary, Fresh, CheckedRows, Ending, TokenRows, NextToken, NextPlace, TokenPushed, LaidOut, pushed_of, only_tokens, NoTriviaIf, RowsLeft, own_row, next_row}
use Rattle.formatter.proofs.Does.{then}
use Rattle.formatter.proofs.Turned.{led, turn-deep, turn_skip, turn-taken}
use Rattle.formatter.proofs.Place.{token_here, tokens_next, head-next, stands, next_token}
use Rattle.formatter.proofs.Going.{Going, starts, few_tokens, stops, fit, goes_on, laid_fits, laid_shallow, laid_stopped}
use Rattle.formatter.proofs.Ahead.{next_there, skips, only_at, last_known, goes_past_fast_tokens, goes_past_fast_braces}
use Rattle.formatter.proofs.FastTokens.{before_fast_tokens}
use Rattle.formatter.proofs.FastBraces.{before_fast_braces}

-- ---- the invariant

-- What holds at the loop's head, of the state p that the state f came to: the walk goes on as the definition's (`Going`), with
-- some locals, and no token is being skipped.
pub record Loop (f : CodeState) (i at : ℕ) (p : CodeState) : Type 0 where
  pub locals : Locals
  pub same : Same f p
  pub going : Going (given f.form) f.sink.out.now i at locals p
  pub no_skip : locals.skip_next ≡ false

pub begins : {f : CodeState} → CheckedRows f.form.rows.now f.form.text.now → Fresh f.form f.sink → Loop f 0 0 f
begins ω φ = record { locals = locals_of definition.new; same = record { given = refl; lent = refl }; going = starts ω φ; no_skip = refl }

-- ---- what the rows are, in the state p

module _ {f : CodeState} {i at : ℕ} {p : CodeState} (ι : Loop f i at p) where
  -- What holds of what f was given holds of what p has.
  pub carried : (P : Given → Type 0) → P (given f.form) → P (given p.form)
  carried P π = subst P (sym ι.same.given) π

  pub rows_same : p.form.rows.now ≡ f.form.rows.now
  rows_same = ap (λ (z : Given). z.source.rows.now) ι.same.given

  pub next_token_there : CheckedRows f.form.rows.now f.form.text.now → NoTriviaIf f.form.bare f.form.rows.now → at < length p.form.rows.now → NextToken p.form.rows.now at p.form.bare
  next_token_there ω only h = carried (λ z. NextToken z.source.rows.now at z.bare) (next_token ω ι.going.head (rw rows_same at h) only)

-- ---- one turn

module _ {f : CodeState} {i at : ℕ} {p : CodeState} (width : f.form.options.indent_width ≤ 16) (ω : CheckedRows f.form.rows.now f.form.text.now) (ε : Ending f.form.rows.now f.form.ends) (ι : Loop f i at p) (inside : at < length p.form.rows.now) {token : TokenAt} (its : TokenRows p.form.rows.now at i token) where
  abbrev rows : List ℕ
  rows = f.form.rows.now

  abbrev text : List ℕ
  text = f.form.text.now

  abbrev o : Options.Options
  o = options_of f.form.options

  abbrev x : Locals
  x = ι.locals

  abbrev t : Token
  t = token_here rows text at

  abbrev ts : List Token
  ts = tokens_next rows text at

  h : at < length rows
  h = rw (rows_same ι) at inside

  τ : TokenRows rows at i token
  τ = rw (rows_same ι) at its

  few : i ≤ 65535
  few = few_tokens ω ι.going

  σ : StandsFor token rows text t ts
  σ = stands ω ι.going.head h τ

  there : StandsFor token p.form.rows.now p.form.text.now t ts
  there = carried ι (λ z. StandsFor token z.source.rows.now z.source.text.now t ts) σ

  module _ {r : Result (Unit {0}) WalkError} {q : CodeState} (π : TokenPushed token p r q) where
    abbrev after : State
    after = run (turn o i t ts) (state_of x p)

    answer : r ≡ pushed_of (checked (length p.sink.out.now) i after)
    answer =
        subst (λ n. r ≡ pushed_of (checked (length p.sink.out.now) n (run (turn o n t ts) (state_of x p)))) τ.index
        (subst (λ (z : Given). r ≡ pushed_of (checked (length p.sink.out.now) token.index (run (turn (options_of z.options) token.index t ts) (state_of x p)))) ι.same.given
        (π.answer t ts there x ι.going.shallow ι.no_skip))

    pub turn-same : Same f q
    turn-same = then ι.same π.same

    pub turn-size : length q.sink.out.now ≡ length f.sink.out.now
    turn-size = π.size ∙ ι.going.size

    -- A refusal of the token is the walk's.
    refused : {e : WalkError} → r ≡ Err e → LaidOut rows text o f.sink.out.now (Err e) q.sink.out.now
    refused e = laid_stopped (given f.form) (stops ω ι.going h (sym e ∙ answer)) turn-size

    -- The same of an answer that passes the refusal on.
    pub refused_as : (a : Result Finished WalkError) {e : WalkError} → IsErrAnd a (λ y. y ≡ e) → r ≡ Err e → LaidOut rows text o f.sink.out.now a q.sink.out.now
    refused_as (Ok m) k e = absurd k
    refused_as (Err y) k e = rw k (refused e)

    module _ (ok : r ≡ Ok tt) where
      turned : Does (turn o i t ts) x p q
      turned =
          subst (λ n. Does (turn o n t ts) x p q) τ.index
          (subst (λ (z : Given). Does (turn (options_of z.options) token.index t ts) x p q) ι.same.given
          (π.does ok t ts there x ι.going.shallow ι.no_skip))

      fits : length after.out ≤ length p.sink.out.now
      fits = laid_fits (length p.sink.out.now) i after (sym ok ∙ answer)

      shallow : after.formatter.too_deep ≡ none
      shallow = laid_shallow (length p.sink.out.now) i after (sym ok ∙ answer)

      calm : overflows o t ts (led o i t ts (state_of x p)).formatter ≡ false
      unfolding run
      calm =
          split (overflows o t ts (led o i t ts (state_of x p)).formatter)
          (λ e. let d : some i ≡ none = ap (λ (s : State). s.formatter.too_deep) (sym (turn-deep o i t ts x p ι.going.shallow ι.no_skip e)) ∙ shallow in let y : ◌≡◌ {A = ℕ} 0 1 = cc in absurd (omega arith))
          (λ e. e)

      went : Going (given f.form) f.sink.out.now (i + 1) (next_row rows (own_row rows at)) (locals_of after.formatter) q
      went = goes_on ω ι.going h turned fits shallow

      took : after.formatter.skip_next ≡ took_next token.kind q.form.prev
      took =
          turn_skip o i t ts (state_of x p) ι.going.shallow ι.no_skip calm
          ∙ ap (λ n. eqb n LeftBrace && is_at after.formatter.prev RightBrace) σ.kind
          ∙ ap (λ (w : State). eqb token.kind LeftBrace && is_at w.formatter.prev RightBrace) (sym (fit ω ι.going h turned fits shallow).state)

      next_is_lem : token.next ≡ next_row rows (own_row rows at)
      next_is_lem = τ.next ∙ ap (next_row rows) τ.own

      went_next : Going (given f.form) f.sink.out.now (i + 1) token.next (locals_of after.formatter) q
      went_next = subst (λ n. Going (given f.form) f.sink.out.now (i + 1) n (locals_of after.formatter) q) (sym next_is_lem) went

      next_in : took_next token.kind q.form.prev ≡ true → token.next < length rows
      next_in e = rw next_is_lem (next_there ω ι.going.head h RightBrace (turn-taken o i t ts (state_of x p) ι.going.shallow ι.no_skip calm (took ∙ e)))

      its_head : TokenBoundary rows text token.next
      its_head = rw next_is_lem (head-next ω ι.going.head h)

      onward : (P : Given → Type 0) → P (given f.form) → P (given q.form)
      onward P y = subst P (sym turn-same.given) y

      -- The token that was taken along is there.
      pub next_there_too : NoTriviaIf f.form.bare rows → took_next token.kind q.form.prev ≡ true → NextToken q.form.rows.now token.next q.form.bare
      next_there_too only e = onward (λ z. NextToken z.source.rows.now token.next z.bare) (next_token ω its_head (next_in e) only)

      pub next-bounds : (token.next ≤ length q.form.rows.now) × (token.index + 1 < most32)
      next-bounds = (onward (λ z. token.next ≤ length z.source.rows.now) its_head.within, let b = few in let e = τ.index in omega arith)

      place_taken :
          {n : ℕ} {j : ℕ} → n ≡ next_row rows (own_row rows token.next) → j ≡ token.index + 2
          → took_next token.kind q.form.prev ≡ true → Loop f j n q
      place_taken {n} {j} e d c =
          let z : i + 1 + 1 ≡ j = let a = τ.index in omega arith in
          record {
            locals = locals_of (definition.set_skip_next false (state_of (locals_of after.formatter) q).formatter);
            same = turn-same;
            going = rw (e, ← z) (skips ω went_next (next_in c) (took ∙ c));
            no_skip = refl;
          }

      place_next : {n : ℕ} {j : ℕ} → n ≡ token.next → j ≡ token.index + 1 → took_next token.kind q.form.prev ≡ false → Loop f j n q
      place_next {n} {j} e d c =
          let z : i + 1 ≡ j = let a = τ.index in omega arith in
          record { locals = locals_of after.formatter; same = turn-same; going = rw (e, ← z) went_next; no_skip = took ∙ c }

      module _ {place : Place} (ν : NextPlace q.form.rows.now token (took_next token.kind q.form.prev) place) where
        ν₀ : NextPlace rows token (took_next token.kind q.form.prev) place
        ν₀ = rw (ap (λ (z : Given). z.source.rows.now) turn-same.given) at ν

        -- The loop's invariant holds at the next place.
        pub placed : Loop f place.index place.at q
        placed =
            split (took_next token.kind q.form.prev)
            (λ c. place_taken (rw c at ν₀.at) (rw c at ν₀.index) c)
            (λ c. place_next (rw c at ν₀.at) (rw c at ν₀.index) c)

        -- It lies further on.
        pub placed-after : at < place.at
        placed-after =
            let d = next_is_lem in
            split (took_next token.kind q.form.prev)
            (λ c. let e = rw c at ν₀.at in omega arith)
            (λ c. let e = rw c at ν₀.at in omega arith)

-- ---- fast tokens and fast braces

module _ {f : CodeState} {i at : ℕ} {p : CodeState} (ω : CheckedRows f.form.rows.now f.form.text.now) (ι : Loop f i at p) where
  -- A whole number of rows is left.
  pub rows_left : RowsLeft p.form.rows.now at
  rows_left = carried ι (λ z. RowsLeft z.source.rows.now at) (ι.going.head.within, let a = ω.whole in let b = ι.going.head.whole in omega arith)

  -- ---- fast tokens

  pub boundary_there : TokenBoundary p.form.rows.now p.form.text.now at
  boundary_there = carried ι (λ z. TokenBoundary z.source.rows.now z.source.text.now at) ι.going.head

  pub past_fast_tokens : MayStartFastTokens p.form → {to : ℕ} {g : CodeState} → LaysFastTokens p at to g → Loop f (i + (to - at) / 16) to g
  past_fast_tokens ρ {to} {g} σ =
      record {
        locals = locals_of (after_fast_tokens (ltb at to) (last_kind g.form) (fast_state_of g.form) (formatter_of p.form ι.locals));
        same = then ι.same σ.changed.same;
        going = goes_past_fast_tokens ω ι.going ι.same.given (before_fast_tokens ρ ι.locals (last_known ω ι.going ρ.mid_line) ι.no_skip ι.going.shallow) σ;
        no_skip = ι.no_skip;
      }

  -- They end within the rows, and their indexes are below the most rows.
  pub fast_tokens_few :
      MayStartFastTokens p.form → {to : ℕ} {g : CodeState} → LaysFastTokens p at to g
      → (at ≤ to) × (to ≤ most_row_bytes) × (i + (to - at) / row_size ≤ most_rows)
  fast_tokens_few ρ {to} {g} σ =
      let ι₂ = past_fast_tokens ρ σ in
      let w = σ.laid.whole in
      let h = ι₂.going.head.within in
      let n = few_tokens ω ι₂.going in
      let c = ω.few in
      (omega arith, omega arith, omega arith)

  -- ---- fast braces

  module _ (only : NoTriviaIf f.form.bare f.form.rows.now) (ρ : MayStartFastBraces p.form) where
    only_here : only_tokens (rows_of f.form.rows.now) ≡ true
    only_here = only (ap (λ (z : Given). z.bare) (sym ι.same.given) ∙ ρ.bare)

    pub fast_braces_place : (at ≤ length p.form.rows.now) × (p.sink.len ≤ length p.sink.out.now)
    fast_braces_place = (boundary_there.within, ι.going.room)

    pub fast_braces_rows : only_tokens (rows_of (drop at p.form.rows.now)) ≡ true
    fast_braces_rows = carried ι (λ z. only_tokens (rows_of (drop at z.source.rows.now)) ≡ true) (only_at f.form.rows.now at ι.going.head.whole only_here)

    pub fast_braces_depth : p.form.inline_depth.0 + length p.form.rows.now < 18446744073709551616
    fast_braces_depth = let e = ap length (rows_same ι) in let a = ι.going.counts.inline in let b = few_tokens ω ι.going in let c = ω.few in omega arith

    pub past_fast_braces : {to : ℕ} {g : CodeState} → LaysFastBraces p at to g → Loop f (i + (to - at) / 16) to g
    past_fast_braces {to} {g} σ =
        record {
          locals = locals_of (after_fast_braces (ltb at to) σ.laid.close (fast_braces_at g to) (formatter_of p.form ι.locals));
          same = then ι.same σ.changed.same;
          going = goes_past_fast_braces ω ι.going only_here ι.same.given (before_fast_braces p ρ at ι.locals (last_known ω ι.going ρ.mid_line) ι.no_skip ι.going.shallow) σ;
          no_skip = ι.no_skip;
        }
