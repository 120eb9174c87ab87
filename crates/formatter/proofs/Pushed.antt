-- `push_token`: from its parts to the turn of the definition's walk. Assumes nothing.
use mathlib.Core.Bool.{Bool, true, false, not, ◌&&◌}
use mathlib.Core.List.{List, [], ◌∷◌}
use mathlib.Core.Option.{none, some}
use mathlib.Core.Path.{◌≡◌, refl, sym, ap, subst, ◌∙◌}
use Prim.Native.Nat.{ℕ, ◌+◌, ◌≤◌, ◌<◌}
use native.Mathlib.Omega.{arith}
use borrow.Author.Tests.{leb-true, leb-false, le-ltb, lt-ltb, ltb-true, ltb-false}
use lib.Dec.{leb, eqb, ltb}
use lib.ListN.{length}
use Rattle.std.specs.Prelude.{Result, Ok, Err}
use Rattle.shared.proofs.Logic.{split}
use Rattle.rows.specs.Options
use Rattle.rows.specs.Token.{Token, Trivia}
use Rattle.lookahead.specs.Measure.{is_empty}
use Rattle.definition.specs.Formatter as definition
use Rattle.definition.specs.Act.{State, run, update}
use Rattle.definition.specs.Emit.{track_fn_state, trailing_trivia, leading_trivia}
use Rattle.definition.specs.PushToken.{arm, overflows, turn, take_inline_close}
use Rattle.definition.specs.Layout.{checked}
use Rattle.definition.proofs.Growth.{depth}
use Rattle.definition.proofs.Last
use Rattle.formatter.specs.declared.TokenAt.{TokenAt}
use Rattle.formatter.specs.declared.WalkError.{WalkError}
use Rattle.formatter.specs.declared.WalkError.TheVariants.{Deep, Full}
use Rattle.std.specs.declared.option.Option.{Option}
use Rattle.std.specs.declared.option.Option.TheVariants.{None, Some}
use Rattle.formatter.specs.declared.SignatureDepth.{SignatureDepth}
use Rattle.formatter.specs.CodeState.{Locals, Given, CodeState, code_state, state_of, locals_of, formatter_of, fields_of, options_of, prev_of, signature_of, given}
use Rattle.formatter.specs.Does.{Does, Done, Arrives, Same}
use Rattle.formatter.specs.Token.{Ready, HasRows, HasEnds, InRows, Ahead, AtToken, StandsFor, depth_of, kind_of}
use Rattle.formatter.specs.Trivia.{WholeRows, trivia_in, lead_token}
use Rattle.formatter.specs.Parts.{returns_early}
use Rattle.formatter.specs.Format.{HasToken, TokenPushed, pushed_of, CheckedRows, TokenBoundary, TokenRows}
use Rattle.sink.proofs.Appends.{nothing}
use Rattle.formatter.proofs.Does.{seq, reached, stays, updated}
use Rattle.formatter.proofs.Locals.{SameFields, lead-same, lead-commas}
use Rattle.formatter.proofs.Turned.{trail_token, led, led_within, turns, trails, trails_not, turn-shallow, turn-deep}
use Rattle.formatter.proofs.Comments.{no_trivia, empty_is}
use Rattle.formatter.proofs.Place
use Rattle.formatter.proofs.Place.{token_here, tokens_next, tokens_here, stands, leading_is, trailing_is, in_rows, leads, ahead}

-- ---- what the calls of `push_token` say

-- The trailing trivia are written or left out, by the test b.
pub data Trailed (tr : List Trivia) (b : Bool) (f g : CodeState) : Type 0 where
  written : b ≡ true → Done (trailing_trivia tr) f g → Trailed tr b f g
  left_out : b ≡ false → g ≡ f → Trailed tr b f g

-- P holds of the token and of those after it, in the rows of z.
abbrev pub At : TokenAt → Given → (Token → List Token → Type 0) → Type 0
At token z P = (t : Token) (ts : List Token) → StandsFor token z.source.rows.now z.source.text.now t ts → P t ts

-- After the leading trivia: refusal 4's test, whether a one-line block's `}` stands before, the test for trailing trivia, and
-- the arm. f is the state before the token, g that after its leading trivia.
pub record Armed (z : Given) (token : TokenAt) (f g : CodeState) (r close b : Bool) (g₂ : CodeState) : Type 0 where
  pub overflow : At token z (λ t ts. r ≡ overflows (options_of z.options) t ts (fields_of g.form))
  pub calm : r ≡ false
  pub taken : close ≡ (eqb token.lead token.own && f.form.just_closed_inline)
  pub trailing : At token z (λ t ts. b ≡ (ltb (token.own + 16) token.next && not (returns_early t ts (fields_of g.form))))
  pub arms :
      At token z (λ t ts. (y : Locals) → y.inline_close ≡ close → overflows (options_of z.options) t ts (fields_of g.form) ≡ false
      → Does (arm (options_of z.options) token.index t ts) y g g₂)

-- And then the trailing trivia and `fn_state`.
pub record Calls (z : Given) (token : TokenAt) (f g : CodeState) (r close b : Bool) (g₂ g₃ g₄ : CodeState) : Type 0 where
  pub armed : Armed z token f g r close b g₂
  pub trailed : Trailed (trivia_in g₂.form.rows.now g₂.form.text.now (token.own + 16) token.next) b g₂ g₃
  pub tracked : Done (update (track_fn_state token.kind)) g₃ g₄

-- No locals are set.
abbrev pub quiet : Locals
quiet = record { inline_close = false; returned = false; skip_next = false; too_deep = none }

-- The last kind as a number, of the code's field and of the definition's.
pub kinds_same : (p : Option ℕ) → Last.kind_of (prev_of p) ≡ kind_of p
kinds_same None = refl
kinds_same (Some k) = refl

pub depth-signature : (b : Option SignatureDepth) → depth (signature_of b) ≡ depth_of b
depth-signature None = refl
depth-signature (Some d) = refl

-- ---- how a state ends the walk

module _ (size i : ℕ) (s : State) where
  pub past-full : size < length s.out → Err (Full i) ≡ pushed_of (checked size i s)
  past-full g = rw (lt-ltb size (length s.out) g)

  pub within-deep : length s.out ≤ size → s.formatter.too_deep ≡ some i → Err (Deep i) ≡ pushed_of (checked size i s)
  within-deep g e = rw (le-ltb size (length s.out) g, e)

  pub within-ok : length s.out ≤ size → s.formatter.too_deep ≡ none → Ok tt ≡ pushed_of (checked size i s)
  within-ok g e = rw (le-ltb size (length s.out) g, e)

not-ok : {A : Type 0} {e : WalkError} → ◌≡◌ {A = Result (Unit {0}) WalkError} (Err e) (Ok tt) → A
not-ok e = let y : ◌≡◌ {A = ℕ} 0 1 = cc in absurd (omega arith)

-- ---- a token

module _ {token : TokenAt} {p : CodeState} (θ : HasToken token p.form p.sink) where
  abbrev rows : List ℕ
  rows = p.form.rows.now

  abbrev text : List ℕ
  text = p.form.text.now

  abbrev o : Options.Options
  o = options_of p.form.options

  abbrev i : ℕ
  i = token.index

  abbrev t : Token
  t = token_here rows text token.lead

  abbrev ts : List Token
  ts = tokens_next rows text token.lead

  abbrev ω : CheckedRows rows text
  ω = θ.checked

  abbrev η : TokenBoundary rows text token.lead
  η = θ.boundary

  abbrev h : token.lead < length rows
  h = θ.inside

  abbrev τ : TokenRows rows token.lead token.index token
  τ = θ.its_rows

  abbrev here : StandsFor token rows text t ts
  here = stands ω η h τ

  pub has_rows : HasRows token p.form
  has_rows = in_rows ω η h τ θ.index

  pub has_ends : HasEnds token p.form
  has_ends = (η.within, ahead ω η h τ θ.ends)

  pub lead_rows : WholeRows rows text token.lead token.own
  lead_rows = leads ω η h τ

  pub trail_rows : WholeRows rows text (token.own + 16) token.next
  trail_rows = Place.trails ω η h τ

  -- The token that the code's token stands for is the one here.
  pub at_here : (P : Token → List Token → Type 0) → P t ts → AtToken token p.form P
  at_here P π a us σ =
      let e : ◌≡◌ {A = List Token} (a ∷ us) (t ∷ ts) = sym σ.ahead ∙ tokens_here ω η h in
      let x : a ≡ t = cc in
      let y : us ≡ ts = cc in
      subst (λ l. P a l) (sym y) (subst (λ z. P z ts) (sym x) π)

  -- ---- after the leading trivia

  module _ {g : CodeState} (δ : Done (lead_token o (trivia_in rows text token.lead token.own)) p g) where
    its_lead : (x : Locals) → Does (lead_token o t.leading) x p g
    its_lead x = subst (λ ls. Does (lead_token o ls) x p g) (sym (leading_is ω η h τ)) (δ x)

    pub lead_same : Same p g
    lead_same = (δ quiet).same

    pub lead_size : length g.sink.out.now ≡ length p.sink.out.now
    lead_size = (δ quiet).size

    module _ (x : Locals) (d : x.too_deep ≡ none) (k : x.skip_next ≡ false) where
      abbrev begins : State
      begins = led o i t ts (state_of x p)

      abbrev after : State
      after = run (turn o i t ts) (state_of x p)

      abbrev size : ℕ
      size = length p.sink.out.now

      -- The leading trivia alone do not fit.
      pub leads-full : length g.sink.out.now < g.sink.len → Err (Full i) ≡ pushed_of (checked size i after)
      leads-full l =
          past-full size i after
          (split (leb (length begins.out) size)
          (λ e. absurd (let u = (its_lead x).fits θ.ready.fits.within (leb-true _ _ e) in let w = u.within in omega arith))
          (λ e. let a = leb-false (length begins.out) size e in let b = led_within o i t ts (state_of x p) d k in omega arith))

      module _ (room : g.sink.len ≤ length g.sink.out.now) where
        pub arrives : Arrives begins p g
        arrives =
            split (leb (length begins.out) size)
            (λ e. (its_lead x).fits θ.ready.fits.within (leb-true _ _ e))
            (λ e. absurd (let z = (its_lead x).over θ.ready.fits.within (leb-false _ _ e) in omega arith))

        form : formatter_of g.form (locals_of begins.formatter) ≡ begins.formatter
        form = ap (λ (v : State). v.formatter) arrives.state

        same : SameFields (state_of x p).formatter (run (leading_trivia o t.leading) (state_of x p)).formatter
        same = lead-same o t.leading (state_of x p)

        pub field : {A : Type 0} (φ : definition.Formatter → A) → φ begins.formatter ≡ φ (state_of x p).formatter → φ (formatter_of g.form (locals_of begins.formatter)) ≡ φ (state_of x p).formatter
        field φ e = ap φ form ∙ e

        overflow_is : {b : Bool} → overflows o t ts (fields_of g.form) ≡ b → overflows o t ts begins.formatter ≡ b
        overflow_is e = ap (overflows o t ts) (sym form) ∙ e

        -- Refusal 4: the stack is full.
        pub leads-deep : overflows o t ts (fields_of g.form) ≡ true → Err (Deep i) ≡ pushed_of (checked size i after)
        unfolding run
        leads-deep v =
            let e = turn-deep o i t ts x p d k (overflow_is v) in
            let r : length begins.out ≤ size = omega (arith, reached begins p g arrives, arrives.within, lead_size) in
            within-deep size i after (rw e r) (rw e refl)

        closes : {close : Bool} → close ≡ (eqb token.lead token.own && p.form.just_closed_inline) → (locals_of begins.formatter).inline_close ≡ close
        unfolding run
        closes e =
            ap (λ y. is_empty t.leading && y) same.just_closed_inline
            ∙ ap (λ y. y && p.form.just_closed_inline) (ap is_empty (leading_is ω η h τ) ∙ sym (empty_is rows text token.lead token.own lead_rows))
            ∙ sym e

        -- ---- the whole turn

        module _ {r close b : Bool} {g₂ : CodeState} (α : Armed (given p.form) token p g r close b g₂) where
          calm : overflows o t ts begins.formatter ≡ false
          calm = overflow_is (sym (α.overflow t ts here) ∙ α.calm)

          abbrev y : Locals
          y = locals_of begins.formatter

          not_returned : y.returned ≡ false
          unfolding run
          not_returned = refl

          its_arm : Does (arm o i t ts) y g g₂
          its_arm = α.arms t ts here y (closes α.taken) (sym (α.overflow t ts here) ∙ α.calm)

          pub second : given g₂.form ≡ given p.form
          second = its_arm.same.given ∙ lead_same.given

          abbrev left : Locals
          left = locals_of (run (arm o i t ts) (state_of y g)).formatter

          module _ {g₃ g₄ : CodeState} (trailed : Trailed (trivia_in g₂.form.rows.now g₂.form.text.now (token.own + 16) token.next) b g₂ g₃) (tracked : Done (update (track_fn_state token.kind)) g₃ g₄) where
            its_trail : Does (trail_token t.trailing) left g₂ g₃
            its_trail = go (subst (λ z. Trailed (trivia_in z.source.rows.now z.source.text.now (token.own + 16) token.next) b g₂ g₃) second trailed)
              where
                go : Trailed (trivia_in rows text (token.own + 16) token.next) b g₂ g₃ → Does (trail_token t.trailing) left g₂ g₃
                go (written e z) =
                    trails o i t ts y g not_returned (ltb (token.own + 16) token.next) (α.trailing t ts here) e
                    (subst (λ ls. Does (trailing_trivia ls) left g₂ g₃) (sym (trailing_is ω η h τ)) (z left))
                go (left_out e z) =
                    rw z
                    (trails_not o i t ts y g not_returned (ltb (token.own + 16) token.next) (α.trailing t ts here) e
                    (λ n. trailing_is ω η h τ ∙ no_trivia rows text (ltb-false (token.own + 16) token.next n)))

            its_track : (z : Locals) → Does (update (track_fn_state t.kind)) z g₃ g₄
            its_track z = subst (λ n. Does (update (track_fn_state n)) z g₃ g₄) (sym here.kind) (tracked z)

            pub turned : Does (turn o i t ts) x p g₄
            turned = turns o i t ts x p d k (its_lead x) calm (seq its_arm (seq its_trail (its_track _)))

            pub turn-full : length g₄.sink.out.now < g₄.sink.len → Err (Full i) ≡ pushed_of (checked size i after)
            turn-full g =
                past-full size i after
                (split (leb (length after.out) size)
                (λ e. absurd (let u = turned.fits θ.ready.fits.within (leb-true _ _ e) in let w = u.within in omega arith))
                (λ e. leb-false (length after.out) size e))

            pub turn-ok : g₄.sink.len ≤ length g₄.sink.out.now → Ok tt ≡ pushed_of (checked size i after)
            turn-ok g =
                within-ok size i after
                (split (leb (length after.out) size) (λ e. leb-true _ _ e) (λ e. absurd (let z = turned.over θ.ready.fits.within (leb-false _ _ e) in omega arith)))
                (turn-shallow o i t ts (state_of x p) d k calm)

    -- ---- for any locals

    module _ (room : g.sink.len ≤ length g.sink.out.now) where
      commas-same : g.form.commas ≡ p.form.commas
      unfolding run
      commas-same = ap (λ (v : State). v.commas) (arrives quiet refl refl room).state ∙ lead-commas o t.leading (state_of quiet p)

      kept : {A : Type 0} (φ : definition.Formatter → A) → φ (begins quiet refl refl).formatter ≡ φ (state_of quiet p).formatter → φ (formatter_of g.form (locals_of (begins quiet refl refl).formatter)) ≡ φ (state_of quiet p).formatter
      kept φ e = field quiet refl refl room φ e

      -- Leading trivia change no count.
      pub ready : Ready g.form g.sink
      unfolding run
      ready =
          let c = θ.ready in
          let s = lead-same o t.leading (state_of quiet p) in
          let width : g.form.options.indent_width ≡ p.form.options.indent_width = ap (λ z. z.options.indent_width) lead_same.given in
          let indent : g.form.indent ≡ p.form.indent = kept (λ v. v.indent) s.indent in
          let group : g.form.group_depth.0 ≡ p.form.group_depth.0 = kept (λ v. v.group_depth) s.group_depth in
          let inline : g.form.inline_depth.0 ≡ p.form.inline_depth.0 = kept (λ v. v.inline_depth) s.inline_depth in
          let records : g.form.record_depth.0 ≡ p.form.record_depth.0 = kept (λ v. v.record_depth) s.record_depth in
          let signature : depth_of g.form.sig_break_depth ≡ depth_of p.form.sig_break_depth = sym (depth-signature g.form.sig_break_depth) ∙ kept (λ v. depth v.sig_break_depth) (ap depth s.sig_break_depth) ∙ depth-signature p.form.sig_break_depth in
          let last : kind_of g.form.prev ≡ kind_of p.form.prev = sym (kinds_same g.form.prev) ∙ kept (λ v. Last.kind_of v.prev) (ap Last.kind_of s.prev) ∙ kinds_same p.form.prev in
          record {
            fits = record { within = room; width = rw width c.fits.width; indent = rw indent c.fits.indent };
            group = rw group c.group;
            inline = rw inline c.inline;
            records = rw records c.records;
            signature = rw signature c.signature;
            commas = rw commas-same c.commas;
            last = rw last c.last;
          }

      pub rows_there : HasRows token g.form
      rows_there = subst (λ (z : Given). InRows token z.source.rows.now z.source.text.now) (sym lead_same.given) has_rows

      pub ends_there : HasEnds token g.form
      ends_there = subst (λ (z : Given). (token.lead ≤ length z.source.rows.now) × Ahead z.ends token.lead z.source.rows.now) (sym lead_same.given) has_ends

  -- A token without leading rows clears `just_closed_inline`.
  cleared : Done (lead_token o []) p (code_state (record p.form { just_closed_inline = false }) p.sink)
  unfolding leading_trivia
  cleared x = seq {a = update (λ f. f)} {b = update (take_inline_close true)} {p = p} {q = p} stays (updated {g = take_inline_close true} {p = p} refl refl refl nothing)

  pub no_leading : token.lead ≡ token.own → Done (lead_token o (trivia_in rows text token.lead token.own)) p (code_state (record p.form { just_closed_inline = false }) p.sink)
  no_leading e x =
      subst (λ ls. Does (lead_token o ls) x p (code_state (record p.form { just_closed_inline = false }) p.sink))
      (sym (no_trivia rows text {at = token.lead} {to = token.own} (omega arith))) (cleared x)

  -- ---- what `push_token` answers

  module _ {g : CodeState} (δ : Done (lead_token o (trivia_in rows text token.lead token.own)) p g) where
    -- The leading trivia do not fit.
    pub pushed-lead-full : ltb (length g.sink.out.now) g.sink.len ≡ true → TokenPushed token p (Err (Full i)) g
    pushed-lead-full l =
        record {
          same = lead_same δ;
          size = lead_size δ;
          answer = at_here _ (λ x d k. leads-full δ x d k (ltb-true _ _ l));
          does = λ e. not-ok e;
        }

    module _ (fits : ltb (length g.sink.out.now) g.sink.len ≡ false) where
      room : g.sink.len ≤ length g.sink.out.now
      room = ltb-false _ _ fits

      pub pushed_ready : Ready g.form g.sink
      pushed_ready = ready δ room

      pub pushed_rows : HasRows token g.form
      pushed_rows = rows_there δ room

      pub pushed_ends : HasEnds token g.form
      pushed_ends = ends_there δ room

      -- The stack is full.
      pub pushed_deep : AtToken token g.form (λ t ts. true ≡ overflows (options_of g.form.options) t ts (fields_of g.form)) → TokenPushed token p (Err (Deep i)) g
      pushed_deep v =
          let e = subst (λ (z : Given). At token z (λ t ts. true ≡ overflows (options_of z.options) t ts (fields_of g.form))) (lead_same δ).given v in
          record {
            same = lead_same δ;
            size = lead_size δ;
            answer = at_here _ (λ x d k. leads-deep δ x d k room (sym (e t ts here)));
            does = λ e. not-ok e;
          }

      module _ {r close b : Bool} {g₂ : CodeState} (α : Armed (given g.form) token p g r close b g₂) where
        α₀ : Armed (given p.form) token p g r close b g₂
        α₀ = subst (λ z. Armed z token p g r close b g₂) (lead_same δ).given α

        -- The trailing trivia's rows.
        pub pushed_trail_rows : WholeRows g₂.form.rows.now g₂.form.text.now (token.own + 16) token.next
        pushed_trail_rows = subst (λ z. WholeRows z.source.rows.now z.source.text.now (token.own + 16) token.next) (sym (second δ quiet refl refl room α₀)) trail_rows

      module _ {r close b : Bool} {g₂ g₃ g₄ : CodeState} (κ : Calls (given g.form) token p g r close b g₂ g₃ g₄) where
        did : (x : Locals) → x.too_deep ≡ none → x.skip_next ≡ false → Does (turn o i t ts) x p g₄
        did x d k = turned δ x d k room (α₀ κ.armed) κ.trailed κ.tracked

        pub pushed_full : ltb (length g₄.sink.out.now) g₄.sink.len ≡ true → TokenPushed token p (Err (Full i)) g₄
        pushed_full l =
            record {
              same = (did quiet refl refl).same;
              size = (did quiet refl refl).size;
              answer = at_here _ (λ x d k. turn-full δ x d k room (α₀ κ.armed) κ.trailed κ.tracked (ltb-true _ _ l));
              does = λ e. not-ok e;
            }

        pub pushed_ok : ltb (length g₄.sink.out.now) g₄.sink.len ≡ false → TokenPushed token p (Ok tt) g₄
        pushed_ok l =
            record {
              same = (did quiet refl refl).same;
              size = (did quiet refl refl).size;
              answer = at_here _ (λ x d k. turn-ok δ x d k room (α₀ κ.armed) κ.trailed κ.tracked (ltb-false _ _ l));
              does = λ e. at_here _ did;
            }
