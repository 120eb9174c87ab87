-- One token of the walk, from its parts: leading trivia, the arm, trailing trivia, `fn_state`. Assumes nothing.
use mathlib.Core.Bool.{Bool, true, false, cond, not, ◌&&◌}
use mathlib.Core.List.{List, []}
use mathlib.Core.Option.{none, some}
use mathlib.Core.Path.{◌≡◌, refl, sym, ap, subst, ◌∙◌}
use Prim.Native.Nat.{ℕ, ◌≤◌}
use native.Mathlib.Omega.{arith}
use lib.ListN.{length}
use borrow.Author.Tests.{not-true, eqb-true}
use lib.Dec.{eqb}
use Rattle.shared.proofs.Logic.{split, either, and_left, and_right}
use Rattle.rows.specs.Kinds.{LeftBrace, RightBrace}
use Rattle.rows.specs.Options.{Options}
use Rattle.rows.specs.Token.{Token, Trivia}
use Rattle.definition.specs.Formatter.{Formatter, set_too_deep}
use Rattle.definition.specs.Act.{State, Act, run, update, ◌⨾◌, choose, nothing, if}
use Rattle.definition.specs.Emit.{is_some, is_at, track_fn_state, trailing_trivia}
use Rattle.lookahead.specs.Measure.{next_is}
use Rattle.definition.specs.PushToken.{arm, overflows, push_token, turn}
use Rattle.formatter.specs.CodeState.{Locals, CodeState, state_of, locals_of}
use Rattle.formatter.specs.Does.{Does}
use Rattle.formatter.specs.Trivia.{lead_token}
use Rattle.formatter.specs.Parts.{returns_early}
use Rattle.formatter.proofs.Does.{grows, seq, yes, no, same-run, stays}
use Rattle.formatter.proofs.Locals.{arm-returned, arm_skip, arm-taken, arm-deep, lead-same, trail_same}
use Rattle.formatter.proofs.Turn.{chosen_not}

-- The act of the trailing trivia after an arm.
abbrev pub trail_token : List Trivia → Act
trail_token trailing = if (λ f. f.returned) nothing (trailing_trivia trailing)

pub taken : (s : State) (t : State → Bool) (a b : Act) → t s ≡ true → run (choose t a b) s ≡ run a s
unfolding run
taken s t a b e = rw e

module _ (o : Options) (i : ℕ) (t : Token) (ts : List Token) where
  -- The state after the leading trivia.
  abbrev pub armed : Act
  armed = arm o i t ts ⨾ (trail_token t.trailing ⨾ update (track_fn_state t.kind))

  abbrev pub led : State → State
  led s = run (lead_token o t.leading) s

  pushed : (s : State) → run (push_token o i t ts) s ≡ cond (overflows o t ts (led s).formatter) (run (update (set_too_deep (some i))) (led s)) (run armed (led s))
  unfolding run
  pushed s = refl

  -- The turn of a token that is not skipped.
  pub turn_led :
      (s : State) → s.formatter.too_deep ≡ none → s.formatter.skip_next ≡ false
      → run (turn o i t ts) s ≡ cond (overflows o t ts (led s).formatter) (run (update (set_too_deep (some i))) (led s)) (run armed (led s))
  turn_led s d k = chosen_not s (λ s. is_some s.formatter.too_deep) _ _ (rw d) ∙ chosen_not s (λ s. s.formatter.skip_next) _ _ k ∙ pushed s

  -- A turn writes at least what its leading trivia write.
  pub led_within : (s : State) → s.formatter.too_deep ≡ none → s.formatter.skip_next ≡ false → length (led s).out ≤ length (run (turn o i t ts) s).out
  unfolding run
  led_within s d k =
      rw (turn_led s d k)
      (either (λ (z : State). length (led s).out ≤ length z.out) (overflows o t ts (led s).formatter) (λ e. omega arith) (λ e. grows armed (led s)))

  module _ (x : Locals) (p : CodeState) (d : x.too_deep ≡ none) (k : x.skip_next ≡ false) where
    pub turn-deep : overflows o t ts (led (state_of x p)).formatter ≡ true → run (turn o i t ts) (state_of x p) ≡ run (update (set_too_deep (some i))) (led (state_of x p))
    turn-deep v = turn_led (state_of x p) d k ∙ ap (λ z. cond z (run (update (set_too_deep (some i))) (led (state_of x p))) (run armed (led (state_of x p)))) v

    pub turns :
        {m q : CodeState} → Does (lead_token o t.leading) x p m → overflows o t ts (led (state_of x p)).formatter ≡ false
        → Does armed (locals_of (led (state_of x p)).formatter) m q → Does (turn o i t ts) x p q
    unfolding run
    turns a v b =
        same-run {a = lead_token o t.leading ⨾ armed}
        (sym (turn_led (state_of x p) d k ∙ ap (λ z. cond z (run (update (set_too_deep (some i))) (led (state_of x p))) (run armed (led (state_of x p)))) v))
        (seq a b)

  -- ---- after the arm

  abbrev after_arm : Locals → CodeState → Locals
  after_arm x p = locals_of (run (arm o i t ts) (state_of x p)).formatter

  module _ (x : Locals) (p : CodeState) (r : x.returned ≡ false) where
    abbrev early : Bool
    early = returns_early t ts (state_of x p).formatter

    returned_is : (after_arm x p).returned ≡ returns_early t ts (state_of x p).formatter
    returned_is = arm-returned o i t ts (state_of x p) r

    -- The trailing trivia are written.
    pub trails :
        {q m : CodeState} (has : Bool) {trails : Bool} → trails ≡ (has && not early) → trails ≡ true
        → Does (trailing_trivia t.trailing) (after_arm x p) q m → Does (trail_token t.trailing) (after_arm x p) q m
    trails has e h d = no (λ n. returned_is ∙ not-true early (and_right has (not early) (sym e ∙ h))) d

    -- Or there are none, or the arm returned before them.
    pub trails_not :
        {q : CodeState} (has : Bool) {trails : Bool} → trails ≡ (has && not early) → trails ≡ false → (has ≡ false → t.trailing ≡ [])
        → Does (trail_token t.trailing) (after_arm x p) q q
    unfolding trailing_trivia
    trails_not {q} has e h empty =
        split (after_arm x p).returned (λ b. yes (λ n. b) stays)
        (λ b. no (λ n. b) (subst (λ l. Does (trailing_trivia l) (after_arm x p) q q) (sym (empty (missing has early (sym e ∙ h) (sym returned_is ∙ b)))) stays))
      where
        missing : (a b : Bool) → (a && not b) ≡ false → b ≡ false → a ≡ false
        missing true true u v = v
        missing true false u v = u
        missing false b u v = refl

  -- ---- the locals after a turn that is not refused

  kept : (s : State) → (run (trail_token t.trailing) s).formatter ≡ s.formatter
  unfolding run
  kept s = either (λ (z : State). z.formatter ≡ s.formatter) s.formatter.returned (λ e. refl) (λ e. trail_same t.trailing s)

  armed_is : (s : State) → (run armed s).formatter ≡ track_fn_state t.kind (run (arm o i t ts) s).formatter
  unfolding run
  armed_is s = ap (track_fn_state t.kind) (kept (run (arm o i t ts) s))

  module _ (s : State) (d : s.formatter.too_deep ≡ none) (k : s.formatter.skip_next ≡ false) (v : overflows o t ts (led s).formatter ≡ false) where
    after_is : (run (turn o i t ts) s).formatter ≡ track_fn_state t.kind (run (arm o i t ts) (led s)).formatter
    after_is = ap (λ (z : State). z.formatter) (turn_led s d k ∙ ap (λ z. cond z (run (update (set_too_deep (some i))) (led s)) (run armed (led s))) v) ∙ armed_is (led s)

    led_skip : (led s).formatter.skip_next ≡ false
    unfolding run
    led_skip = (lead-same o t.leading s).skip_next ∙ k

    led_deep : (led s).formatter.too_deep ≡ none
    unfolding run
    led_deep = (lead-same o t.leading s).too_deep ∙ d

    pub turn-shallow : (run (turn o i t ts) s).formatter.too_deep ≡ none
    turn-shallow = ap (λ (f : Formatter). f.too_deep) after_is ∙ arm-deep o i t ts (led s) ∙ led_deep

    pub turn_skip : (run (turn o i t ts) s).formatter.skip_next ≡ (eqb t.kind LeftBrace && is_at (run (turn o i t ts) s).formatter.prev RightBrace)
    turn_skip =
        ap (λ (f : Formatter). f.skip_next) after_is
        ∙ arm_skip o i t ts (led s) led_skip
        ∙ ap (λ (f : Formatter). eqb t.kind LeftBrace && is_at f.prev RightBrace) (sym after_is)

    -- Where the next token was taken along, there is one.
    pub turn-taken : (run (turn o i t ts) s).formatter.skip_next ≡ true → next_is RightBrace ts ≡ true
    turn-taken e =
        let a = sym turn_skip ∙ e in
        let b : t.kind ≡ LeftBrace = eqb-true t.kind LeftBrace (and_left (eqb t.kind LeftBrace) (is_at (run (turn o i t ts) s).formatter.prev RightBrace) a) in
        let c = arm-taken o i t ts (led s) led_skip (sym (ap (λ (f : Formatter). f.skip_next) after_is) ∙ e) in
        and_right (led s).formatter.record_pending (next_is RightBrace ts) (rw b at c)
