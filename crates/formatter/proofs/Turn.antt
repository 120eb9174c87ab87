-- The turn of a token without trivia: its arm, and `fn_state` after it. Assumes nothing.
use mathlib.Core.Bool.{Bool, true, false, cond, and-false}
use mathlib.Core.List.{List, []}
use mathlib.Core.Option.{none, some}
use mathlib.Core.Path.{◌≡◌, refl, ap, ◌∙◌}
use Prim.Native.Nat.{ℕ}
use lib.Dec.{eqb, leb}
use lib.ListN.{length}
use Rattle.rows.specs.Kinds.{Newline, LeftParen, LeftBracket, Fn, Identifier}
use Rattle.rows.specs.Options.{Options}
use Rattle.rows.specs.Token.{Token, Trivia}
use Rattle.lookahead.specs.Measure.{is_empty}
use Rattle.definition.specs.Formatter.{Formatter, set_at_line_start, set_prev, set_prev_minus_is_unary, set_fn_state, set_record_pending, set_just_closed_inline, set_inline_close, set_returned}
use Rattle.definition.specs.Act.{State, state, Act, update, ◌⨾◌, choose, nothing, if, run}
use Rattle.definition.specs.Emit.{is_some, fn_state_after, track_fn_state, leading_trivia, trailing_trivia}
use Rattle.definition.specs.PushToken.{arm, take_inline_close, overflows, turn}

pub same : {A : Type 0} (b : Bool) {x : A} → cond b x x ≡ x
same true = refl
same false = refl

-- ---- acts, one after the other

module _ (s : State) where
  pub chosen_not : (t : State → Bool) (a b : Act) → t s ≡ false → run (choose t a b) s ≡ run b s
  unfolding run
  chosen_not t a b e = rw e

  in_turn_lem : (a b : Act) → run (a ⨾ b) s ≡ run b (run a s)
  unfolding run
  in_turn_lem a b = refl

  bare-lead :
      (o : Options) (lead : List Trivia) (x : Act) → lead ≡ []
      → run (leading_trivia o lead ⨾ update (take_inline_close (is_empty lead)) ⨾ x) s ≡ run x (state (take_inline_close true s.formatter) s.out s.commas)
  unfolding run leading_trivia
  bare-lead o lead x e = rw e

  bare_trail : (trail : List Trivia) (x : Act) → s.formatter.returned ≡ false → trail ≡ [] → run (if (λ f. f.returned) nothing (trailing_trivia trail) ⨾ x) s ≡ run x s
  unfolding run trailing_trivia
  bare_trail trail x r e = rw (r, e)

-- ---- the turn

module _ (o : Options) (i : ℕ) (t : Token) (ts : List Token) (f : Formatter) (out : List ℕ) (c : ℕ) (lead : t.leading ≡ []) (trail : t.trailing ≡ []) where
  abbrev taken : Formatter
  taken = take_inline_close true f

  no_overflow : eqb t.kind LeftParen ≡ false → eqb t.kind LeftBracket ≡ false → overflows o t ts taken ≡ false
  no_overflow p b = rw (p, b) (and-false (leb 64 (length f.break_stack)))

  abbrev rest : Act
  rest = if (λ g. g.returned) nothing (trailing_trivia t.trailing) ⨾ update (track_fn_state t.kind)

  ended : (g : Formatter) (text : List ℕ) → g.returned ≡ false → run rest (state g text c) ≡ state (track_fn_state t.kind g) text c
  unfolding run
  ended g text e = bare_trail (state g text c) t.trailing (update (track_fn_state t.kind)) e trail

  -- The turn, by what the arm does.
  pub by_arm_lem : {g : Formatter} {text : List ℕ} → f.too_deep ≡ none → f.skip_next ≡ false → eqb t.kind LeftParen ≡ false → eqb t.kind LeftBracket ≡ false
      → run (arm o i t ts) (state taken out c) ≡ state g text c → g.returned ≡ false
      → run (turn o i t ts) (state f out c) ≡ state (track_fn_state t.kind g) text c
  by_arm_lem {g} {text} d s a b r e =
      chosen_not (state f out c) (λ s. is_some s.formatter.too_deep) _ _ (rw d)
      ∙ chosen_not (state f out c) (λ s. s.formatter.skip_next) _ _ s
      ∙ bare-lead (state f out c) o t.leading _ lead
      ∙ chosen_not (state taken out c) (λ s. overflows o t ts s.formatter) _ _ (no_overflow a b)
      ∙ in_turn_lem (state taken out c) (arm o i t ts) rest
      ∙ ap (run rest) r
      ∙ ended g text e

-- ---- the formatter after it

module _ (f : Formatter) (k : ℕ) where
  -- The formatter with the locals that a token sets, the fields that it may change, and the last kind.
  abbrev pub with : Bool → Bool → ℕ → Bool → Bool → Bool → Formatter
  with start unary fn pending closed inline =
      set_inline_close inline (set_just_closed_inline closed (set_record_pending pending (set_fn_state fn (set_prev_minus_is_unary unary (set_at_line_start start (set_prev (some k) (set_returned false f)))))))

  pub with_same : {a a' b b' : Bool} {n n' : ℕ} {d d' e e' g g' : Bool} → a ≡ a' → b ≡ b' → n ≡ n' → d ≡ d' → e ≡ e' → g ≡ g' → with a b n d e g ≡ with a' b' n' d' e' g'
  with_same a b n d e g = rw (a, b, n, d, e, g)

  pub fn_kept : f.fn_state ≡ 0 → eqb k Fn ≡ false → eqb k Newline ≡ false → cond (is_some f.sig_break_depth) f.fn_state (fn_state_after k f) ≡ f.fn_state
  fn_kept z a b = rw (z, a, b, and-false (eqb k Identifier)) (same (is_some f.sig_break_depth))
