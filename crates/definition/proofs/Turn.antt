-- One token of a plain list keeps what the walk keeps. Assumes nothing.
use Rattle.std.proofs.Common.{◌≡◌, ℕ, ◌-◌, ◌<◌, Bool, true, false, cond, not, ◌&&◌, ◌||◌, eqb, List, [], ◌∷◌, ◌++◌, sym, refl, ◌∙◌, append-nil, arith, eqb-true}
use mathlib.Core.Option.{Option, none, some}
use borrow.Author.Tests.{not-true}
use Rattle.rows.specs.Kinds.{Eof, Newline, LeftBrace, RightBrace, LeftParen, RightParen, RightBracket, Comma, Else, Record}
use Rattle.rows.specs.Options.{Options}
use Rattle.rows.specs.Token.{Trivia, Token}
use Rattle.lookahead.specs.Measure.{is_empty}
use Rattle.pieces.proofs.Whole.{clear}
use Rattle.pieces.proofs.Written.{written-gap}
use Rattle.shared.proofs.Logic.{impossible, impossible', and_left, and_right, or_cases, split}
use Rattle.definition.specs.Formatter.{Formatter}
use Rattle.definition.specs.Act.{State, state, Act, run, update, ◌⨾◌, nothing, if}
use Rattle.shared.specs.Bytes.{line_feed}
use Rattle.definition.specs.Emit.{is_some, track_fn_state, leading_trivia, trailing_trivia}
use Rattle.definition.specs.Arms.{newline_arm}
use Rattle.lookahead.specs.Measure.{next_is}
use Rattle.definition.specs.PushToken.{take_inline_close, arm, push_token, turn}
use Rattle.definition.specs.Plain.{is_mute, reads_whole, may_meet, no_dot_after, clause₁, clause₂, clause₃, clause₄, clause₅, clause₆, clause₇}
use Rattle.definition.proofs.PlainScan.{Seen, see, fits}
use Rattle.definition.proofs.After.{After, chosen, in_turn, first, last, implied}
use Rattle.definition.proofs.Beside.{Sound}
use Rattle.definition.proofs.Inv.{free, WroteBy, Wrote, Keeps, Kept, Inv, feed}
use Rattle.definition.proofs.Arms.{Arm, other_arm_lem, else_arm_lem, comma-arm, left_bracket_arm_lem, left_paren-arm, right_paren-arm, right_bracket-arm}
use Rattle.definition.proofs.Braces.{Closed, Opened, right_brace-arm, left_brace-arm, scan_mute, scan_other, scan_close}

-- ---- what the plain mark says of a token

empty : (ts : List Trivia) → is_empty ts ≡ true → ts ≡ []
empty [] e = refl
empty (t ∷ ts) e = impossible' e

-- seven tests that all hold
record Seven (a b c d e f g : Bool) : Type 0 where
  one : a ≡ true
  two : b ≡ true
  three : c ≡ true
  four : d ≡ true
  five : e ≡ true
  six : f ≡ true
  seven : g ≡ true

all_seven : (a b c d e f g : Bool) → a && (b && (c && (d && (e && (f && g))))) ≡ true → Seven a b c d e f g
all_seven true true true true true true true h = record { one = refl; two = refl; three = refl; four = refl; five = refl; six = refl; seven = refl }
all_seven true true true true true true false h = impossible' h
all_seven true true true true true false g h = impossible' h
all_seven true true true true false f g h = impossible' h
all_seven true true true false e f g h = impossible' h
all_seven true true false d e f g h = impossible' h
all_seven true false c d e f g h = impossible' h
all_seven false b c d e f g h = impossible' h

-- what a clause says where its token is written, and where it is a `{`
written : (m x : Bool) → m || x ≡ true → m ≡ false → x ≡ true
written m x e f = rw f at e

at_brace : (b x : Bool) → not (b && x) ≡ true → b ≡ true → x ≡ false
at_brace b x e f = not-true x (rw f at e)

module _ (q : Seen) (t : Token) (ts : List Token) (e : fits q t ts ≡ true) where
  -- the clauses at t, in the specification's order
  abbrev Clauses : Type 0
  Clauses =
      Seven (clause₁ t) (clause₂ t) (clause₃ t) (clause₄ q.last t) (clause₅ q.last t) (clause₆ q.comma t) (clause₇ q.armed t ts)

  clauses : Clauses
  clauses = all_seven (clause₁ t) (clause₂ t) (clause₃ t) (clause₄ q.last t) (clause₅ q.last t) (clause₆ q.comma t) (clause₇ q.armed t ts) e

  no_leading : t.leading ≡ []
  no_leading = empty t.leading (and_left (is_empty t.leading) _ clauses.one)

  no_trailing : t.trailing ≡ []
  no_trailing = empty t.trailing (and_right (is_empty t.leading) _ clauses.one)

  sound : is_mute t ≡ false → Sound t
  sound m = record { fixed = clauses.two; reads = written (is_mute t) (reads_whole t.lexeme) clauses.three m }

  meets : is_mute t ≡ false → may_meet q.last t ≡ true
  meets m = written (is_mute t) (may_meet q.last t) clauses.four m

  undotted : is_mute t ≡ false → no_dot_after q.last t ≡ true
  undotted m = written (is_mute t) (no_dot_after q.last t) clauses.five m

  no_comma : t.kind ≡ LeftBrace → q.comma ≡ false
  no_comma k = at_brace (eqb t.kind LeftBrace) q.comma clauses.six (rw k)

  no_empty : t.kind ≡ LeftBrace → q.armed ≡ true → next_is RightBrace ts ≡ false
  no_empty k a = rw a at (at_brace (eqb t.kind LeftBrace) (q.armed && next_is RightBrace ts) clauses.seven (rw k))

-- ---- tokens that write nothing

record MuteBy (xs : List (List ℕ)) (l : Option Token) (f : Formatter) (out : List ℕ) (commas : ℕ) (at_line_start : Bool) (prev : Option ℕ) (inline_depth : ℕ) (record_pending skip_next : Bool) : Type 0 where
  wrote : WroteBy xs l out commas at_line_start prev
  inline : inline_depth ≡ f.inline_depth
  pending : record_pending ≡ f.record_pending
  skip : skip_next ≡ f.skip_next

abbrev Muted : List (List ℕ) → Option Token → Formatter → State → Type 0
Muted xs l f s = MuteBy xs l f s.out s.commas s.formatter.at_line_start s.formatter.prev s.formatter.inline_depth s.formatter.record_pending s.formatter.skip_next

module _ (xs : List (List ℕ)) (l : Option Token) (s : State) (ω : Wrote xs l s) where
  passed : {out : List ℕ} {b : Bool} {p : Option ℕ} → WroteBy xs l out s.commas b p → MuteBy xs l s.formatter out s.commas b p s.formatter.inline_depth s.formatter.record_pending s.formatter.skip_next
  passed w = record { wrote = w; inline = refl; pending = refl; skip = refl }

  fed : {b : Bool} {p : Option ℕ} → WroteBy xs l (s.out ++ line_feed) s.commas b p
  fed = record { left = clear; written = written-gap ω.written line_feed feed; stands = free }

  newline_arm_lem : (i : ℕ) (ts : List Token) → After (Muted xs l s.formatter) (newline_arm i ts) s
  unfolding run newline_arm
  newline_arm_lem i ts =
      chosen (λ b. record { holds = passed ω })
      (λ b. chosen (λ b. record { holds = passed ω })
      (λ b. chosen (λ b. record { holds = passed ω })
      (λ b. chosen (λ b. record { holds = passed fed })
      (λ b. chosen (λ b. record { holds = passed fed }) (λ b. record { holds = passed ω })))))

-- ---- what is kept behind each sort of token

no_more : {C : Type 0} (q : Seen) (t : Token) (ts : List Token) (f : Formatter) → Kept q (t ∷ ts) f → is_mute t ≡ true → 0 < f.inline_depth → C
no_more q t ts f κ m n = let r = κ.block n in impossible (sym m ∙ scan_mute r.0 t ts r.2)

still_armed : (a b p : Bool) → b ≡ false → p ≡ true → cond a true (not b && p) ≡ true
still_armed true b p e f = refl
still_armed false b p e f = rw (e, f)

module _ (q : Seen) (t : Token) (ts : List Token) (f : Formatter) (κ : Kept q (t ∷ ts) f) where
  kept_mute : is_mute t ≡ true → eqb t.kind LeftBrace ≡ false → {n : ℕ} {a b p d : Bool} → n ≡ f.inline_depth → p ≡ f.record_pending → d ≡ f.skip_next → Keeps (see q t) ts n a b p d
  kept_mute m two e g h = record {
    block = λ n. no_more q t ts f κ m (rw e at n);
    start = λ n x y. no_more q t ts f κ m (rw e at n);
    armed = λ x. still_armed (eqb t.kind Record) (eqb t.kind LeftBrace) q.armed two (κ.armed (sym g ∙ x));
    unskipped = h ∙ κ.unskipped;
  }

  kept_arm : (xs : List (List ℕ)) (s : State) → eqb t.kind Eof ≡ false → eqb t.kind LeftBrace ≡ false → eqb t.kind RightBrace ≡ false → Arm xs t f s → Kept (see q t) ts s.formatter
  kept_arm xs s n₀ two three α = record {
    block = λ n. let r = κ.block (rw α.inline at n) in (r.0, rw α.inline r.1, scan_other r.0 t ts r.2 two three);
    start = λ n x y. rw n₀ (or_cases (eqb f.inline_depth 0) (eqb t.kind Comma) (α.start x) (λ z. let u = eqb-true f.inline_depth 0 z in absurd (omega (arith, rw α.inline at n))) (λ z. z));
    armed = λ x. or_cases (eqb t.kind Record) f.record_pending (α.pending x) (λ z. rw z) (λ z. still_armed (eqb t.kind Record) (eqb t.kind LeftBrace) q.armed two (κ.armed z));
    unskipped = α.skip ∙ κ.unskipped;
  }

  kept_closed : (xs : List (List ℕ)) (s : State) → t.kind ≡ RightBrace → Closed xs t f s → Kept (see q t) ts s.formatter
  kept_closed xs s k α = record {
    block = λ n.
        let m : 0 < f.inline_depth - 1 = rw α.inline at n in
        let r = κ.block (omega arith) in
        let c = scan_close r.0 t ts r.2 k in
        split (eqb (r.0 - 1) 0) (λ z. absurd (omega (arith, r.1, eqb-true (r.0 - 1) 0 z)))
        (λ z. (r.0 - 1, omega (arith, r.1, α.inline), rw z at c));
    start = λ n x y. impossible (sym x ∙ α.start);
    armed = λ x. still_armed (eqb t.kind Record) (eqb t.kind LeftBrace) q.armed (rw k) (κ.armed (sym α.pending ∙ x));
    unskipped = α.skip ∙ κ.unskipped;
  }

  kept_opened : (xs : List (List ℕ)) (s : State) → Opened xs t ts f.skip_next s → Kept (see q t) ts s.formatter
  kept_opened xs s α = record {
    block = α.block;
    start = λ n x y. absurd (α.start n x y);
    armed = λ x. impossible (sym x ∙ α.pending);
    unskipped = α.skip ∙ κ.unskipped;
  }

-- ---- a token

-- the lexeme that a token adds
abbrev pub own : Token → List (List ℕ)
own t = cond (is_mute t) [] (t.lexeme ∷ [])

-- what is to hold behind the token t
abbrev pub Next : Seen → Token → List Token → List (List ℕ) → State → Type 0
Next q t ts xs s = s.formatter.too_deep ≡ none → Inv (see q t) ts (xs ++ own t) s

module _ (q : Seen) (t : Token) (xs : List (List ℕ)) where
  loud : is_mute t ≡ false → {out : List ℕ} {m : ℕ} {b : Bool} {p : Option ℕ} → WroteBy (xs ++ (t.lexeme ∷ [])) (some t) out m b p → WroteBy (xs ++ own t) (see q t).last out m b p
  loud e w = rw e w

  still : is_mute t ≡ true → {out : List ℕ} {m : ℕ} {b : Bool} {p : Option ℕ} → WroteBy xs q.last out m b p → WroteBy (xs ++ own t) (see q t).last out m b p
  still e w = rw (e, append-nil) w

at_eof : (t : Token) → eqb t.kind Eof ≡ true → (is_mute t ≡ true) × (eqb t.kind LeftBrace ≡ false)
at_eof t e = let k : t.kind ≡ Eof = eqb-true t.kind Eof e in (rw k, rw k)

at_newline : (t : Token) → eqb t.kind Newline ≡ true → (is_mute t ≡ true) × (eqb t.kind LeftBrace ≡ false)
at_newline t e = let k : t.kind ≡ Newline = eqb-true t.kind Newline e in (rw k, rw k)

-- no trailing trivia are written
trailed : {P : State → Type 0} {s : State} (t : Token) → t.trailing ≡ [] → P s → After P (trailing_trivia t.trailing) s
unfolding run trailing_trivia
trailed t z p = record { holds = rw z p }

led : {P : State → Type 0} {a : Act} {s : State} (o : Options) (t : Token) → t.leading ≡ [] → After P a s → After P (leading_trivia o t.leading ⨾ a) s
unfolding run leading_trivia
led o t z p = record { holds = rw z p.holds }

module _ (o : Options) (i : ℕ) (q : Seen) (t : Token) (ts : List Token) (φ : fits q t ts ≡ true) (xs : List (List ℕ)) (s : State) (ω : Wrote xs q.last s) (κ : Kept q (t ∷ ts) s.formatter) where
  mute-next : is_mute t ≡ true → eqb t.kind LeftBrace ≡ false → (s' : State) → Muted xs q.last s.formatter s' → Next q t ts xs s'
  mute-next m two s' μ d = (still q t xs m μ.wrote, kept_mute q t ts s.formatter κ m two μ.inline μ.pending μ.skip)

  module _ (n₀ : eqb t.kind Eof ≡ false) (n₁ : eqb t.kind Newline ≡ false) where
    m : is_mute t ≡ false
    m = rw (n₀, n₁)

    τ : Sound t
    τ = sound q t ts φ m

    μ : may_meet q.last t ≡ true
    μ = meets q t ts φ m

    δ : no_dot_after q.last t ≡ true
    δ = undotted q t ts φ m

    arm-next : eqb t.kind LeftBrace ≡ false → eqb t.kind RightBrace ≡ false → (s' : State) → Arm xs t s.formatter s' → Next q t ts xs s'
    arm-next two three s' α d = (loud q t xs m α.wrote, kept_arm q t ts s.formatter κ xs s' n₀ two three α)

    closed-next : t.kind ≡ RightBrace → (s' : State) → Closed xs t s.formatter s' → Next q t ts xs s'
    closed-next k s' α d = (loud q t xs m α.wrote, kept_closed q t ts s.formatter κ xs s' k α)

    opened-next : (s' : State) → Opened xs t ts s.formatter.skip_next s' → Next q t ts xs s'
    opened-next s' α d = (loud q t xs m α.wrote, kept_opened q t ts s.formatter κ xs s' α)

  abbrev l : Option Token
  l = q.last

  arms : After (Next q t ts xs) (arm o i t ts) s
  unfolding run
  arms =
      chosen (λ e. record { holds = mute-next (at_eof t e).0 (at_eof t e).1 s (passed xs l s ω ω) })
      (λ n₀. chosen (λ e. implied (mute-next (at_newline t e).0 (at_newline t e).1) (newline_arm_lem xs l s ω i ts))
      (λ n₁. chosen (λ e. let k = eqb-true t.kind RightBrace e in implied (closed-next n₀ n₁ k) (right_brace-arm o t xs l s ω (τ n₀ n₁) k))
      (λ n₃. chosen (λ e. let k = eqb-true t.kind LeftBrace e in implied (opened-next n₀ n₁) (left_brace-arm o t k xs l (τ n₀ n₁) i ts q s ω κ (no_comma q t ts φ k) (no_empty q t ts φ k)))
      (λ n₂. chosen (λ e. implied (arm-next n₀ n₁ n₂ n₃) (left_paren-arm o t xs l s ω (τ n₀ n₁) (μ n₀ n₁) (δ n₀ n₁) i ts (eqb-true t.kind LeftParen e)))
      (λ n₄. chosen (λ e. implied (arm-next n₀ n₁ n₂ n₃) (left_bracket_arm_lem o t xs l s ω (τ n₀ n₁) (μ n₀ n₁) (δ n₀ n₁) i ts))
      (λ n₆. chosen (λ e. implied (arm-next n₀ n₁ n₂ n₃) (right_paren-arm o t xs l s ω (τ n₀ n₁) (μ n₀ n₁) (δ n₀ n₁) (eqb-true t.kind RightParen e)))
      (λ n₅. chosen (λ e. implied (arm-next n₀ n₁ n₂ n₃) (right_bracket-arm o t xs l s ω (τ n₀ n₁) (μ n₀ n₁) (δ n₀ n₁) (eqb-true t.kind RightBracket e)))
      (λ n₇. chosen (λ e. implied (arm-next n₀ n₁ n₂ n₃) (comma-arm o t xs l s ω (τ n₀ n₁) (μ n₀ n₁) (δ n₀ n₁) i (eqb-true t.kind Comma e)))
      (λ n₈. chosen (λ e. implied (arm-next n₀ n₁ n₂ n₃) (else_arm_lem o t xs l s ω (τ n₀ n₁) (μ n₀ n₁) (δ n₀ n₁) (eqb-true t.kind Else e)))
      (λ n₉. implied (arm-next n₀ n₁ n₂ n₃) (other_arm_lem o t xs l s ω (τ n₀ n₁) (μ n₀ n₁) (δ n₀ n₁))))))))))))

refusing : {C : Type 0} {i : ℕ} → some i ≡ none → C
refusing e = let y : ◌≡◌ {A = ℕ} 0 1 = cc in absurd (omega arith)

not_some : {C : Type 0} (d : Option ℕ) → is_some d ≡ true → d ≡ none → C
not_some d e f = impossible' (rw f at e)

module _ (o : Options) (i : ℕ) (q : Seen) (t : Token) (ts : List Token) (φ : fits q t ts ≡ true) (xs : List (List ℕ)) (s : State) (ω : Wrote xs q.last s) (κ : Kept q (t ∷ ts) s.formatter) where
  abbrev taken : State
  taken = state (take_inline_close (is_empty t.leading) s.formatter) s.out s.commas

  -- behind the arm: the trailing trivia, if the arm did not return, and the state of `fn`
  tracked : (s' : State) → Next q t ts xs s' → After (Next q t ts xs) (if (λ f. f.returned) nothing (trailing_trivia t.trailing) ⨾ update (track_fn_state t.kind)) s'
  unfolding run
  tracked s' n = in_turn (last s' (chosen (λ b. record { holds = n }) (λ b. trailed t (no_trailing q t ts φ) n)))

  push_token_keeps : After (Next q t ts xs) (push_token o i t ts) s
  unfolding run
  push_token_keeps =
      led o t (no_leading q t ts φ) (first s (chosen
      (λ b. record { holds = λ e. refusing e })
      (λ b. in_turn (implied tracked (arms o i q t ts φ xs taken ω κ)))))

  pub turn_keeps : After (Next q t ts xs) (turn o i t ts) s
  unfolding run
  turn_keeps =
      chosen (λ b. record { holds = λ e. not_some s.formatter.too_deep b e })
      (λ b. chosen (λ b. impossible (sym b ∙ κ.unskipped)) (λ b. push_token_keeps))
