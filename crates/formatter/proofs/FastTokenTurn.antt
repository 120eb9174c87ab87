-- What `push_token` does with a fast token. Assumes nothing.
use mathlib.Core.Bool.{Bool, true, false, cond, not, ◌&&◌, ◌||◌, and-false}
use mathlib.Core.List.{List, [], ◌++◌, append_assoc}
use mathlib.Core.Option.{some, map}
use mathlib.Core.Path.{◌≡◌, refl, sym, ap, ◌∙◌}
use Prim.Native.Nat.{ℕ, ◌-◌, ◌*◌, ◌≤◌, ◌<◌}
use native.Mathlib.Omega.{arith}
use borrow.Author.Tests.{ne_eqb, eqb-true, ltb-true, lt-leb}
use lib.Dec.{eqb, leb, ltb}
use lib.ListN.{replicate}
use Rattle.shared.proofs.Logic.{split, impossible', or_cases, or_left, or_right}
use Rattle.shared.proofs.Below.{all_below, below}
use Rattle.rows.specs.Kinds.{Eof, Newline, LeftBrace, RightBrace, LeftParen, RightParen, LeftBracket, RightBracket, Comma, Hash, Minus, Else, Fn, Record, Identifier, Other}
use Rattle.rows.specs.Options.{Options}
use Rattle.rows.specs.Token.{Token}
use Rattle.definition.specs.Formatter.{Formatter, set_at_line_start, set_prev, set_prev_minus_is_unary, set_fn_state, set_record_pending, set_just_closed_inline, set_group_depth, set_sig_break_depth, set_inline_close, set_returned}
use Rattle.definition.specs.Act.{State, state, Act, if, run}
use Rattle.definition.specs.Emit.{is_some, is_at, fn_state_after, ended_by, track_fn_state, token_gap, track_minus, push_lexeme}
use Rattle.spaces.specs.Space.{space_after}
use Rattle.definition.specs.Arms.{at_record_fields, in_broken_list, else_on_new_line, close_group, close_call, close_signature, right_paren_arm, right_bracket_arm, comma_arm, else_arm, other_arm}
use Rattle.definition.specs.PushToken.{arm, take_inline_close, turn}
use Rattle.spaces.specs.Between.{loose_after, bit, spaces}
use Rattle.spaces.proofs.Pairs.{spaces_are, loose_other}
use Rattle.formatter.specs.FastTokens.{FastKinds, is_closer, fast_kind_bits, space_before, FastState, fn_after, pending_after, group_after, changing_kinds, fast_state_after, BeforeFastTokens, after_fast_tokens}
use Rattle.formatter.proofs.Gaps.{token_gap_lem}
use Rattle.formatter.proofs.Turn.{same, chosen_not, by_arm_lem}

-- ---- the kinds, by the bits of a number: one test, computed at every kind

-- Whether tokens of the kind k are fast: those five by the state, and of the others all above Comma.
unfoldable pub is_fast_kind : FastKinds → ℕ → Bool
is_fast_kind t k =
    cond (eqb k Comma) t.commas
    (cond (eqb k Else) t.elses (cond (eqb k Fn) t.fns (cond (is_closer k) t.closers (ltb Comma k))))

abbrev agree : FastKinds → ℕ → Bool
agree t k = eqb (bit (fast_kind_bits t) k) (cond (is_fast_kind t k) 1 0)

every : (a b c d : Bool) → all_below 35 (agree (record { commas = a; elses = b; fns = c; closers = d })) ≡ true
unfolding is_fast_kind
every true true true true = refl
every true true true false = refl
every true true false true = refl
every true true false false = refl
every true false true true = refl
every true false true false = refl
every true false false true = refl
every true false false false = refl
every false true true true = refl
every false true true false = refl
every false true false true = refl
every false true false false = refl
every false false true true = refl
every false false true false = refl
every false false false true = refl
every false false false false = refl

pub kinds_are : (t : FastKinds) (k : ℕ) → k ≤ Other → bit (fast_kind_bits t) k ≡ cond (is_fast_kind t k) 1 0
kinds_are t k h = eqb-true _ _ (below 35 (agree t) (every t.commas t.elses t.fns t.closers) k (omega arith))

-- A kind whose bit is set is fast.
pub fast_kind : (t : FastKinds) (k : ℕ) → k ≤ Other → (bit (fast_kind_bits t) k ≡ 0 → ⊥) → is_fast_kind t k ≡ true
fast_kind t k h n = split (is_fast_kind t k) (λ e. e) (λ e. absurd (n (rw e at (kinds_are t k h))))

-- A fast kind is none of those that are not fast.
never : (t : FastKinds) (k j : ℕ) → is_fast_kind t k ≡ true → is_fast_kind t j ≡ false → eqb k j ≡ false
never t k j w e = ne_eqb k j (λ x. impossible' (sym e ∙ (rw x at w)))

-- Before a fast token, the spaces that the code finds are the definition's.
pub fast_spaces :
    (t : FastKinds) (unary : Bool) (p k : ℕ) → p ≤ Other → k ≤ Other → is_fast_kind t k ≡ true
    → spaces (loose_after Other unary) p k ≡ cond (space_after (some p) unary k) 1 0
unfolding is_fast_kind
fast_spaces t unary p k g h w =
    ap (λ loose. spaces loose p k) (loose_other k unary (λ e. impossible' (rw e at w)) (λ e. impossible' (rw e at w)) (λ e. impossible' (rw e at w)))
    ∙ spaces_are p k unary g h

-- The fast kinds before which a space may stand are those from Hash on: one test, computed at every kind.
abbrev opens_or_spaces : ℕ → Bool
opens_or_spaces k =
    eqb k Eof
    || (eqb k Newline
    || (eqb k LeftBrace
    || (eqb k RightBrace
    || (eqb k LeftParen
    || (eqb k LeftBracket || eqb (bit 0x7_ffff_805f k) (cond (ltb k Hash) 0 1))))))

from_hash : all_below 35 opens_or_spaces ≡ true
from_hash = refl

space-bit : (t : FastKinds) (k : ℕ) → k ≤ Other → is_fast_kind t k ≡ true → bit 0x7_ffff_805f k ≡ cond (ltb k Hash) 0 1
unfolding is_fast_kind
space-bit t k h w =
    eqb-true _ _
    (rw (never t k Eof w refl, never t k Newline w refl, never t k LeftBrace w refl, never t k RightBrace w refl, never t k LeftParen w refl, never t k LeftBracket w refl)
    at (below 35 opens_or_spaces from_hash k (omega arith)))

times : (n : ℕ) (b : Bool) → cond b 0 n ≡ n * cond b 0 1
times n true = omega arith
times n false = omega arith

pub space-before : (t : FastKinds) (loose p k : ℕ) → k ≤ Other → is_fast_kind t k ≡ true → space_before (bit loose p) k ≡ spaces loose p k
space-before t loose p k h w = times (bit loose p) (ltb k Hash) ∙ ap (λ n. bit loose p * n) (sym (space-bit t k h w))

pub space-few : (spaced k : ℕ) → spaced < 2 → space_before spaced k < 2
space-few spaced k h = split (ltb k Hash) (λ e. rw e (omega arith)) (λ e. rw e h)

-- ---- the kinds that change a field, by the bits of a number

abbrev changes : ℕ → Bool
changes k = is_closer k || (eqb k Minus || (eqb k Fn || eqb k Record))

some_kinds : all_below 35 (λ k. eqb (bit 0x34_00a0 k) (cond (changes k) 1 0)) ≡ true
some_kinds = refl

all_kinds : all_below 35 (λ k. eqb (bit 0x7_ffff_ffff k) 1) ≡ true
all_kinds = refl

changes_not : (k : ℕ) → k ≤ Other → bit 0x34_00a0 k ≡ 0 → changes k ≡ false
changes_not k h z =
    let e : bit 0x34_00a0 k ≡ cond (changes k) 1 0 = eqb-true _ _ (below 35 (λ k. eqb (bit 0x34_00a0 k) (cond (changes k) 1 0)) some_kinds k (omega arith)) in
    split (changes k) (λ c. let w : ◌≡◌ {A = ℕ} 0 1 = sym z ∙ rw c at e in absurd (omega arith)) (λ c. c)

kept_outside : (p k : ℕ) (unary : Bool) (group : ℕ) → changes k ≡ false
    → fast_state_after p k (record { fn_state = 0; record_pending = false; prev_minus_is_unary = unary; group_depth = group })
    ≡ record { fn_state = 0; record_pending = false; prev_minus_is_unary = unary; group_depth = group }
kept_outside p k unary group c =
    let q : is_closer k ≡ false = or_left (is_closer k) (eqb k Minus || (eqb k Fn || eqb k Record)) c in
    let d : eqb k Minus || (eqb k Fn || eqb k Record) ≡ false = or_right (is_closer k) (eqb k Minus || (eqb k Fn || eqb k Record)) c in
    let m : eqb k Minus ≡ false = or_left (eqb k Minus) (eqb k Fn || eqb k Record) d in
    let e : eqb k Fn || eqb k Record ≡ false = or_right (eqb k Minus) (eqb k Fn || eqb k Record) d in
    let f : eqb k Fn ≡ false = or_left (eqb k Fn) (eqb k Record) e in
    let r : eqb k Record ≡ false = or_right (eqb k Fn) (eqb k Record) e in
    rw (q, m, f, r, and-false (eqb k Identifier)) (ap (λ b. record { fn_state = 0; record_pending = b; prev_minus_is_unary = unary; group_depth = group }) (same (leb k Comma || eqb k Else)))

none_left : (k : ℕ) → k ≤ Other → bit 0x7_ffff_ffff k ≡ 0 → ⊥
none_left k h z =
    let e : bit 0x7_ffff_ffff k ≡ 1 = eqb-true _ _ (below 35 (λ k. eqb (bit 0x7_ffff_ffff k) 1) all_kinds k (omega arith)) in
    let w : ◌≡◌ {A = ℕ} 0 1 = sym z ∙ e in omega arith

kept_by : (p k fn : ℕ) (pending unary : Bool) (group : ℕ) → k ≤ Other → bit (changing_kinds fn pending) k ≡ 0
    → fast_state_after p k (record { fn_state = fn; record_pending = pending; prev_minus_is_unary = unary; group_depth = group })
    ≡ record { fn_state = fn; record_pending = pending; prev_minus_is_unary = unary; group_depth = group }
kept_by p k fn true unary group h z = absurd (none_left k h z)
kept_by p k fn false unary group h z =
    split (eqb fn 0) (λ e. rw (eqb-true fn 0 e) (kept_outside p k unary group (changes_not k h (rw e at z)))) (λ e. absurd (none_left k h (rw e at z)))

-- A kind that changes no field.
pub kept : (p k : ℕ) (m : FastState) → k ≤ Other → bit (changing_kinds m.fn_state m.record_pending) k ≡ 0 → fast_state_after p k m ≡ m
kept p k m h z = kept_by p k m.fn_state m.record_pending m.prev_minus_is_unary m.group_depth h z

-- ---- the arm

module _ (o : Options) (i : ℕ) (t : Token) (ts : List Token) (s : State) (ks : FastKinds) (h : is_fast_kind ks t.kind ≡ true) where
  abbrev after_openers : Act
  after_openers =
      if (λ f. eqb t.kind RightParen) (right_paren_arm o t)
      (if (λ f. eqb t.kind RightBracket) (right_bracket_arm o t)
      (if (λ f. eqb t.kind Comma) (comma_arm o i t)
      (if (λ f. eqb t.kind Else) (else_arm o t)
      (other_arm o t))))

  past_openers : run (arm o i t ts) s ≡ run after_openers s
  unfolding is_fast_kind
  past_openers =
      chosen_not s _ _ _ (never ks t.kind Eof h refl) ∙ chosen_not s _ _ _ (never ks t.kind Newline h refl) ∙ chosen_not s _ _ _ (never ks t.kind RightBrace h refl)
      ∙ chosen_not s _ _ _ (never ks t.kind LeftBrace h refl) ∙ chosen_not s _ _ _ (never ks t.kind LeftParen h refl) ∙ chosen_not s _ _ _ (never ks t.kind LeftBracket h refl)

  arm_paren : t.kind ≡ RightParen → run (arm o i t ts) s ≡ run (right_paren_arm o t) s
  unfolding run
  arm_paren e = past_openers ∙ rw e

  arm_bracket : t.kind ≡ RightBracket → run (arm o i t ts) s ≡ run (right_bracket_arm o t) s
  unfolding run
  arm_bracket e = past_openers ∙ rw e

  arm-comma : t.kind ≡ Comma → run (arm o i t ts) s ≡ run (comma_arm o i t) s
  unfolding run
  arm-comma e = past_openers ∙ rw e

  arm_else : t.kind ≡ Else → run (arm o i t ts) s ≡ run (else_arm o t) s
  unfolding run
  arm_else e = past_openers ∙ rw e

  arm_other : is_closer t.kind ≡ false → eqb t.kind Comma ≡ false → eqb t.kind Else ≡ false → run (arm o i t ts) s ≡ run (other_arm o t) s
  arm_other p c e =
      past_openers ∙ chosen_not s _ _ _ (or_left (eqb t.kind RightParen) (eqb t.kind RightBracket) p) ∙ chosen_not s _ _ _ (or_right (eqb t.kind RightParen) (eqb t.kind RightBracket) p)
      ∙ chosen_not s _ _ _ c ∙ chosen_not s _ _ _ e

-- ---- the formatter after the turn

module _ (f : Formatter) (k : ℕ) where
  abbrev with : Bool → Bool → ℕ → Bool → ℕ → Bool → Bool → Formatter
  with start unary fn pending group closed inline =
      set_inline_close inline (set_just_closed_inline closed (set_group_depth group (set_record_pending pending (set_fn_state fn (set_prev_minus_is_unary unary (set_at_line_start start (set_prev (some k) (set_returned false f))))))))

  with_same :
      {a a' b b' : Bool} {n n' : ℕ} {d d' : Bool} {j j' : ℕ} {e e' g g' : Bool} → a ≡ a' → b ≡ b' → n ≡ n' → d ≡ d' → j ≡ j' → e ≡ e'
      → g ≡ g' → with a b n d j e g ≡ with a' b' n' d' j' e' g'
  with_same a b n d j e g = rw (a, b, n, d, j, e, g)

-- The definition's fields are those that the code keeps for fast tokens.
module _ {f : Formatter} {p : ℕ} {m : FastState} {ks : FastKinds} (σ : BeforeFastTokens f p m ks) where
  pub prev_is_lem : f.prev ≡ some p
  prev_is_lem = sym (ap (λ g. g.prev) σ.with_state)

  fn_is : f.fn_state ≡ m.fn_state
  fn_is = sym (ap (λ g. g.fn_state) σ.with_state)

  pending_is : f.record_pending ≡ m.record_pending
  pending_is = sym (ap (λ g. g.record_pending) σ.with_state)

  minus_is : f.prev_minus_is_unary ≡ m.prev_minus_is_unary
  minus_is = sym (ap (λ g. g.prev_minus_is_unary) σ.with_state)

  group_is : f.group_depth ≡ m.group_depth
  group_is = sym (ap (λ g. g.group_depth) σ.with_state)

  fn_after_lem : (k : ℕ) → is_fast_kind ks k ≡ true → cond (is_some f.sig_break_depth) f.fn_state (fn_state_after k f) ≡ fn_after k m.fn_state
  unfolding is_fast_kind
  fn_after_lem k h =
      split (is_some f.sig_break_depth)
      (λ e.
      let q = σ.no_fn e in
      let n : eqb k Fn ≡ false = never ks k Fn h q.0 in
      rw (e, fn_is, q.1, n, and-false (eqb k Identifier)))
      (λ e. rw (e, fn_is, never ks k Newline h refl))

-- ---- the turn

module _ (o : Options) (i : ℕ) (t : Token) (ts : List Token) (f : Formatter) (out : List ℕ) (c : ℕ) {p : ℕ} {m : FastState} (ks : FastKinds) (σ : BeforeFastTokens f p m ks) (lead : t.leading ≡ []) (trail : t.trailing ≡ []) (h : is_fast_kind ks t.kind ≡ true) where
  abbrev taken : Formatter
  taken = take_inline_close true f

  abbrev here : State
  here = state taken out c

  -- The formatter after the arm, which wrote the lexeme.
  abbrev pushed : Bool → ℕ → Formatter
  pushed pending group = set_group_depth group (ended_by t.kind (track_minus t.kind (set_record_pending pending taken)))

  ended :
      {pending : Bool} {group : ℕ} → pending ≡ pending_after t.kind m.record_pending
      → group ≡ group_after t.kind m.group_depth
      → track_fn_state t.kind (pushed pending group) ≡ after_fast_tokens true t.kind (fast_state_after p t.kind m) f
  ended e g = with_same f t.kind (sym σ.mid_line) (rw (prev_is_lem σ, minus_is σ)) (fn_after_lem σ t.kind h) e g (sym σ.not_closed) σ.not_closed

  -- The bytes: a space or none, and the lexeme.
  abbrev bytes : List ℕ
  bytes = replicate (cond (space_after (some p) m.prev_minus_is_unary t.kind) 1 0) 32 ++ t.lexeme

  gap-bytes : (pending : Bool) → (out ++ token_gap o t.kind (set_record_pending pending taken)) ++ t.lexeme ≡ out ++ bytes
  gap-bytes pending =
      ap (λ g. (out ++ g) ++ t.lexeme) (token_gap_lem o (set_record_pending pending taken) t.kind ∙ rw (σ.mid_line, prev_is_lem σ, minus_is σ))
      ∙ append_assoc out (replicate (cond (space_after (some p) m.prev_minus_is_unary t.kind) 1 0) 32) t.lexeme

  lexeme-pushed : (pending : Bool) → run (push_lexeme o t) (state (set_record_pending pending taken) out c) ≡ state (pushed pending f.group_depth) (out ++ bytes) c
  unfolding run
  lexeme-pushed pending = ap (λ l. state (pushed pending f.group_depth) l c) (gap-bytes pending)

  group-closed : run (close_group o t) here ≡ state (pushed f.record_pending (f.group_depth - 1)) (out ++ bytes) c
  unfolding run
  group-closed = ap (λ l. state (pushed f.record_pending (f.group_depth - 1)) l c) (gap-bytes f.record_pending)

  turned : {pending : Bool} {group : ℕ} → pending ≡ pending_after t.kind m.record_pending → group ≡ group_after t.kind m.group_depth
      → run (arm o i t ts) here ≡ state (pushed pending group) (out ++ bytes) c
      → run (turn o i t ts) (state f out c) ≡ state (after_fast_tokens true t.kind (fast_state_after p t.kind m) f) (out ++ bytes) c
  unfolding is_fast_kind
  turned e g r =
      by_arm_lem o i t ts f out c lead trail σ.shallow σ.no_skip (never ks t.kind LeftParen h refl) (never ks t.kind LeftBracket h refl) r refl
      ∙ ap (λ x. state x (out ++ bytes) c) (ended e g)

  -- The arm, by the kind.

  comma-turn : t.kind ≡ Comma → ks.commas ≡ true → run (turn o i t ts) (state f out c) ≡ state (after_fast_tokens true t.kind (fast_state_after p t.kind m) f) (out ++ bytes) c
  unfolding comma_arm
  comma-turn e b =
      turned (rw e (pending_is σ)) (rw e (group_is σ))
      (arm-comma o i t ts here ks h e ∙ chosen_not here (λ s. at_record_fields s.formatter || in_broken_list s.formatter) _ _ (σ.unbroken b) ∙ lexeme-pushed f.record_pending)

  no_break : ks.elses ≡ true → else_on_new_line taken ≡ false
  no_break b = rw (prev_is_lem σ, σ.no_brace b, and-false (not f.just_closed_inline), and-false (not f.in_record), and-false (eqb f.inline_depth 0))

  else_turn : t.kind ≡ Else → ks.elses ≡ true → run (turn o i t ts) (state f out c) ≡ state (after_fast_tokens true t.kind (fast_state_after p t.kind m) f) (out ++ bytes) c
  unfolding else_arm
  else_turn e b =
      turned (rw e (pending_is σ)) (rw e (group_is σ))
      (arm_else o i t ts here ks h e ∙ chosen_not here (λ s. else_on_new_line s.formatter) _ _ (no_break b) ∙ lexeme-pushed f.record_pending)

  unlisted : ks.closers ≡ true → in_broken_list taken ≡ false
  unlisted b = rw (σ.whole b).1

  -- A `)` outside signatures.
  abbrev unsigned : Act
  unsigned = if in_broken_list (close_call o) (close_group o t)

  abbrev unchecked : Act
  unchecked = if (λ g. is_at g.sig_break_depth 0) (close_signature o) unsigned

  same-depth : ks.closers ≡ true → set_sig_break_depth (map (λ d. d - 1) f.sig_break_depth) taken ≡ taken
  same-depth b = rw (σ.whole b).0

  paren_unchecked : ks.closers ≡ true → run (right_paren_arm o t) here ≡ run unchecked here
  unfolding right_paren_arm run
  paren_unchecked b = ap (λ g. run unchecked (state g out c)) (same-depth b)

  paren_turn :
      t.kind ≡ RightParen → ks.closers ≡ true
      → run (turn o i t ts) (state f out c) ≡ state (after_fast_tokens true t.kind (fast_state_after p t.kind m) f) (out ++ bytes) c
  paren_turn e b =
      turned (rw e (pending_is σ)) (rw e (ap (λ n. n - 1) (group_is σ)))
      (arm_paren o i t ts here ks h e
      ∙ paren_unchecked b
      ∙ chosen_not here (λ s. is_at s.formatter.sig_break_depth 0) (close_signature o) unsigned (rw (σ.whole b).0)
      ∙ chosen_not here (λ s. in_broken_list s.formatter) (close_call o) (close_group o t) (unlisted b)
      ∙ group-closed)

  bracket_turn :
      t.kind ≡ RightBracket → ks.closers ≡ true
      → run (turn o i t ts) (state f out c) ≡ state (after_fast_tokens true t.kind (fast_state_after p t.kind m) f) (out ++ bytes) c
  unfolding right_bracket_arm
  bracket_turn e b =
      turned (rw e (pending_is σ)) (rw e (ap (λ n. n - 1) (group_is σ)))
      (arm_bracket o i t ts here ks h e ∙ chosen_not here (λ s. in_broken_list s.formatter) _ _ (unlisted b) ∙ group-closed)

  other_turn :
      is_closer t.kind ≡ false → eqb t.kind Comma ≡ false → eqb t.kind Else ≡ false → leb t.kind Comma ≡ false
      → run (turn o i t ts) (state f out c) ≡ state (after_fast_tokens true t.kind (fast_state_after p t.kind m) f) (out ++ bytes) c
  unfolding run
  other_turn q a b l =
      turned (rw (l, b, pending_is σ)) (rw q (group_is σ))
      (arm_other o i t ts here ks h q a b ∙ lexeme-pushed (eqb t.kind Record || (eqb t.kind Identifier && f.record_pending)))

  pub fast_turn : run (turn o i t ts) (state f out c) ≡ state (after_fast_tokens true t.kind (fast_state_after p t.kind m) f) (out ++ bytes) c
  unfolding is_fast_kind
  fast_turn =
      split (eqb t.kind Comma)
      (λ a. comma-turn (eqb-true t.kind Comma a) (rw a at h))
      (λ a. split (eqb t.kind Else)
      (λ b. else_turn (eqb-true t.kind Else b) (rw (a, b) at h))
      (λ b. split (is_closer t.kind)
      (λ q. or_cases (eqb t.kind RightParen) (eqb t.kind RightBracket) q
      (λ e. let k = eqb-true t.kind RightParen e in paren_turn k (rw k at h))
      (λ e. let k = eqb-true t.kind RightBracket e in bracket_turn k (rw k at h)))
      (λ q. other_turn q a b (above a b q))))
    where
      above : eqb t.kind Comma ≡ false → eqb t.kind Else ≡ false → is_closer t.kind ≡ false → leb t.kind Comma ≡ false
      above a b q =
          split (eqb t.kind Fn)
          (λ e. rw (eqb-true t.kind Fn e))
          (λ e. let l : ltb Comma t.kind ≡ true = rw (a, b, e, q) at h in lt-leb _ _ (ltb-true Comma t.kind l))

-- ---- after a fast token another one may come

module _ {f : Formatter} {p : ℕ} {m : FastState} {ks : FastKinds} (σ : BeforeFastTokens f p m ks) (k : ℕ) (h : is_fast_kind ks k ≡ true) where
  abbrev next : Formatter
  next = after_fast_tokens true k (fast_state_after p k m) f

  -- A group is closed only where no list is broken.
  still_unbroken : ks.commas ≡ true → at_record_fields next || in_broken_list next ≡ false
  unfolding is_fast_kind
  still_unbroken b =
      split (is_closer k)
      (λ q.
      let w : ks.closers ≡ true = or_cases (eqb k RightParen) (eqb k RightBracket) q (λ e. rw (eqb-true k RightParen e) at h) (λ e. rw (eqb-true k RightBracket e) at h) in
      rw (or_left (at_record_fields f) (in_broken_list f) (σ.unbroken b), (σ.whole w).1))
      (λ q. rw (q, ← (group_is σ)) (σ.unbroken b))

  pub fast_next : BeforeFastTokens next k (fast_state_after p k m) ks
  unfolding is_fast_kind
  fast_next =
      record {
        mid_line = σ.mid_line;
        not_closed = σ.not_closed;
        no_skip = σ.no_skip;
        shallow = σ.shallow;
        with_state = refl;
        no_fn = λ e. let q = σ.no_fn e in (q.0, rw (never ks k Fn h q.0, q.1, and-false (eqb k Identifier)));
        unbroken = still_unbroken;
        no_brace = λ e. never ks k RightBrace h refl;
        whole = σ.whole;
      }
