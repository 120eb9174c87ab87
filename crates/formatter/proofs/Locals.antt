-- What trivia and the arms do to the four fields that the code does not hold: `inline_close`, `returned`, `skip_next` and
-- `too_deep`. Assumes nothing.
use mathlib.Core.Bool.{Bool, true, false, ◌&&◌}
use mathlib.Core.List.{List, [], ◌∷◌}
use mathlib.Core.Option.{Option, some}
use mathlib.Core.Path.{◌≡◌, refl, sym, ap, ◌∙◌}
use Prim.Native.Nat.{ℕ}
use lib.Dec.{eqb}
use borrow.Author.Tests.{eqb-true}
use Rattle.shared.proofs.Logic.{either, impossible}
use Rattle.rows.specs.Kinds.{Eof, Newline, LeftBrace, RightBrace, LeftParen, RightParen, LeftBracket, RightBracket, Comma, Else}
use Rattle.rows.specs.Options.{Options}
use Rattle.rows.specs.Token.{Trivia, line_comment, doc_comment, block_comment, blank_line, Token}
use Rattle.definition.specs.Formatter.{Formatter, set_at_line_start}
use Rattle.definition.specs.Act.{State, Act, run, ◌⨾◌, choose, nothing}
use Rattle.definition.specs.Emit.{is_at, leading_trivia, trailing_trivia, open_block_multiline}
use Rattle.definition.specs.Arms.{newline_arm, right_brace_arm, empty_record, open_block, left_brace_arm, left_paren_arm, left_bracket_arm, right_paren_arm, close_array, right_bracket_arm, comma_arm, else_arm, other_arm}
use Rattle.definition.specs.PushToken.{arm}
use Rattle.formatter.specs.Parts.{returns_early}
use Rattle.definition.proofs.After.{After, chosen, first}

-- ---- trivia

-- All fields but `at_line_start` agree.
pub record SameFields (f g : Formatter) : Type 0 where
  pub indent : g.indent ≡ f.indent
  pub prev : g.prev ≡ f.prev
  pub prev_minus_is_unary : g.prev_minus_is_unary ≡ f.prev_minus_is_unary
  pub inline_depth : g.inline_depth ≡ f.inline_depth
  pub fn_state : g.fn_state ≡ f.fn_state
  pub sig_break_depth : g.sig_break_depth ≡ f.sig_break_depth
  pub record_pending : g.record_pending ≡ f.record_pending
  pub in_record : g.in_record ≡ f.in_record
  pub record_depth : g.record_depth ≡ f.record_depth
  pub just_closed_inline : g.just_closed_inline ≡ f.just_closed_inline
  pub suppress_newline_at : g.suppress_newline_at ≡ f.suppress_newline_at
  pub group_depth : g.group_depth ≡ f.group_depth
  pub break_stack : g.break_stack ≡ f.break_stack
  pub inline_close : g.inline_close ≡ f.inline_close
  pub returned : g.returned ≡ f.returned
  pub skip_next : g.skip_next ≡ f.skip_next
  pub too_deep : g.too_deep ≡ f.too_deep

-- Leading trivia set `at_line_start` alone.
pub lead-start :
    (o : Options) (ls : List Trivia) (s : State)
    → (run (leading_trivia o ls) s).formatter ≡ set_at_line_start (run (leading_trivia o ls) s).formatter.at_line_start s.formatter
unfolding run leading_trivia
lead-start o [] s = refl
lead-start o (line_comment c ∷ ls) s = lead-start o ls _
lead-start o (doc_comment c ∷ ls) s = lead-start o ls _
lead-start o (block_comment c ∷ ls) s = lead-start o ls _
lead-start o (blank_line ∷ ls) s = lead-start o ls _

same : (b : Bool) (f g : Formatter) → g ≡ set_at_line_start b f → SameFields f g
same b f g e = rw e (record {
  indent = refl;
  prev = refl;
  prev_minus_is_unary = refl;
  inline_depth = refl;
  fn_state = refl;
  sig_break_depth = refl;
  record_pending = refl;
  in_record = refl;
  record_depth = refl;
  just_closed_inline = refl;
  suppress_newline_at = refl;
  group_depth = refl;
  break_stack = refl;
  inline_close = refl;
  returned = refl;
  skip_next = refl;
  too_deep = refl;
})

pub lead-same : (o : Options) (ls : List Trivia) (s : State) → SameFields s.formatter (run (leading_trivia o ls) s).formatter
lead-same o ls s = same _ s.formatter _ (lead-start o ls s)

pub lead-commas : (o : Options) (ls : List Trivia) (s : State) → (run (leading_trivia o ls) s).commas ≡ s.commas
unfolding run leading_trivia
lead-commas o [] s = refl
lead-commas o (line_comment c ∷ ls) s = lead-commas o ls _
lead-commas o (doc_comment c ∷ ls) s = lead-commas o ls _
lead-commas o (block_comment c ∷ ls) s = lead-commas o ls _
lead-commas o (blank_line ∷ ls) s = lead-commas o ls _

-- Trailing trivia set nothing.
pub trail_same : (ts : List Trivia) (s : State) → (run (trailing_trivia ts) s).formatter ≡ s.formatter
unfolding run trailing_trivia
trail_same [] s = refl
trail_same (line_comment c ∷ ts) s = trail_same ts _
trail_same (doc_comment c ∷ ts) s = trail_same ts _
trail_same (block_comment c ∷ ts) s = trail_same ts _
trail_same (blank_line ∷ ts) s = trail_same ts s

-- ---- acts that keep what `get` reads of the formatter

record Keeps {A : Type 0} (get : Formatter → A) (a : Act) : Type 0 where
  kept : (s : State) → get (run a s).formatter ≡ get s.formatter

module _ {A : Type 0} {get : Formatter → A} where
  -- An act that decides nothing.
  plain : {a : Act} → ((s : State) → get (run a s).formatter ≡ get s.formatter) → Keeps get a
  plain h = record { kept = h }

  infixr 40 ◌then◌
  ◌then◌ : {a b : Act} → Keeps get a → Keeps get b → Keeps get (a ⨾ b)
  unfolding run
  ◌then◌ {a} p q = record { kept = λ s. q.kept (run a s) ∙ p.kept s }

  pick : {t : State → Bool} {a b : Act} → Keeps get a → Keeps get b → Keeps get (choose t a b)
  unfolding run
  pick {t} p q = record { kept = λ s. either (λ (s' : State). get s'.formatter ≡ get s.formatter) (t s) (λ e. p.kept s) (λ e. q.kept s) }

abbrev still : Formatter → Option ℕ × Bool
still f = (f.too_deep, f.inline_close)

abbrev lasting : Formatter → (Option ℕ × Bool) × Bool
lasting f = (still f, f.skip_next)

abbrev asides : Formatter → ((Option ℕ × Bool) × Bool) × Bool
asides f = (lasting f, f.returned)

-- ---- the arms that keep all four

idle : Keeps asides nothing
unfolding run
idle = plain (λ s. refl)

open_block_lem : (o : Options) (i : ℕ) → Keeps asides (open_block o i)
unfolding run open_block_multiline
open_block_lem o i = pick (plain (λ s. refl)) (plain (λ s. refl)) then plain (λ s. refl)

newline_arm_lem : (i : ℕ) (ts : List Token) → Keeps asides (newline_arm i ts)
unfolding run newline_arm
newline_arm_lem i ts =
    pick (plain (λ s. refl)) (pick (plain (λ s. refl)) (pick (plain (λ s. refl)) (pick (plain (λ s. refl)) (pick (plain (λ s. refl)) (plain (λ s. refl))))))

right_brace-arm : (o : Options) → Keeps asides (right_brace_arm o)
unfolding run right_brace_arm
right_brace-arm o = pick (plain (λ s. refl)) (pick (plain (λ s. refl) then pick (plain (λ s. refl)) (plain (λ s. refl)) then plain (λ s. refl)) (plain (λ s. refl)))

module _ (o : Options) (i : ℕ) (t : Token) (ts : List Token) where
  left_paren-arm : Keeps asides (left_paren_arm o i t ts)
  unfolding run left_paren_arm
  left_paren-arm = pick (plain (λ s. refl) then pick (plain (λ s. refl)) (plain (λ s. refl))) (pick (plain (λ s. refl)) (plain (λ s. refl)))

  left_bracket_arm_lem : Keeps asides (left_bracket_arm o i t ts)
  unfolding run left_bracket_arm
  left_bracket_arm_lem = pick (plain (λ s. refl)) (plain (λ s. refl))

  comma-arm : Keeps asides (comma_arm o i t)
  unfolding run comma_arm
  comma-arm = pick (plain (λ s. refl)) (plain (λ s. refl))

  else_arm_lem : Keeps asides (else_arm o t)
  unfolding run else_arm
  else_arm_lem = pick (plain (λ s. refl)) (plain (λ s. refl))

  other_arm_lem : Keeps asides (other_arm o t)
  unfolding run
  other_arm_lem = plain (λ s. refl)

-- ---- the arms that return

-- An arm that returns or not, of an opening brace or not, makes g of f.
record Does (early brace : Bool) (f g : Formatter) : Type 0 where
  still : still g ≡ still f
  returned : f.returned ≡ false → g.returned ≡ early
  skip : f.skip_next ≡ false → g.skip_next ≡ (brace && is_at g.prev RightBrace)
  taken : f.skip_next ≡ false → g.skip_next ≡ true → early ≡ true

module _ {early brace : Bool} {f g : Formatter} where
  quiet : asides g ≡ asides f → early ≡ false → brace ≡ false → Does early brace f g
  quiet e x y = record { still = ap (λ v. v.0.0) e; returned = λ r. ap (λ v. v.1) e ∙ r ∙ sym x; skip = λ h. rw y (ap (λ v. v.0.1) e ∙ h); taken = λ h k. impossible (sym k ∙ (ap (λ v. v.0.1) e ∙ h)) }

  opened : asides g ≡ asides f → g.prev ≡ some LeftBrace → early ≡ false → brace ≡ true → Does early brace f g
  opened e p x y = record { still = ap (λ v. v.0.0) e; returned = λ r. ap (λ v. v.1) e ∙ r ∙ sym x; skip = λ h. rw (y, p) (ap (λ v. v.0.1) e ∙ h); taken = λ h k. impossible (sym k ∙ (ap (λ v. v.0.1) e ∙ h)) }

  returning : lasting g ≡ lasting f → g.returned ≡ true → early ≡ true → brace ≡ false → Does early brace f g
  returning e r x y = record { still = ap (λ v. v.0) e; returned = λ h. r ∙ sym x; skip = λ h. rw y (ap (λ v. v.1) e ∙ h); taken = λ h k. x }

module _ (o : Options) (i : ℕ) (t : Token) (ts : List Token) (s : State) where
  abbrev Done : State → Type 0
  Done s' = Does (returns_early t ts s.formatter) (eqb t.kind LeftBrace) s.formatter s'.formatter

  -- A kind other than the three that can return.
  calm : {a : Act} → Keeps asides a → eqb t.kind LeftBrace ≡ false → eqb t.kind RightParen ≡ false → eqb t.kind RightBracket ≡ false → After Done a s
  calm p x y z = record { holds = quiet (p.kept s) (rw (x, y, z)) x }

  calm_at : {a : Act} (k : ℕ) → eqb t.kind k ≡ true → eqb k LeftBrace ≡ false → eqb k RightParen ≡ false → eqb k RightBracket ≡ false → Keeps asides a → After Done a s
  calm_at k e x y z p = let h : t.kind ≡ k = eqb-true t.kind k e in calm p (rw h x) (rw h y) (rw h z)

  opens :
      {a : Act} → Keeps asides a → ((s : State) → (run a s).formatter.prev ≡ some LeftBrace) → returns_early t ts s.formatter ≡ false
      → eqb t.kind LeftBrace ≡ true → After Done a s
  opens p q x y = record { holds = opened (p.kept s) (q s) x y }

  left_brace-arm : t.kind ≡ LeftBrace → After Done (left_brace_arm o i t ts) s
  unfolding run left_brace_arm empty_record
  left_brace-arm e =
      chosen
      (λ p. chosen (λ n. record { holds = record { still = refl; returned = λ r. rw (e, p, n); skip = λ h. rw e; taken = λ h k. rw (e, p, n) } }) (λ n. opens (plain (λ s. refl) then open_block_lem o i) (λ s. refl) (rw (e, p, n)) (rw e)))
      (λ p. chosen (λ n. opens (plain (λ s. refl) then open_block_lem o i) (λ s. refl) (rw (e, p)) (rw e))
      (λ n. chosen (λ n. opens (pick (plain (λ s. refl)) (plain (λ s. refl)) then plain (λ s. refl)) (λ s. refl) (rw (e, p)) (rw e))
      (λ n. chosen (λ n. opens (plain (λ s. refl)) (λ s. refl) (rw (e, p)) (rw e)) (λ n. opens (open_block_lem o i) (λ s. refl) (rw (e, p)) (rw e)))))

  right_paren-arm : t.kind ≡ RightParen → After Done (right_paren_arm o t) s
  unfolding run right_paren_arm
  right_paren-arm e =
      first s
      (chosen (λ c. record { holds = returning refl refl (rw (e, c)) (rw e) })
      (λ c. chosen (λ l. record { holds = returning refl refl (rw (e, c, l)) (rw e) }) (λ l. record { holds = quiet refl (rw (e, c, l)) (rw e) })))

  close_array_lem : Keeps lasting (close_array o)
  unfolding run
  close_array_lem = plain (λ s. refl) then pick (plain (λ s. refl)) (plain (λ s. refl)) then plain (λ s. refl)

  right_bracket-arm : t.kind ≡ RightBracket → After Done (right_bracket_arm o t) s
  unfolding run right_bracket_arm
  right_bracket-arm e =
      chosen (λ l. record { holds = returning (close_array_lem.kept s) refl (rw (e, l)) (rw e) })
      (λ l. record { holds = quiet refl (rw (e, l)) (rw e) })

  does : After Done (arm o i t ts) s
  does =
      chosen (λ e. calm_at Eof e refl refl refl idle)
      (λ e. chosen (λ e. calm_at Newline e refl refl refl (newline_arm_lem i ts))
      (λ e. chosen (λ e. calm_at RightBrace e refl refl refl (right_brace-arm o))
      (λ e. chosen (λ e. left_brace-arm (eqb-true t.kind LeftBrace e))
      (λ b. chosen (λ e. calm_at LeftParen e refl refl refl (left_paren-arm o i t ts))
      (λ e. chosen (λ e. calm_at LeftBracket e refl refl refl (left_bracket_arm_lem o i t ts))
      (λ e. chosen (λ e. right_paren-arm (eqb-true t.kind RightParen e))
      (λ p. chosen (λ e. right_bracket-arm (eqb-true t.kind RightBracket e))
      (λ q. chosen (λ e. calm_at Comma e refl refl refl (comma-arm o i t ts))
      (λ e. chosen (λ e. calm_at Else e refl refl refl (else_arm_lem o i t ts)) (λ e. calm (other_arm_lem o i t ts) b p q))))))))))

  -- Whether the arm returns.
  pub arm-returned : s.formatter.returned ≡ false → (run (arm o i t ts) s).formatter.returned ≡ returns_early t ts s.formatter
  arm-returned = does.holds.returned

  -- Whether the arm takes the next token along: it is an opening brace, and a closing one stands last.
  pub arm_skip : s.formatter.skip_next ≡ false → (run (arm o i t ts) s).formatter.skip_next ≡ (eqb t.kind LeftBrace && is_at (run (arm o i t ts) s).formatter.prev RightBrace)
  arm_skip = does.holds.skip

  pub arm-taken : s.formatter.skip_next ≡ false → (run (arm o i t ts) s).formatter.skip_next ≡ true → returns_early t ts s.formatter ≡ true
  arm-taken = does.holds.taken

  -- The arm refuses nothing.
  pub arm-deep : (run (arm o i t ts) s).formatter.too_deep ≡ s.formatter.too_deep
  arm-deep = ap (λ v. v.0) does.holds.still
