-- After a token the last kind is known: it is one of the 35, and away from a line's start there is one. Assumes nothing.
use Rattle.std.proofs.Common.{◌≡◌, ℕ, ◌≤◌, true, false, List, [], ◌∷◌, refl, arith}
use mathlib.Core.Option.{Option, none, some}
use Rattle.shared.proofs.Logic.{impossible}
use Rattle.rows.specs.Kinds.{Newline, LeftBrace, RightBrace, LeftParen, RightParen, RightBracket, Comma, Else}
use Rattle.rows.specs.Options.{Options}
use Rattle.rows.specs.Token.{Trivia, line_comment, doc_comment, block_comment, blank_line, Token}
use Rattle.definition.specs.Formatter.{Formatter}
use Rattle.definition.specs.Act.{State, Act, run, update}
use Rattle.definition.specs.Emit.{is_some, leading_trivia, trailing_trivia, emit_token_text}
use Rattle.definition.specs.Arms.{newline_arm, right_brace_arm, empty_record, left_brace_arm, open_list, left_paren_arm, left_bracket_arm, right_paren_arm, right_bracket_arm, comma_arm, else_arm, other_arm}
use Rattle.definition.specs.PushToken.{arm, turn}
use Rattle.definition.proofs.Preserves.{Preserves, idle, gapped, commented, ◌then◌, pick}

-- The last token's kind; before the first, 0.
abbrev pub kind_of : Option ℕ → ℕ
kind_of none = 0
kind_of (some k) = k

pub record Told (f : Formatter) : Type 0 where
  pub last : kind_of f.prev ≤ 34
  pub mid_line : f.at_line_start ≡ false → is_some f.prev ≡ true

-- ---- acts that keep it

-- a token of the kind k is the last: this makes it true
ends : {a : Act} (k : ℕ) → k ≤ 34 → ((s : State) → (run a s).formatter.prev ≡ some k) → Preserves Told a
ends k b e = record { kept = λ s h. record { last = rw (e s) b; mid_line = λ x. rw (e s) refl } }

-- the last kind stays, and so does the line's start, or a line begins
stays : {g : Formatter → Formatter} → ((f : Formatter) → (g f).prev ≡ f.prev) → ((f : Formatter) → (g f).at_line_start ≡ f.at_line_start) → Preserves Told (update g)
unfolding run
stays p q =
    record { kept = λ s h. record { last = rw (p s.formatter) h.last; mid_line = λ e. rw (p s.formatter) (h.mid_line (rw (q s.formatter) at e)) } }

begins : {g : Formatter → Formatter} → ((f : Formatter) → (g f).prev ≡ f.prev) → ((f : Formatter) → (g f).at_line_start ≡ true) → Preserves Told (update g)
unfolding run
begins p q = record { kept = λ s h. record { last = rw (p s.formatter) h.last; mid_line = λ e. impossible (rw (q s.formatter) at e) } }

-- ---- trivia

leading : (o : Options) (ts : List Trivia) → Preserves Told (leading_trivia o ts)
unfolding leading_trivia
leading o [] = idle
leading o (line_comment c ∷ ts) = commented then leading o ts
leading o (doc_comment c ∷ ts) = commented then leading o ts
leading o (block_comment c ∷ ts) = commented then leading o ts
leading o (blank_line ∷ ts) = (commented then begins (λ f. refl) (λ f. refl)) then leading o ts

trailing : (ts : List Trivia) → Preserves Told (trailing_trivia ts)
unfolding trailing_trivia
trailing [] = idle
trailing (line_comment c ∷ ts) = commented then trailing ts
trailing (doc_comment c ∷ ts) = commented then trailing ts
trailing (block_comment c ∷ ts) = commented then trailing ts
trailing (blank_line ∷ ts) = idle then trailing ts

-- ---- the arms

newline_arm_lem : (i : ℕ) (ts : List Token) → Preserves Told (newline_arm i ts)
unfolding run newline_arm
newline_arm_lem i ts =
    pick (stays (λ f. refl) (λ f. refl))
    (pick idle
    (pick idle
    (pick (ends Newline (omega arith) (λ s. refl)) (pick (ends Newline (omega arith) (λ s. refl)) idle))))

right_brace-arm : (o : Options) → Preserves Told (right_brace_arm o)
unfolding run right_brace_arm
right_brace-arm o =
    pick (ends RightBrace (omega arith) (λ s. refl))
    (pick (ends RightBrace (omega arith) (λ s. refl)) (ends RightBrace (omega arith) (λ s. refl)))

left_brace-arm : (o : Options) (i : ℕ) (t : Token) (ts : List Token) → Preserves Told (left_brace_arm o i t ts)
unfolding run left_brace_arm empty_record
left_brace-arm o i t ts =
    pick (pick (ends RightBrace (omega arith) (λ s. refl)) (ends LeftBrace (omega arith) (λ s. refl)))
    (pick (ends LeftBrace (omega arith) (λ s. refl))
    (pick (ends LeftBrace (omega arith) (λ s. refl))
    (pick (ends LeftBrace (omega arith) (λ s. refl)) (ends LeftBrace (omega arith) (λ s. refl)))))

module _ (o : Options) (i : ℕ) (t : Token) (ts : List Token) (known : t.kind ≤ 34) where
  open_list_lem : Preserves Told (open_list o i t)
  unfolding run
  open_list_lem = ends {a = emit_token_text o t} t.kind known (λ s. refl) then gapped then begins (λ f. refl) (λ f. refl)

  left_paren-arm : Preserves Told (left_paren_arm o i t ts)
  unfolding run left_paren_arm
  left_paren-arm =
      pick (stays (λ f. refl) (λ f. refl) then pick (ends LeftParen (omega arith) (λ s. refl)) (ends t.kind known (λ s. refl)))
      (pick open_list_lem (ends t.kind known (λ s. refl)))

  left_bracket_arm_lem : Preserves Told (left_bracket_arm o i t ts)
  unfolding run left_bracket_arm
  left_bracket_arm_lem = pick open_list_lem (ends t.kind known (λ s. refl))

  right_paren-arm : Preserves Told (right_paren_arm o t)
  unfolding run right_paren_arm
  right_paren-arm =
      stays (λ f. refl) (λ f. refl)
      then pick (ends RightParen (omega arith) (λ s. refl)) (pick (ends RightParen (omega arith) (λ s. refl)) (ends t.kind known (λ s. refl)))

  right_bracket-arm : Preserves Told (right_bracket_arm o t)
  unfolding run right_bracket_arm
  right_bracket-arm = pick (ends RightBracket (omega arith) (λ s. refl)) (ends t.kind known (λ s. refl))

  comma-arm : Preserves Told (comma_arm o i t)
  unfolding run comma_arm
  comma-arm = pick (ends Comma (omega arith) (λ s. refl)) (ends t.kind known (λ s. refl))

  else_arm_lem : Preserves Told (else_arm o t)
  unfolding run else_arm
  else_arm_lem = pick (ends Else (omega arith) (λ s. refl)) (ends t.kind known (λ s. refl))

  other_arm_lem : Preserves Told (other_arm o t)
  unfolding run
  other_arm_lem = ends t.kind known (λ s. refl)

  arms : Preserves Told (arm o i t ts)
  arms =
      pick idle
      (pick (newline_arm_lem i ts)
      (pick (right_brace-arm o)
      (pick (left_brace-arm o i t ts)
      (pick left_paren-arm
      (pick left_bracket_arm_lem
      (pick right_paren-arm
      (pick right_bracket-arm
      (pick comma-arm
      (pick else_arm_lem other_arm_lem)))))))))

  -- ---- a token

  turns : Preserves Told (turn o i t ts)
  turns =
      pick idle
      (pick (stays (λ f. refl) (λ f. refl))
      (leading o t.leading
      then stays (λ f. refl) (λ f. refl)
      then pick (stays (λ f. refl) (λ f. refl)) (arms then pick idle (trailing t.trailing) then stays (λ f. refl) (λ f. refl))))

-- A token keeps it.
pub turn_told : (o : Options) (i : ℕ) (t : Token) (ts : List Token) → t.kind ≤ 34 → (s : State) → Told s.formatter → Told (run (turn o i t ts) s).formatter
turn_told o i t ts known = (turns o i t ts known).kept
