-- The arms but those of Newline and the braces: each writes its token and keeps what the walk keeps. Assumes nothing.
use Rattle.std.proofs.Common.{◌≡◌, ℕ, ◌+◌, ◌-◌, Bool, true, false, ◌&&◌, ◌||◌, T, eqb, List, [], ◌∷◌, ◌++◌, refl}
use mathlib.Core.Option.{Option, none, some, map}
use Rattle.rows.specs.Kinds.{LeftParen, RightParen, RightBracket, Comma, Else, Record, Identifier}
use Rattle.rows.specs.Options.{Options}
use Rattle.rows.specs.Token.{Token}
use Rattle.pieces.specs.declared.bytes.Class.TheVariants.{Single}
use Rattle.pieces.specs.Class.{class}
use Rattle.pieces.specs.Commas.{closer}
use Rattle.pieces.proofs.Whole.{clear}
use Rattle.pieces.proofs.Segments.{Gaps}
use Rattle.pieces.proofs.Written.{Written, written-gap}
use Rattle.shared.proofs.Logic.{impossible', and_left}
use Rattle.definition.specs.Formatter.{Formatter, set_fn_state, set_sig_break_depth}
use Rattle.definition.specs.Act.{State, state, run}
use Rattle.shared.specs.Bytes.{line_feed, same_bytes}
use Rattle.definition.specs.Emit.{indent_str, on_new_line, indented, dedented, token_gap}
use Rattle.definition.specs.Arms.{popped, open_list, left_paren_arm, left_bracket_arm, right_paren_arm, right_bracket_arm, comma_arm, else_arm, track_record, other_arm}
use Rattle.definition.specs.Plain.{has_its_lexeme, may_meet, no_dot_after}
use Rattle.definition.proofs.After.{After, chosen, in_turn, first, last}
use Rattle.definition.proofs.Beside.{Sound, lexeme_is}
use Rattle.definition.proofs.Inv.{Stands, free, WroteBy, Wrote, kept_apart, put, put_byte, put-comma, wrote-put, token_gaps, line_gaps, feed_gaps, feed}

-- what an arm that writes the token t makes of the formatter f
pub record ArmBy (xs : List (List ℕ)) (t : Token) (f : Formatter) (out : List ℕ) (commas : ℕ) (at_line_start : Bool) (prev : Option ℕ) (inline_depth : ℕ) (in_record record_pending skip_next : Bool) : Type 0 where
  pub wrote : WroteBy (xs ++ (t.lexeme ∷ [])) (some t) out commas at_line_start prev
  pub inline : inline_depth ≡ f.inline_depth
  pub record' : in_record ≡ f.in_record
  pub pending : record_pending ≡ true → eqb t.kind Record || f.record_pending ≡ true
  pub start : at_line_start ≡ true → eqb f.inline_depth 0 || eqb t.kind Comma ≡ true
  pub skip : skip_next ≡ f.skip_next

abbrev pub Arm : List (List ℕ) → Token → Formatter → State → Type 0
Arm xs t f s = ArmBy xs t f s.out s.commas s.formatter.at_line_start s.formatter.prev s.formatter.inline_depth s.formatter.in_record s.formatter.record_pending s.formatter.skip_next

or_second : (a b : Bool) → b ≡ true → a || b ≡ true
or_second true b e = refl
or_second false b e = e

or_first : (a b : Bool) → a ≡ true → a || b ≡ true
or_first a b e = rw e

still_pending : (a b p : Bool) → a || (b && p) ≡ true → a || p ≡ true
still_pending true b p e = refl
still_pending false true p e = e
still_pending false false p e = impossible' e

module _ (t : Token) (xs : List (List ℕ)) where
  -- what an arm makes of the other fields, where the line goes on
  pub going : {f : Formatter} {out : List ℕ} {m : ℕ} {p : Option ℕ} → WroteBy (xs ++ (t.lexeme ∷ [])) (some t) out m false p → ArmBy xs t f out m false p f.inline_depth f.in_record f.record_pending f.skip_next
  going {f} w = record { wrote = w; inline = refl; record' = refl; pending = λ e. or_second (eqb t.kind Record) f.record_pending e; start = λ e. impossible' e; skip = refl }

  -- and where a new line begins
  pub breaking : {f : Formatter} {out : List ℕ} {m : ℕ} {p : Option ℕ} → Written out clear (xs ++ (t.lexeme ∷ [])) m → eqb f.inline_depth 0 || eqb t.kind Comma ≡ true
      → ArmBy xs t f out m true p f.inline_depth f.in_record f.record_pending f.skip_next
  breaking {f} w z =
      record { wrote = record { left = clear; written = w; stands = free }; inline = refl; record' = refl; pending = λ e. or_second (eqb t.kind Record) f.record_pending e; start = λ e. z; skip = refl }

module _ (o : Options) (t : Token) (xs : List (List ℕ)) (l : Option Token) (s : State) (ω : Wrote xs l s) (τ : Sound t) where
  -- a single byte, behind a gap
  pub closing : (b : ℕ) → t.lexeme ≡ b ∷ [] → class b ≡ Single → (j : ℕ) → t.kind ≡ j → (g : List ℕ) → Gaps g
      → WroteBy (xs ++ (t.lexeme ∷ [])) (some t) (s.out ++ g ++ (b ∷ [])) s.commas false (some j)
  closing b e h j k g y = wrote-put (put_byte (written-gap ω.written g y) t τ b e h) τ j k

  -- an inserted comma, a gap, and a closer
  pub inserting : (b : ℕ) → t.lexeme ≡ b ∷ [] → T (closer (b ∷ [])) → (j : ℕ) → t.kind ≡ j → (g : List ℕ) → Gaps g
      → WroteBy (xs ++ (t.lexeme ∷ [])) (some t) (s.out ++ (44 ∷ g ++ (b ∷ []))) (s.commas + 1) false (some j)
  inserting b e h j k g y = wrote-put (put-comma ω.written t τ g y (b ∷ []) e h) τ j k

  t_is : (j : ℕ) (v : List ℕ) → t.kind ≡ j → has_its_lexeme j t.lexeme ≡ same_bytes t.lexeme v → t.lexeme ≡ v
  t_is j v k e = lexeme_is t.kind j t.lexeme v τ.fixed k e

  module _ (meet : may_meet l t ≡ true) (dot : no_dot_after l t ≡ true) where
    -- `push_lexeme`, by a formatter that has the line start and the last kind
    pub pushing : (f : Formatter) → f.at_line_start ≡ s.formatter.at_line_start → f.prev ≡ s.formatter.prev
        → WroteBy (xs ++ (t.lexeme ∷ [])) (some t) (s.out ++ token_gap o t.kind f ++ t.lexeme) s.commas false (some t.kind)
    pushing f x y =
        let h : Stands f.at_line_start f.prev l ω.left = rw (x, y) ω.stands in
        wrote-put (put ω.written t τ (token_gap o t.kind f) (token_gaps o f t.kind) t.lexeme refl (kept_apart h t τ meet dot (indent_str o f) f.prev_minus_is_unary)) τ t.kind refl

    pub other_arm_lem : After (Arm xs t s.formatter) (other_arm o t) s
    unfolding run
    other_arm_lem = record {
      holds = record {
        wrote = pushing (track_record t.kind s.formatter) refl refl;
        inline = refl;
        record' = refl;
        pending = λ e. still_pending (eqb t.kind Record) (eqb t.kind Identifier) s.formatter.record_pending e;
        start = λ e. impossible' e;
        skip = refl;
      };
    }

    pub else_arm_lem : t.kind ≡ Else → After (Arm xs t s.formatter) (else_arm o t) s
    unfolding run else_arm has_its_lexeme
    else_arm_lem k =
        chosen
        (λ b. record { holds = going t xs (wrote-put (put ω.written t τ (line_feed ++ indent_str o s.formatter) (feed_gaps o s.formatter) (101 ∷ 108 ∷ 115 ∷ 101 ∷ []) (t_is Else _ k refl) tt) τ Else k) })
        (λ b. record { holds = going t xs (pushing s.formatter refl refl) })

    pub comma-arm : (i : ℕ) → t.kind ≡ Comma → After (Arm xs t s.formatter) (comma_arm o i t) s
    unfolding run comma_arm has_its_lexeme class
    comma-arm i k =
        chosen
        (λ b. record { holds = breaking t xs (written-gap (put_byte ω.written t τ 44 (t_is Comma _ k refl) refl).written line_feed feed) (or_second (eqb s.formatter.inline_depth 0) (eqb t.kind Comma) (rw k)) })
        (λ b. record { holds = going t xs (pushing s.formatter refl refl) })

    -- a list that is broken
    open_list_lem : (i : ℕ) → eqb s.formatter.inline_depth 0 ≡ true → After (Arm xs t s.formatter) (open_list o i t) s
    unfolding run
    open_list_lem i h = record { holds = breaking t xs (written-gap (pushing s.formatter refl refl).written line_feed feed) (or_first (eqb s.formatter.inline_depth 0) (eqb t.kind Comma) h) }

    pub left_bracket_arm_lem : (i : ℕ) (ts : List Token) → After (Arm xs t s.formatter) (left_bracket_arm o i t ts) s
    unfolding run left_bracket_arm
    left_bracket_arm_lem i ts =
        chosen
        (λ b. open_list_lem i (and_left _ _ b))
        (λ b. record { holds = going t xs (pushing s.formatter refl refl) })

    pub left_paren-arm : (i : ℕ) (ts : List Token) → t.kind ≡ LeftParen → After (Arm xs t s.formatter) (left_paren_arm o i t ts) s
    unfolding run left_paren_arm has_its_lexeme class
    left_paren-arm i ts k =
        chosen
        (λ b. first s (chosen
        (λ b. record {
          holds = going t xs (record {
            left = clear;
            written = written-gap (put_byte ω.written t τ 40 (t_is LeftParen (40 ∷ []) k refl) refl).written (line_feed ++ indent_str o (indented (set_fn_state 0 s.formatter))) (feed_gaps o (indented (set_fn_state 0 s.formatter)));
            stands = free;
          });
        })
        (λ b. record { holds = going t xs (pushing (set_fn_state 0 s.formatter) refl refl) })))
        (λ b. chosen
        (λ b. open_list_lem i (and_left _ _ b))
        (λ b. record { holds = going t xs (pushing (set_sig_break_depth (map (λ d. d + 1) s.formatter.sig_break_depth) s.formatter) refl refl) }))

    -- the formatter behind the first update of the arm
    abbrev inner : Formatter
    inner = set_sig_break_depth (map (λ d. d - 1) s.formatter.sig_break_depth) s.formatter

    pub right_paren-arm : t.kind ≡ RightParen → After (Arm xs t s.formatter) (right_paren_arm o t) s
    unfolding run right_paren_arm has_its_lexeme class
    right_paren-arm k =
        first s (chosen
        (λ b. record { holds = going t xs (closing 41 (t_is RightParen (41 ∷ []) k refl) refl RightParen k (on_new_line o (set_sig_break_depth none inner)) (line_gaps o (set_sig_break_depth none inner))) })
        (λ b. chosen
        (λ b. record { holds = going t xs (closing 41 (t_is RightParen (41 ∷ []) k refl) refl RightParen k (on_new_line o (dedented (popped inner))) (line_gaps o (dedented (popped inner)))) })
        (λ b. record { holds = going t xs (pushing inner refl refl) })))

    abbrev closed : Formatter
    closed = dedented (popped s.formatter)

    pub right_bracket-arm : t.kind ≡ RightBracket → After (Arm xs t s.formatter) (right_bracket_arm o t) s
    unfolding run right_bracket_arm has_its_lexeme class
    right_bracket-arm k =
        chosen
        (λ b. first s (in_turn (last (state closed s.out s.commas) (chosen
        (λ b. record { holds = going t xs (closing 93 (t_is RightBracket (93 ∷ []) k refl) refl RightBracket k (on_new_line o closed) (line_gaps o closed)) })
        (λ b. record { holds = going t xs (inserting 93 (t_is RightBracket (93 ∷ []) k refl) tt RightBracket k (on_new_line o closed) (line_gaps o closed)) })))))
        (λ b. record { holds = going t xs (pushing s.formatter refl refl) })
