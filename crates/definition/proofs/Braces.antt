-- The arms of the braces, and the scan of a one-line block. Assumes nothing.
use Rattle.std.proofs.Common.{◌≡◌, ℕ, ◌+◌, ◌-◌, ◌<◌, ◌≤◌, Bool, true, false, cond, not, eqb, List, [], ◌∷◌, ◌++◌, sym, refl, ◌∙◌, arith, ltb-false, ltb-true, eqb-true}
use mathlib.Core.Option.{Option, some}
use Rattle.rows.specs.Kinds.{Eof, Newline, LeftBrace, RightBrace}
use Rattle.rows.specs.Options.{Options}
use Rattle.rows.specs.Token.{Token}
use Rattle.lookahead.specs.Measure.{bare, single_line_from}
use Rattle.pieces.specs.Class.{class}
use Rattle.pieces.proofs.Whole.{clear}
use Rattle.pieces.proofs.Written.{written-gap}
use Rattle.shared.proofs.Logic.{impossible, impossible', split}
use Rattle.definition.specs.Formatter.{Formatter, set_inline_depth, set_record_pending, set_in_record, set_record_depth, set_just_closed_inline}
use Rattle.definition.specs.Act.{State, state, run}
use Rattle.shared.specs.Bytes.{line_feed, space}
use Rattle.definition.specs.Emit.{prev_is, indent_or_space, on_new_line, dedented, open_block_multiline}
use Rattle.definition.specs.Arms.{right_brace_arm, open_block, left_brace_arm}
use Rattle.lookahead.specs.Measure.{next_is}
use Rattle.definition.specs.Plain.{is_mute, has_its_lexeme}
use Rattle.definition.proofs.PlainScan.{Seen}
use Rattle.definition.proofs.After.{After, chosen, in_turn, first, last}
use Rattle.definition.proofs.Beside.{Sound, lexeme_is}
use Rattle.definition.proofs.Inv.{free, WroteBy, Wrote, Kept, put_byte, close_gaps, line_gaps, space_gaps, feed, blank}
use Rattle.definition.proofs.Arms.{closing, inserting}

-- ---- the scan

-- the kinds, where no trivia stands
unbare : (b x : Bool) → cond (not b) false x ≡ true → x ≡ true
unbare true x e = e
unbare false x e = impossible' e

module _ (d : ℕ) (t : Token) (ts : List Token) (h : single_line_from d (t ∷ ts) ≡ true) where
  abbrev Kinds : ℕ → Bool
  Kinds k =
      cond (eqb k LeftBrace) (single_line_from (d + 1) ts)
      (cond (eqb k RightBrace) (cond (eqb (d - 1) 0) true (single_line_from (d - 1) ts))
      (cond (eqb k Newline) false (cond (eqb k Eof) false (single_line_from d ts))))

  kinds : Kinds t.kind ≡ true
  unfolding single_line_from
  kinds = unbare (bare t) (Kinds t.kind) h

  kinds_at : (k : ℕ) → t.kind ≡ k → Kinds k ≡ true
  kinds_at k e = rw (← e) kinds

  pub scan_mute : is_mute t ≡ false
  scan_mute =
      split (eqb t.kind Eof) (λ e. impossible' (kinds_at Eof (eqb-true t.kind Eof e)))
      (λ e. split (eqb t.kind Newline) (λ n. impossible' (kinds_at Newline (eqb-true t.kind Newline n))) (λ n. rw (e, n)))

  pub scan_other : eqb t.kind LeftBrace ≡ false → eqb t.kind RightBrace ≡ false → single_line_from d ts ≡ true
  scan_other l r =
      split (eqb t.kind Eof) (λ e. impossible' (kinds_at Eof (eqb-true t.kind Eof e)))
      (λ e. split (eqb t.kind Newline) (λ n. impossible' (kinds_at Newline (eqb-true t.kind Newline n))) (λ n. rw (l, r, n, e) at kinds))

  pub scan_open : t.kind ≡ LeftBrace → single_line_from (d + 1) ts ≡ true
  scan_open e = kinds_at LeftBrace e

  pub scan_close : t.kind ≡ RightBrace → cond (eqb (d - 1) 0) true (single_line_from (d - 1) ts) ≡ true
  scan_close e = kinds_at RightBrace e

-- ---- the right brace

-- what its arm makes of the formatter f
pub record ClosedBy (xs : List (List ℕ)) (t : Token) (f : Formatter) (out : List ℕ) (commas : ℕ) (at_line_start : Bool) (prev : Option ℕ) (inline_depth : ℕ) (record_pending skip_next : Bool) : Type 0 where
  pub wrote : WroteBy (xs ++ (t.lexeme ∷ [])) (some t) out commas at_line_start prev
  pub inline : inline_depth ≡ f.inline_depth - 1
  pub start : at_line_start ≡ false
  pub pending : record_pending ≡ f.record_pending
  pub skip : skip_next ≡ f.skip_next

abbrev pub Closed : List (List ℕ) → Token → Formatter → State → Type 0
Closed xs t f s = ClosedBy xs t f s.out s.commas s.formatter.at_line_start s.formatter.prev s.formatter.inline_depth s.formatter.record_pending s.formatter.skip_next

closed : (xs : List (List ℕ)) (t : Token) {f : Formatter} {out : List ℕ} {m : ℕ} {p : Option ℕ} {n : ℕ} → n ≡ f.inline_depth - 1 → WroteBy (xs ++ (t.lexeme ∷ [])) (some t) out m false p
    → ClosedBy xs t f out m false p n f.record_pending f.skip_next
closed xs t e w = record { wrote = w; inline = e; start = refl; pending = refl; skip = refl }

module _ (o : Options) (t : Token) (xs : List (List ℕ)) (l : Option Token) (s : State) (ω : Wrote xs l s) (τ : Sound t) where
  -- the formatter behind the first update: of a one-line block, of a record, of another block
  abbrev inline_end : Formatter
  inline_end = set_just_closed_inline true (set_inline_depth (s.formatter.inline_depth - 1) s.formatter)

  abbrev record_end : Formatter
  record_end = dedented (set_record_depth 0 (set_in_record false s.formatter))

  abbrev block_end : Formatter
  block_end = dedented (set_record_depth (cond s.formatter.in_record (s.formatter.record_depth - 1) s.formatter.record_depth) s.formatter)

  pub right_brace-arm : t.kind ≡ RightBrace → After (Closed xs t s.formatter) (right_brace_arm o) s
  unfolding run right_brace_arm has_its_lexeme class
  right_brace-arm k =
      let w : t.lexeme ≡ 125 ∷ [] = lexeme_is t.kind RightBrace t.lexeme (125 ∷ []) τ.fixed k refl in
      chosen
      (λ b. record { holds = closed xs t refl (closing o t xs l s ω τ 125 w refl RightBrace k _ (close_gaps o inline_end (prev_is LeftBrace inline_end))) })
      (λ b. let same : s.formatter.inline_depth ≡ s.formatter.inline_depth - 1 = omega (arith, ltb-false 0 s.formatter.inline_depth b) in
      chosen
      (λ b. first s (in_turn (last (state record_end s.out s.commas) (chosen
      (λ b. record { holds = closed xs t same (closing o t xs l s ω τ 125 w refl RightBrace k (on_new_line o record_end) (line_gaps o record_end)) })
      (λ b. record { holds = closed xs t same (inserting o t xs l s ω τ 125 w tt RightBrace k (on_new_line o record_end) (line_gaps o record_end)) })))))
      (λ b. record { holds = closed xs t same (closing o t xs l s ω τ 125 w refl RightBrace k (on_new_line o block_end) (line_gaps o block_end)) }))

-- ---- the left brace

-- the block that is opened, before the tokens ts
pub record OpenedBy (xs : List (List ℕ)) (t : Token) (ts : List Token) (skip₀ : Bool) (out : List ℕ) (commas : ℕ) (at_line_start : Bool) (prev : Option ℕ) (inline_depth : ℕ) (in_record record_pending skip_next : Bool) : Type 0 where
  pub wrote : WroteBy (xs ++ (t.lexeme ∷ [])) (some t) out commas at_line_start prev
  pub block : 0 < inline_depth → (d : ℕ) × (inline_depth ≤ d) × (single_line_from d ts ≡ true)
  pub start : 0 < inline_depth → at_line_start ≡ true → in_record ≡ false → ⊥
  pub pending : record_pending ≡ false
  pub skip : skip_next ≡ skip₀

abbrev pub Opened : List (List ℕ) → Token → List Token → Bool → State → Type 0
Opened xs t ts b s = OpenedBy xs t ts b s.out s.commas s.formatter.at_line_start s.formatter.prev s.formatter.inline_depth s.formatter.in_record s.formatter.record_pending s.formatter.skip_next

not_both : {C : Type 0} (a : Bool) → a ≡ true → a ≡ false → C
not_both a p q = impossible (sym p ∙ q)

module _ (o : Options) (t : Token) (k : t.kind ≡ LeftBrace) (xs : List (List ℕ)) (l : Option Token) (τ : Sound t) where
  brace : t.lexeme ≡ 123 ∷ []
  unfolding has_its_lexeme
  brace = lexeme_is t.kind LeftBrace t.lexeme (123 ∷ []) τ.fixed k refl

  -- `open_block_multiline` writes the brace, in a record or where no one-line block is open
  open_block_lem : (i : ℕ) (ts : List Token) (s : State) → Wrote xs l s → (0 < s.formatter.inline_depth → (d : ℕ) × (s.formatter.inline_depth ≤ d) × (single_line_from d ts ≡ true))
      → (0 < s.formatter.inline_depth → s.formatter.in_record ≡ false → ⊥) → s.formatter.record_pending ≡ false → After (Opened xs t ts s.formatter.skip_next) (open_block o i) s
  unfolding run open_block_multiline class
  open_block_lem i ts s ω f g h =
      in_turn (chosen
      (λ b. record {
        holds = record {
          holds = record {
            wrote = record {
              left = clear;
              written = written-gap (put_byte (written-gap ω.written (on_new_line o s.formatter) (line_gaps o s.formatter)) t τ 123 brace refl).written line_feed feed;
              stands = free;
            };
            block = f;
            start = λ n a. g n;
            pending = h;
            skip = refl;
          };
        };
      })
      (λ b. record {
        holds = record {
          holds = record {
            wrote = closing o t xs l s ω τ 123 brace refl LeftBrace k space blank;
            block = f;
            start = λ n a. impossible' a;
            pending = h;
            skip = refl;
          };
        };
      }))

  pub left_brace-arm : (i : ℕ) (ts : List Token) (q : Seen) (s : State) → Wrote xs l s → Kept q (t ∷ ts) s.formatter → q.comma ≡ false → (q.armed ≡ true → next_is RightBrace ts ≡ false)
      → After (Opened xs t ts s.formatter.skip_next) (left_brace_arm o i t ts) s
  unfolding run left_brace_arm class
  left_brace-arm i ts q s ω κ unc unr =
      let deeper : 0 < s.formatter.inline_depth → (d : ℕ) × (s.formatter.inline_depth ≤ d) × (single_line_from d ts ≡ true) =
      λ n. let r = κ.block n in (r.0 + 1, omega (arith, r.1), scan_open r.0 t ts r.2 k) in
      chosen
      (λ p. chosen
      (λ b. not_both (next_is RightBrace ts) b (unr (κ.armed p)))
      (λ b. first s (open_block_lem i ts (state (set_record_depth 1 (set_in_record true (set_record_pending false s.formatter))) s.out s.commas) ω deeper (λ n f. impossible f) refl)))
      (λ p. chosen
      (λ b. first s (open_block_lem i ts (state (set_record_depth (s.formatter.record_depth + 1) s.formatter) s.out s.commas) ω deeper (λ n f. not_both s.formatter.in_record b f) p))
      (λ b. chosen
      (λ n. let pos : 0 < s.formatter.inline_depth = ltb-true 0 s.formatter.inline_depth n in
      in_turn (chosen
      (λ a. not_both q.comma (κ.start pos a b) unc)
      (λ a. record {
        holds = record {
          holds = record {
            wrote = closing o t xs l s ω τ 123 brace refl LeftBrace k space blank;
            block = λ m. let r = κ.block pos in (r.0 + 1, omega (arith, r.1), scan_open r.0 t ts r.2 k);
            start = λ m f g. impossible' f;
            pending = p;
            skip = refl;
          };
        };
      })))
      (λ n. let nil : s.formatter.inline_depth ≤ 0 = ltb-false 0 s.formatter.inline_depth n in
      chosen
      (λ e. record {
        holds = record {
          wrote = closing o t xs l s ω τ 123 brace refl LeftBrace k (indent_or_space o s.formatter) (space_gaps o s.formatter);
          block = λ m. (1, omega arith, scan_open 0 t ts e k);
          start = λ m f g. impossible' f;
          pending = p;
          skip = refl;
        };
      })
      (λ e. open_block_lem i ts s ω (λ m. absurd (omega arith)) (λ m f. omega arith) p))))
