-- A row of trivia, and rows of trivia one by one. Assumes nothing.
use mathlib.Core.Bool.{false}
use mathlib.Core.List.{List, [], ◌∷◌, ◌++◌, map}
use mathlib.Core.Path.{◌≡◌, refl, sym, ap, ◌∙◌}
use Prim.Native.Nat.{ℕ, zero, suc, ◌+◌, ◌-◌, ◌*◌, ◌/◌, ◌≤◌, ◌<◌}
use lib.Dec.{eqb}
use native.Mathlib.Omega.{arith}
use lib.ListN.{length, take, drop, length-drop}
use borrow.Author.Tests.{eq-eqb, ne_eqb}
use Rattle.std.proofs.lemmas.List.{length-take, get_or-take, drop-take}
use Rattle.shared.specs.Bytes.{space}
use Rattle.rows.specs.Kinds.{BlockComment}
use Rattle.rows.specs.Row.{Row, number, row_at, first_rows, rows_of}
use Rattle.rows.specs.Bounds.{Inside, InBounds}
use Rattle.rows.specs.Options.{Options}
use Rattle.rows.specs.Token.{Trivia, line_comment, doc_comment, block_comment, blank_line, bytes_of, trivia_of}
use Rattle.rows.proofs.RowList.{rows_cons, rows_none}
use Rattle.lookahead.specs.Measure.{is_empty}
use Rattle.definition.specs.Act.{State, run}
use Rattle.definition.specs.Emit.{indent_or_space, leading_trivia, trailing_trivia, lead_act}
use Rattle.definition.proofs.Said.{said}
use Rattle.sink.specs.Appends.{Appends}
use Rattle.row_writers.specs.Comment.{comment_head, lead_tail}
use Rattle.sink.specs.declared.write.Sink.{Sink}
use Rattle.sink.proofs.Appends.{and_then, nothing}
use Rattle.formatter.specs.declared.Formatter.{Formatter}
use Rattle.row_writers.specs.declared.Source.{Source}
use Rattle.formatter.specs.CodeState.{Locals, CodeState, formatter_of, Given, given, options_of}
use Rattle.formatter.specs.Does.{Same, Does, Done, Puts}
use Rattle.formatter.specs.Trivia.{WholeRows, trivia_in, lead_token, trail_bytes}
use Rattle.formatter.proofs.Does.{does, then, same_options, seq, stays, updated}

-- ---- a row, by its kind

pub blank_row : (text : List ℕ) (r : Row) → BlockComment < r.kind → trivia_of text r ≡ blank_line
blank_row text r h =
    rw (ne_eqb r.kind 0 (λ e. omega arith), ne_eqb r.kind 1 (λ e. omega arith), ne_eqb r.kind 2 (λ e. omega arith))

module _ (o : Options) {x : Locals} {p q : CodeState} (text : List ℕ) (r : Row) (h : r.kind < 3) (z : given q.form ≡ given p.form) (c : formatter_of p.form x ≡ formatter_of q.form x) (n : p.form.commas ≡ q.form.commas) where
  pub lead-comment :
      Appends p.sink (indent_or_space o (formatter_of p.form x) ++ (comment_head r.kind ++ (space ++ bytes_of text r ++ lead_tail r.kind))) q.sink
      → Does (lead_act o (trivia_of text r)) x p q
  unfolding run said
  lead-comment w = go r.kind refl
    where
      go : (k : ℕ) → r.kind ≡ k → Does (lead_act o (trivia_of text r)) x p q
      go zero e = rw e (does z c n (rw e at w))
      go (suc zero) e = rw e (does z c n (rw e at w))
      go (suc (suc zero)) e = rw e (does z c n (rw e at w))
      go (suc (suc (suc k))) e = absurd (omega arith)

-- ---- the rows of a slice

number_take : (m j : ℕ) (b : List ℕ) → j + 4 ≤ m → number (take m b) j ≡ number b j
number_take m j b h = rw (get_or-take m b j 0 (omega arith), get_or-take m b (j + 1) 0 (omega arith), get_or-take m b (j + 2) 0 (omega arith), get_or-take m b (j + 3) 0 (omega arith))

first_take : (n : ℕ) (b : List ℕ) → 16 * n ≤ length b → rows_of (take (16 * n) b) ≡ first_rows n b
unfolding first_rows
first_take zero b h = rows_none [] (omega arith)
first_take (suc n) b h =
    let m : 16 * suc n ≡ 16 + 16 * n = omega arith in
    rw (m, rows_cons (take (16 + 16 * n) b) (omega (arith, length-take (16 + 16 * n) b)), drop-take 16 (16 * n) b)
    (rw (number_take (16 + 16 * n) 0 b (omega arith), number_take (16 + 16 * n) 4 b (omega arith), number_take (16 + 16 * n) 8 b (omega arith), number_take (16 + 16 * n) 12 b (omega arith))
    (ap (λ rs. row_at b 0 ∷ rs) (first_take n (drop 16 b) (omega (arith, length-drop 16 b)))))

module _ {rows text : List ℕ} {from to : ℕ} (π : WholeRows rows text from to) {left : List Row} (e : left ≡ rows_of (take (to - from) (drop from rows))) where
  slice_is : left ≡ first_rows ((to - from) / 16) (drop from rows)
  slice_is =
      let w = π.whole in
      let o = π.ordered in
      let i = π.within in
      let m : to - from ≡ 16 * ((to - from) / 16) = omega arith in
      e ∙ ap (λ n. rows_of (take n (drop from rows))) m ∙ first_take ((to - from) / 16) (drop from rows) (omega (arith, length-drop from rows))

  pub slice_bounds : InBounds text left
  slice_bounds = rw slice_is π.bounds

  pub slice_trivia : map (trivia_of text) left ≡ trivia_in rows text from to
  slice_trivia = rw slice_is

-- No rows have no trivia.
pub no_trivia : (rows text : List ℕ) {at to : ℕ} → to ≤ at → trivia_in rows text at to ≡ []
unfolding first_rows
no_trivia rows text {at} {to} h = let e : (to - at) / 16 ≡ 0 = omega arith in rw e

-- A token without leading rows has no leading trivia.
pub empty_is : (rows text : List ℕ) (from to : ℕ) → WholeRows rows text from to → eqb from to ≡ is_empty (trivia_in rows text from to)
unfolding first_rows
empty_is rows text from to π = go ((to - from) / 16) π.whole
  where
    go : (n : ℕ) → to ≡ from + 16 * n → eqb from to ≡ is_empty (map (trivia_of text) (first_rows n (drop from rows)))
    go zero e = eq-eqb from to (omega arith)
    go (suc n) e = ne_eqb from to (λ x. omega arith)

-- The first of some rows in the text, and the others.
pub bounds-first : {text : List ℕ} {left : List Row} {r : Row} {rs : List Row} → InBounds text left → left ≡ r ∷ rs → Inside text r × InBounds text rs
unfolding InBounds
bounds-first β e = rw e at β

-- ---- leading rows

-- From the state f, the rows that are left do what is left of what all of them do from the state f₀.
pub record LeadsLeft (all left : List Row) (f₀ f : CodeState) : Type 0 where
  pub bounds : InBounds f₀.form.text.now left
  pub same : Same f₀ f
  pub indent : f.form.indent ≤ 4294967295
  pub rest :
      (q : CodeState) → Done (leading_trivia (options_of f₀.form.options) (map (trivia_of f₀.form.text.now) left)) f q
      → Done (leading_trivia (options_of f₀.form.options) (map (trivia_of f₀.form.text.now) all)) f₀ q

pub same_source : {p q : CodeState} → Same p q → (given q.form).source ≡ (given p.form).source
same_source s = ap (λ (z : Given). z.source) s.given

same_text : {p q : CodeState} → Same p q → q.form.text.now ≡ p.form.text.now
same_text s = ap (λ (z : Source). z.text.now) (same_source s)

pub leads_start : {all : List Row} {f : CodeState} → InBounds f.form.text.now all → f.form.indent ≤ 4294967295 → LeadsLeft all all f f
leads_start β i = record { bounds = β; same = record { given = refl; lent = refl }; indent = i; rest = λ q d. d }

module _ {all left : List Row} {f₀ f : CodeState} (σ : LeadsLeft all left f₀ f) where
  module _ {r : Row} {rs : List Row} (e : left ≡ r ∷ rs) where
    pub lead_inside : Inside f.form.text.now r
    lead_inside = rw (same_text σ.same) (bounds-first σ.bounds e).0

    pub leads_more :
        {g : CodeState} → g.form.indent ≡ f.form.indent → Done (lead_act (options_of f.form.options) (trivia_of f.form.text.now r)) f g
        → LeadsLeft all rs f₀ g
    unfolding leading_trivia
    leads_more {g} i d =
        record {
          bounds = (bounds-first σ.bounds e).1;
          same = then σ.same (d none).same;
          indent = rw i σ.indent;
          rest = λ q y. σ.rest q (λ x. rw e (seq (same-lead x) (y _)));
        }
      where
        none : Locals
        none = record { inline_close = false; returned = false; skip_next = false; too_deep = Rattle.std.proofs.Math.Option.none }

        same-lead : Done (lead_act (options_of f₀.form.options) (trivia_of f₀.form.text.now r)) f g
        same-lead = rw (sym (same_options σ.same), sym (same_text σ.same)) d

  -- At the end nothing is left.
  pub leads_done : left ≡ [] → Done (leading_trivia (options_of f₀.form.options) (map (trivia_of f₀.form.text.now) all)) f₀ f
  unfolding leading_trivia
  leads_done e = σ.rest f (λ x. rw e stays)

-- And `just_closed_inline` stays, where there was a row.
pub lead_done :
    {rows text : List ℕ} {from to : ℕ} → WholeRows rows text from to → from < to → (o : Options) {p q : CodeState}
    → Done (leading_trivia o (trivia_in rows text from to)) p q → Done (lead_token o (trivia_in rows text from to)) p q
lead_done {rows} {text} {from} {to} π h o d x = seq (d x) (rw (← empty_is rows text from to π, ne_eqb from to (λ e. omega arith)) (updated refl refl refl nothing))

-- ---- trailing rows

unfoldable pub trails_bytes : List Trivia → List ℕ
trails_bytes [] = []
trails_bytes (t ∷ ts) = trail_bytes t ++ trails_bytes ts

-- Trailing trivia write their bytes, and change no field.
trailing_said : (ts : List Trivia) (s : State) → said (trailing_trivia ts) s ≡ trails_bytes ts
unfolding said run trailing_trivia trails_bytes
trailing_said [] s = refl
trailing_said (line_comment c ∷ ts) s = rw (trailing_said ts)
trailing_said (doc_comment c ∷ ts) s = rw (trailing_said ts)
trailing_said (block_comment c ∷ ts) s = rw (trailing_said ts)
trailing_said (blank_line ∷ ts) s = trailing_said ts s

record SameState (s t : State) : Type 0 where
  pub formatter : t.formatter ≡ s.formatter
  pub commas : t.commas ≡ s.commas

trailing-same : (ts : List Trivia) (s : State) → SameState s (run (trailing_trivia ts) s)
unfolding run trailing_trivia
trailing-same [] s = record { formatter = refl; commas = refl }
trailing-same (line_comment c ∷ ts) s = let h = trailing-same ts _ in record { formatter = h.formatter; commas = h.commas }
trailing-same (doc_comment c ∷ ts) s = let h = trailing-same ts _ in record { formatter = h.formatter; commas = h.commas }
trailing-same (block_comment c ∷ ts) s = let h = trailing-same ts _ in record { formatter = h.formatter; commas = h.commas }
trailing-same (blank_line ∷ ts) s = let h = trailing-same ts _ in record { formatter = h.formatter; commas = h.commas }

trailing_does :
    (ts : List Trivia) {x : Locals} {p q : CodeState} → given q.form ≡ given p.form → formatter_of p.form x ≡ formatter_of q.form x
    → p.form.commas ≡ q.form.commas → Appends p.sink (trails_bytes ts) q.sink
    → Does (trailing_trivia ts) x p q
trailing_does ts z c n w =
    let h = trailing-same ts _ in
    does z (rw h.formatter c) (h.commas ∙ n) (rw (trailing_said ts) w)

-- The rows that are left write what is left of what all of them write.
pub record TrailsLeft (text : List ℕ) (all left : List Row) (s₀ s : Sink) : Type 0 where
  pub bounds : InBounds text left
  pub rest : (t : Sink) → Appends s (trails_bytes (map (trivia_of text) left)) t → Appends s₀ (trails_bytes (map (trivia_of text) all)) t

pub trails_start : {text : List ℕ} {all : List Row} {s : Sink} → InBounds text all → TrailsLeft text all all s s
trails_start β = record { bounds = β; rest = λ t w. w }

module _ {text : List ℕ} {all left : List Row} {s₀ s : Sink} (τ : TrailsLeft text all left s₀ s) where
  pub trails_more : {r : Row} {rs : List Row} → left ≡ r ∷ rs → {t : Sink} → Appends s (trail_bytes (trivia_of text r)) t → TrailsLeft text all rs s₀ t
  unfolding trails_bytes
  trails_more e w = record { bounds = (bounds-first τ.bounds e).1; rest = λ u y. τ.rest u (rw e (and_then w y)) }

  pub trails_done : left ≡ [] → {f : Formatter} → Puts (trailing_trivia (map (trivia_of text) all)) f s₀ f s
  unfolding trails_bytes
  trails_done e x = trailing_does _ refl refl refl (τ.rest s (rw e nothing))
