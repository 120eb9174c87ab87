-- The measures over sizes: rows that lie in a text have the sizes of the tokens that they name there, and the code's loops measure the sizes of the rows. Assumes nothing.
use mathlib.Core.Bool.{Bool, true, false, cond, ◌&&◌, ◌||◌, beq, and-true, and-false, and_comm}
use mathlib.Core.List.{List, [], ◌∷◌, ◌++◌}
use mathlib.Core.Path.{◌≡◌, refl, sym, ap, ◌∙◌}
use Prim.Native.Nat.{ℕ, ◌+◌, ◌-◌}
use native.Mathlib.Omega.{arith}
use lib.Dec.{eqb}
use borrow.Author.Tests.{eqb-true, eqb-false, eq-eqb, ne_eqb}
use Rattle.shared.proofs.Logic.{split}
use Rattle.rows.specs.Kinds.{TokenRow, Leading, Eof, RightParen, RightBracket}
use Rattle.rows.specs.Row.{Row, rows_of}
use Rattle.rows.specs.Token.{Trivia, trivia_of, tokens_from, tokens_of}
use Rattle.rows.specs.Bounds.{InBounds}
use Rattle.rows.proofs.Sound.{bytes-length}
use Rattle.lookahead.specs.declared.measure.Span.{Span}
use Rattle.lookahead.specs.declared.measure.Span.TheVariants.{Signature, Paren, Bracket}
use Rattle.lookahead.specs.Measure.{Sized, sizes, row_sizes, Measure, start, counted, measure_from, sig_stops, sig_measure, group_stops, top_level, opens_paren, group_measure, sig_breaks, list_breaks, should_break_sig, should_break_list}
use Rattle.lookahead.specs.Scan.{group_of, stops_at, top_in, counts, measure_rows}

-- ---- rows that lie in a text

sizes_from : (text : List ℕ) (l : List Trivia) (rs : List Row) → InBounds text rs → row_sizes rs ≡ sizes (tokens_from text l rs)
unfolding row_sizes tokens_from InBounds
sizes_from text l [] β = refl
sizes_from text l (r ∷ rs) β =
    split (eqb r.what TokenRow)
    (λ e. rw (e, bytes-length text r β.0) (ap (λ ts. record { kind = r.kind; size = r.end - r.start } ∷ ts) (sizes_from text [] rs β.1)))
    (λ e. rw e (sizes_from text (cond (eqb r.what Leading) (l ++ (trivia_of text r ∷ [])) l) rs β.1))

module _ (rows text : List ℕ) where
  pub sizes_in_bounds : InBounds text (rows_of rows) → row_sizes (rows_of rows) ≡ sizes (tokens_of rows text)
  unfolding tokens_of
  sizes_in_bounds β = sizes_from text [] (rows_of rows) β

  -- so a decision over the rows is that over the tokens
  module _ {x : Bool} (width : ℕ) where
    pub sig_tokens : x ≡ sig_breaks width (sig_measure (row_sizes (rows_of rows))) → InBounds text (rows_of rows) → x ≡ should_break_sig width (tokens_of rows text)
    unfolding should_break_sig
    sig_tokens e β = e ∙ ap (λ ts. sig_breaks width (sig_measure ts)) (sizes_in_bounds β)

    pub list_tokens : x ≡ list_breaks width (group_measure (row_sizes (rows_of rows))) → InBounds text (rows_of rows) → x ≡ should_break_list width (tokens_of rows text)
    unfolding should_break_list
    list_tokens e β = e ∙ ap (λ ts. list_breaks width (group_measure ts)) (sizes_in_bounds β)

-- ---- the code's tests

-- the definition's tests, by what is measured
abbrev stops_of : Span → Measure → ℕ → Bool
stops_of Signature m k = sig_stops m k
stops_of Paren m k = group_stops true m k
stops_of Bracket m k = group_stops false m k

abbrev top_of : Span → Measure → Bool
top_of Signature m = eqb m.paren_depth 1 && eqb m.bracket_depth 0
top_of Paren m = top_level true m
top_of Bracket m = top_level false m

-- directly inside the opening kind
top_paren : (p b : ℕ) → eqb (p + b) 1 && beq true (eqb p 1) ≡ eqb p 1 && eqb b 0
top_paren p b =
    split (eqb p 1)
    (λ e. let q = eqb-true p 1 e in split (eqb b 0)
    (λ f. let z = eqb-true b 0 f in rw (e, f, eq-eqb (p + b) 1 (omega arith)))
    (λ f. let n = eqb-false b 0 f in rw (e, f, ne_eqb (p + b) 1 (λ s. omega arith))))
    (λ e. rw e (and-false (eqb (p + b) 1)))

top_bracket : (p b : ℕ) → eqb (p + b) 1 && beq false (eqb p 1) ≡ eqb b 1 && eqb p 0
top_bracket p b =
    split (eqb b 1)
    (λ e. let q = eqb-true b 1 e in split (eqb p 0)
    (λ f. let z = eqb-true p 0 f in rw (e, f, eq-eqb (p + b) 1 (omega arith), ne_eqb p 1 (λ s. omega arith)))
    (λ f. let n = eqb-false p 0 f in rw (e, f, ne_eqb (p + b) 1 (λ s. omega arith))))
    (λ e. let n = eqb-false b 1 e in split (eqb p 1)
    (λ f. rw (e, f) (and-false (eqb (p + b) 1)))
    (λ f. let m = eqb-false p 1 f in rw (e, ne_eqb (p + b) 1 (λ s. omega arith))))

top_is : (span : Span) (m : Measure) → top_of span m ≡ top_in span m.paren_depth m.bracket_depth
top_is Signature m = refl
top_is Paren m = top_paren m.paren_depth m.bracket_depth
top_is Bracket m = top_bracket m.paren_depth m.bracket_depth

stops_is : (span : Span) (top : Bool) (m : Measure) (t : Sized) → stops_of span (counted top m t) t.kind || eqb t.kind Eof ≡ stops_at span m.paren_depth m.bracket_depth t.kind
stops_is Signature top m t = split (eqb t.kind RightParen) (λ e. rw (eqb-true t.kind RightParen e) (ap (λ b. b || false) (sym (and-true (eqb (m.paren_depth - 1) 0))))) (λ e. rw e)
stops_is Paren top m t =
    split (eqb t.kind RightParen) (λ e. rw (eqb-true t.kind RightParen e) refl)
    (λ e. rw (e, and-false))
stops_is Bracket top m t =
    split (eqb t.kind RightBracket) (λ e. rw (eqb-true t.kind RightBracket e) (ap (λ b. b || false) (and_comm (eqb m.paren_depth 0) (eqb (m.bracket_depth - 1) 0))))
    (λ e. rw (e, and-false))

-- ---- the code's loops

over-sizes : (span : Span) (m : Measure) (rs : List Row) → measure_from (stops_of span) (top_of span) m (row_sizes rs) ≡ measure_rows span m rs
unfolding measure_from row_sizes measure_rows
over-sizes span m [] = refl
over-sizes span m (r ∷ rs) =
    split (eqb r.what TokenRow)
    (λ e. rw (e, top_is span m, stops_is span _ m (record { kind = r.kind; size = r.end - r.start }))
    (split (stops_at span m.paren_depth m.bracket_depth r.kind) (λ f. rw f)
    (λ f. rw f (over-sizes span (counts span m r.kind (r.end - r.start)) rs))))
    (λ e. rw e (over-sizes span m rs))

pub sig_is : (rs : List Row) → sig_measure (row_sizes rs) ≡ measure_rows Signature start rs
sig_is rs = over-sizes Signature start rs

pub group_is : (rs : List Row) → group_measure (row_sizes rs) ≡ measure_rows (group_of (opens_paren (row_sizes rs))) start rs
group_is rs = go (opens_paren (row_sizes rs))
  where
    go : (b : Bool) → measure_from (group_stops b) (top_level b) start (row_sizes rs) ≡ measure_rows (group_of b) start rs
    go true = over-sizes Paren start rs
    go false = over-sizes Bracket start rs
