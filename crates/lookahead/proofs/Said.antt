-- What the measures and decisions over rows say of the sizes of the rows. Assumes nothing.
use mathlib.Core.Bool.{Bool, true, false, ◌&&◌, ◌||◌, and-true}
use mathlib.Core.List.{List, [], ◌∷◌}
use mathlib.Core.Path.{◌≡◌, refl, sym, ap, ◌∙◌}
use Prim.Native.Nat.{ℕ, ◌+◌, ◌-◌, ◌≤◌, ◌<◌}
use native.Mathlib.Omega.{arith}
use lib.Dec.{eqb, ltb}
use lib.ListN.{length}
use borrow.Author.Tests.{lt-ltb, le-ltb, ltb-true, ltb-false}
use Rattle.shared.proofs.Logic.{split}
use Rattle.rows.specs.Kinds.{TokenRow}
use Rattle.rows.specs.Row.{Row, rows_of}
use Rattle.rows.specs.Checks.{most_row_bytes}
use Rattle.lookahead.specs.declared.measure.Span.{Span}
use Rattle.lookahead.specs.declared.measure.Span.TheVariants.{Signature}
use Rattle.lookahead.specs.Answer.{measured, sig_answer, group_answer}
use Rattle.lookahead.specs.Measure.{Measure, start, row_sizes, opens_paren, params, measure_from, sig_measure, group_measure, sig_breaks, list_breaks}
use Rattle.lookahead.specs.Scan.{stops_at, counts, measure_rows, measure_of, breaks, breaks_at, group_of}
use Rattle.lookahead.proofs.Steps.{positive}
use Rattle.lookahead.proofs.Sizes.{sig_is, group_is}
use Rattle.lookahead.specs.declared.measure.Measure

-- ---- a token was seen exactly where there is a width

record Seen (m : Measure) : Type 0 where
  pub saw : m.saw_token ≡ ltb 0 m.width
  pub none : m.width ≡ 0 → m.commas ≡ 0

seen_rows : (span : Span) (m : Measure) (rs : List Row) → Seen m → Seen (measure_rows span m rs)
unfolding measure_rows
seen_rows span m [] σ = σ
seen_rows span m (r ∷ rs) σ =
    split (eqb r.what TokenRow)
    (λ e. rw e (split (stops_at span m.paren_depth m.bracket_depth r.kind) (λ f. rw f σ)
    (λ f. rw f (seen_rows span (counts span m r.kind (r.end - r.start)) rs
    (record { saw = sym (lt-ltb 0 (m.width + (r.end - r.start + 1)) (omega arith)); none = λ z. absurd (omega arith) })))))
    (λ e. rw e (seen_rows span m rs σ))

-- more than 3 params are more than 2 commas
one_more : (n c : ℕ) → ltb (n + 1) (c + 1) ≡ ltb n c
one_more n c =
    split (ltb n c)
    (λ e. let h = ltb-true n c e in rw (e, lt-ltb (n + 1) (c + 1) (omega arith)))
    (λ e. let h = ltb-false n c e in rw (e, le-ltb (n + 1) (c + 1) (omega arith)))

sig_breaks_lem : (limit : ℕ) (m : Measure) → Seen m → (ltb 3 (params m) || ltb limit m.width) && ltb 0 (params m) ≡ breaks_at Signature limit m
sig_breaks_lem limit m σ =
    split (ltb 0 m.width)
    (λ e. rw (σ.saw, e, one_more 2 m.commas, lt-ltb 0 (m.commas + 1) (omega arith)) (and-true _))
    (λ e. let z : m.width ≡ 0 = let h = ltb-false 0 m.width e in omega arith in
    rw (σ.saw, e, z, σ.none z, le-ltb limit 0 (omega arith)))

-- ---- the decisions

module _ (rows : List ℕ) where
  pub sig_said : {x : Bool} (limit : ℕ) → x ≡ breaks_at Signature limit (measure_rows Signature start (rows_of rows)) → x ≡ sig_breaks limit (sig_measure (row_sizes (rows_of rows)))
  sig_said limit e = e ∙ sym (rw (sig_is (rows_of rows)) (sig_breaks_lem limit (measure_rows Signature start (rows_of rows)) (seen_rows Signature start (rows_of rows) (record { saw = refl; none = λ z. refl }))))

  breaks-group : (b : Bool) (limit c w : ℕ) → breaks (group_of b) limit c w ≡ ltb 0 c && ltb limit w
  breaks-group true limit c w = refl
  breaks-group false limit c w = refl

  pub list_said : {x : Bool} (limit : ℕ) → x ≡ breaks_at (group_of (opens_paren (row_sizes (rows_of rows)))) limit (measure_rows (group_of (opens_paren (row_sizes (rows_of rows)))) start (rows_of rows)) → x ≡ list_breaks limit (group_measure (row_sizes (rows_of rows)))
  list_said limit e = e ∙ breaks-group (opens_paren (row_sizes (rows_of rows))) limit _ _ ∙ sym (ap (list_breaks limit) (group_is (rows_of rows)))

  -- ---- the measures

  module _ (many : most_row_bytes < length rows) where
    pub sig_none : record { params = 0; width = 0 } ≡ sig_answer rows
    unfolding measure_from
    sig_none = rw (lt-ltb most_row_bytes (length rows) many)

    pub group-none : record { commas = 0; width = 0 } ≡ group_answer rows
    unfolding measure_from
    group-none = rw (lt-ltb most_row_bytes (length rows) many)

  module _ (few : length rows ≤ most_row_bytes) (m : Measure.Measure) where
    few-measured : measured rows ≡ row_sizes (rows_of rows)
    few-measured = rw (le-ltb most_row_bytes (length rows) few)

    module _ (e : measure_of m ≡ measure_rows Signature start (rows_of rows)) where
      pub no_params : m.width ≡ 0 → record { params = 0; width = 0 } ≡ sig_answer rows
      no_params z = rw (few-measured, sig_is (rows_of rows), ← e, z)

      pub some_params : (m.width ≡ 0 → ⊥) → record { params = m.commas + 1; width = m.width } ≡ sig_answer rows
      some_params n = rw (few-measured, sig_is (rows_of rows), ← e, positive m.width n)

    pub group_said : measure_of m ≡ measure_rows (group_of (opens_paren (row_sizes (rows_of rows)))) start (rows_of rows) → record { commas = m.commas; width = m.width } ≡ group_answer rows
    group_said e = rw (few-measured, group_is (rows_of rows), ← e)
