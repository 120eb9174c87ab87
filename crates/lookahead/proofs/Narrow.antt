-- The width of all tokens together: no list is wider; the loop of `total_width`. Assumes nothing.
use mathlib.Core.Bool.{true, false, and-false}
use mathlib.Core.List.{List, [], ◌∷◌}
use mathlib.Core.Path.{◌≡◌}
use Prim.Native.Nat.{ℕ, zero, suc, ◌+◌, ◌-◌, ◌*◌, ◌≤◌}
use native.Mathlib.Omega.{arith}
use lib.Dec.{eqb, ltb}
use lib.ListN.{length, drop}
use borrow.Author.Tests.{le-ltb, ltb-true, ltb-false}
use Rattle.shared.proofs.Logic.{split}
use Rattle.rows.specs.Kinds.{TokenRow}
use Rattle.rows.specs.Row.{Row, row_at, rows_of}
use Rattle.rows.specs.Bounds.{InBounds}
use Rattle.rows.specs.Token.{tokens_of}
use Rattle.rows.proofs.RowList.{part_cons, part_none}
use Rattle.lookahead.specs.declared.measure.Span.{Span}
use Rattle.lookahead.specs.Measure.{Measure, start, row_sizes, opens_paren, should_break_list}
use Rattle.lookahead.specs.Scan.{group_of, stops_at, counts, measure_rows, width_rows}
use Rattle.lookahead.proofs.Sizes.{sizes_in_bounds, group_is}

-- ---- no list is wider than all tokens

measure_most : (span : Span) (m : Measure) (rs : List Row) → (measure_rows span m rs).width ≤ m.width + width_rows rs
unfolding measure_rows width_rows
measure_most span m [] = omega arith
measure_most span m (r ∷ rs) =
    split (eqb r.what TokenRow)
    (λ t. rw t (split (stops_at span m.paren_depth m.bracket_depth r.kind) (λ s. rw s (omega arith))
    (λ s. rw s (let l = measure_most span (counts span m r.kind (r.end - r.start)) rs in omega arith))))
    (λ t. rw t (measure_most span m rs))

pub narrow : (w : ℕ) (rows text : List ℕ) → InBounds text (rows_of rows) → width_rows (rows_of rows) ≤ w → should_break_list w (tokens_of rows text) ≡ false
unfolding should_break_list
narrow w rows text β h =
    let span = group_of (opens_paren (row_sizes (rows_of rows))) in
    let m = measure_rows span start (rows_of rows) in
    let l = measure_most span start (rows_of rows) in
    rw (← sizes_in_bounds rows text β, group_is (rows_of rows), le-ltb w m.width (omega arith)) (and-false (ltb 0 m.commas))

-- ---- a part of the rows is no wider than the whole

width-rest : (r : Row) (rs : List Row) → width_rows rs ≤ width_rows (r ∷ rs)
unfolding width_rows
width-rest r rs = split (eqb r.what TokenRow) (λ t. rw t (omega arith)) (λ t. rw t (omega arith))

width-next : (at : ℕ) (rows : List ℕ) → width_rows (rows_of (drop (at + 16) rows)) ≤ width_rows (rows_of (drop at rows))
unfolding width_rows
width-next at rows =
    split (ltb (length rows) (at + 16))
    (λ b. let h = ltb-true (length rows) (at + 16) b in rw (part_none rows (at + 16) (omega arith)) (omega arith))
    (λ b. rw (part_cons rows at (ltb-false (length rows) (at + 16) b)) (width-rest (row_at rows at) (rows_of (drop (at + 16) rows))))

pub width_part : (j : ℕ) (rows : List ℕ) → width_rows (rows_of (drop (16 * j) rows)) ≤ width_rows (rows_of rows)
width_part zero rows = omega arith
width_part (suc j) rows =
    let n : 16 * suc j ≡ 16 * j + 16 = omega arith in
    let l = width_part j rows in
    let m = width-next (16 * j) rows in
    rw n (omega arith)

-- ---- the loop of `total_width`

module _ {left : List Row} {r : Row} {rs : List Row} (e : left ≡ r ∷ rs) where
  pub wider : eqb r.what TokenRow ≡ true → {n : ℕ} → n ≡ r.end - r.start → width_rows left ≡ n + 1 + width_rows rs
  unfolding width_rows
  wider t q = rw (e, t, q)

  pub no_wider : eqb r.what TokenRow ≡ false → width_rows left ≡ width_rows rs
  unfolding width_rows
  no_wider t = rw (e, t)

  pub one_less : length left ≡ length rs + 1
  one_less = rw e (omega arith)

pub no_width : {left : List Row} → left ≡ [] → width_rows left ≡ 0
unfolding width_rows
no_width e = rw e
