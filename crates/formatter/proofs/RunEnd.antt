-- The row at an index, and where a run of rows ends. Assumes nothing.
use mathlib.Core.List.{List, [], ◌∷◌}
use mathlib.Core.Path.{◌≡◌, refl}
use Prim.Native.Nat.{ℕ, ◌+◌, ◌-◌, ◌*◌, ◌≤◌, ◌<◌}
use native.Mathlib.Omega.{arith}
use borrow.Author.Tests.{ltb-true, ltb-false, ne_eqb, eq-eqb}
use lib.Dec.{ltb}
use lib.ListN.{length, take, drop, length-drop}
use Rattle.std.proofs.lemmas.List.{take_rest}
use Rattle.shared.proofs.Logic.{split}
use Rattle.rows.specs.Row.{Row, row_at, rows_of}
use Rattle.rows.proofs.RowList.{part_cons, part_none, rows_length}
use Rattle.formatter.specs.Format.{run_rows}

-- r is the row at an index, and rs are the rows after it.
pub record RowAt (rows : List ℕ) (at : ℕ) (r : Row) (rs : List Row) : Type 0 where
  pub within : at + 16 ≤ length rows
  pub row : r ≡ row_at rows at
  pub after : rs ≡ rows_of (drop (at + 16) rows)

pub first_at : (rows : List ℕ) (at : ℕ) {r : Row} {rs : List Row} → rows_of (drop at rows) ≡ r ∷ rs → RowAt rows at r rs
first_at rows at {r} {rs} e =
    split (ltb (length rows) (at + 16))
    (λ b. absurd (cc (part_none rows at (ltb-true (length rows) (at + 16) b))))
    (λ b. let h = ltb-false (length rows) (at + 16) b in record { within = h; row = cc (part_cons rows at h); after = cc (part_cons rows at h) })

-- There is no run where another row stands, or none.
pub other_run : (what : ℕ) (rows : List ℕ) (at : ℕ) → at + 16 ≤ length rows → ((row_at rows at).what ≡ what → ⊥) → run_rows what (rows_of (drop at rows)) ≡ 0
unfolding run_rows
other_run what rows at h e = rw (part_cons rows at h, ne_eqb _ _ e)

pub none-run : (what : ℕ) (rows : List ℕ) (at : ℕ) → length rows < at + 16 → run_rows what (rows_of (drop at rows)) ≡ 0
unfolding run_rows
none-run what rows at h = rw (part_none rows at h)

-- The run that starts at `from` goes on at `end`, where these rows are left.
pub record Runs (what : ℕ) (rows : List ℕ) (from end : ℕ) (left : List Row) : Type 0 where
  pub within : end + 16 * length left ≤ length rows
  pub same : end + 16 * run_rows what left ≡ from + 16 * run_rows what (rows_of (drop from rows))

pub runs_start : {what : ℕ} {rows : List ℕ} {from : ℕ} → from ≤ length rows → {left : List Row} → left ≡ rows_of (take (length rows - from) (drop from rows)) → Runs what rows from from left
runs_start {rows = rows} {from = from} h e = rw (e, take_rest rows from) (record { within = omega (arith, rows_length (drop from rows), length-drop from rows); same = refl })

module _ {what : ℕ} {rows : List ℕ} {from end : ℕ} {left : List Row} (ρ : Runs what rows from end left) where
  module _ {r : Row} {rs : List Row} (e : left ≡ r ∷ rs) where
    pub runs_more : r.what ≡ what → Runs what rows from (end + 16) rs
    unfolding run_rows
    runs_more h = let w = rw e at ρ.within in let s = rw (e, eq-eqb _ _ h) at ρ.same in record { within = omega arith; same = omega arith }

    pub runs_other : (r.what ≡ what → ⊥) → end ≡ from + 16 * run_rows what (rows_of (drop from rows))
    unfolding run_rows
    runs_other h = let s = rw (e, ne_eqb _ _ h) at ρ.same in omega arith

  pub runs_none : left ≡ [] → end ≡ from + 16 * run_rows what (rows_of (drop from rows))
  unfolding run_rows
  runs_none e = let s = rw e at ρ.same in omega arith
