-- What a caller knows where `check` answers Good. Assumes nothing.
use mathlib.Core.Bool.{false, not}
use mathlib.Core.List.{List}
use mathlib.Core.Option.{Option, none, some}
use mathlib.Core.Path.{◌≡◌, refl, ap}
use Prim.Native.Nat.{ℕ, ◌*◌, ◌/◌, ◌%◌, ◌≤◌}
use native.Mathlib.Omega.{arith}
use lib.Dec.{eqb, ltb}
use lib.ListN.{length}
use borrow.Author.Tests.{eqb-true, ltb-false, not-false}
use Rattle.shared.specs.Report.{Report, success, option, ragged_rows, bad_row}
use Rattle.shared.proofs.Logic.{or_left, or_right, split}
use Rattle.rows.specs.Row.{row_size, rows_of}
use Rattle.rows.specs.Options.{bad_option}
use Rattle.rows.specs.Checks.{most_rows, most_row_bytes, ragged, at_start, bad_from, GoodRows}
use Rattle.rows.specs.Answer.{refuse_or, each_row_report, rows_report, check_report}

-- none of the refusals 1, 2 and 3
pub record Passed (style indent signature list : ℕ) (rows : List ℕ) (size : ℕ) : Type 0 where
  pub options : bad_option style indent signature list ≡ none
  pub even : ragged rows ≡ false
  pub each : GoodRows rows size

-- a refusal is no success
no_refusal : (number : ℕ) (o : Option ℕ) (r : Report) → refuse_or number o r ≡ success 0 0 0 → (number ≡ 0 → ⊥) → (o ≡ none) × (r ≡ success 0 0 0)
no_refusal number none r e n = (refl, e)
no_refusal number (some i) r e n = absurd (n (ap (λ x. x.refusal) e))

pub passed : (style indent signature list : ℕ) (rows : List ℕ) (size : ℕ) → check_report style indent signature list rows size ≡ success 0 0 0 → Passed style indent signature list rows size
unfolding check_report rows_report each_row_report
passed style indent signature list rows size e =
    let f = no_refusal option (bad_option style indent signature list) (rows_report rows size) e (λ z. omega arith) in
    split (ragged rows)
    (λ r. let z : ragged_rows ≡ 0 = ap (λ x. x.refusal) (rw r at f.1) in absurd (omega arith))
    (λ r. record { options = f.0; even = r; each = (no_refusal bad_row (bad_from size at_start 0 (rows_of rows)) (success 0 0 0) (rw r at f.1) (λ z. omega arith)).0 })

module _ {style indent signature list : ℕ} {rows : List ℕ} {size : ℕ} (π : Passed style indent signature list rows size) where
  pub whole_rows : length rows ≡ row_size * (length rows / row_size)
  whole_rows =
      let z : length rows % row_size ≡ 0 = eqb-true (length rows % row_size) 0 (not-false _ (or_left (not (eqb (length rows % row_size) 0)) (ltb most_rows (length rows / row_size)) π.even)) in
      omega arith

  pub few_rows : length rows ≤ most_row_bytes
  few_rows =
      let m : length rows / row_size ≤ most_rows = ltb-false most_rows (length rows / row_size) (or_right (not (eqb (length rows % row_size) 0)) (ltb most_rows (length rows / row_size)) π.even) in
      omega (arith, whole_rows)
