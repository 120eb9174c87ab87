-- The loop of `check_each_row`: what is left to look at completes the answer. Assumes nothing.
use mathlib.Core.Bool.{true, false, cond}
use mathlib.Core.Option.{none, some}
use mathlib.Core.List.{List, [], ◌∷◌}
use mathlib.Core.Path.{◌≡◌, refl, sym, ◌∙◌}
use Prim.Native.Nat.{ℕ, ◌+◌, ◌-◌, ◌/◌, ◌<◌}
use native.Mathlib.Omega.{arith}
use lib.ListN.{length}
use Rattle.std.specs.Prelude.{Option, None, Some, Ok, Err, MatchOption}
use Rattle.shared.specs.Report.{success, bad_row}
use Rattle.rows.specs.declared.kind.What.{What}
use Rattle.rows.specs.declared.kind.What.TheVariants.{Leading, Token, Trailing}
use Rattle.rows.specs.declared.CheckError.TheVariants.{BadRow}
use Rattle.rows.specs.Row.{Row, rows_of}
use Rattle.rows.specs.KindNumber.{what_number, before_of}
use Rattle.rows.specs.Checks.{orphan, bad_from}
use Rattle.rows.proofs.Sound.{sound}
use Rattle.rows.specs.Kinds.{Trailing as TrailingRow}
use Rattle.rows.specs.Answer.{reported, refuse_or, each_row_report}
use Rattle.rows.proofs.RowList.{rows_length}
use Rattle.rows.specs.Checks

-- at the loop's head: i rows are good, the last of them was of the what `before`, or there was none, and `left` are left
pub record State (rows : List ℕ) (size : ℕ) (before : Option What) (left : List Row) (i : ℕ) : Type 0 where
  pub place : i + length left ≡ length rows / 16
  pub some_row : before ≡ Some Leading → 0 < i
  pub said : each_row_report rows size ≡ refuse_or bad_row (bad_from size (before_of before) i left) (success 0 0 0)

pub start : (rows : List ℕ) (size : ℕ) → State rows size None (rows_of rows) 0
unfolding each_row_report
start rows size = record { place = omega (arith, rows_length rows); some_row = λ e. absurd (cc e); said = refl }

-- where no leading row stands last, none is an orphan
calm : (before : Option What) (i : ℕ) → (before ≡ Some Leading → ⊥) → refuse_or bad_row (cond (orphan (before_of before)) (some (i - 1)) none) (success 0 0 0) ≡ success 0 0 0
calm None i n = refl
calm (Some Leading) i n = absurd (n refl)
calm (Some Token) i n = refl
calm (Some Trailing) i n = refl

module _ {rows : List ℕ} {size : ℕ} {before : Option What} {i : ℕ} {left : List Row} (σ : State rows size before left i) where
  module _ {r : Row} {rs : List Row} (e : left ≡ r ∷ rs) where
    pub bad : Checks.bad_row size (before_of before) r ≡ true → reported (Err (BadRow i)) ≡ each_row_report rows size
    unfolding bad_from
    bad b = sym (σ.said ∙ rw (e, b))

    pub more : Checks.bad_row size (before_of before) r ≡ false → (w : Option What) → MatchOption w (TrailingRow < r.what) (λ w. what_number w ≡ r.what) → State rows size w rs (i + 1)
    unfolding bad_from
    more b None m = let k = (sound size (before_of before) r b).known_what in absurd (omega arith)
    more b (Some w) m = record { place = omega (arith, rw e at σ.place); some_row = λ z. omega arith; said = σ.said ∙ rw (e, b, m) }

  module _ (e : left ≡ []) where
    pub orphaned : before ≡ Some Leading → reported (Err (BadRow (length rows / 16 - 1))) ≡ each_row_report rows size
    unfolding bad_from
    orphaned b = let p : i ≡ length rows / 16 = omega (arith, rw e at σ.place) in sym (σ.said ∙ rw (e, b, p))

    pub good : (before ≡ Some Leading → ⊥) → reported (Ok tt) ≡ each_row_report rows size
    unfolding bad_from
    good n = sym (σ.said ∙ rw e (calm before i n))
