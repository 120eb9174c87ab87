-- What those who walk checked rows may take for granted. Assumes nothing.
use mathlib.Core.Bool.{Bool, true, false, cond, not, ◌&&◌, ◌||◌}
use mathlib.Core.List.{List, [], ◌∷◌}
use mathlib.Core.Option.{Option, none, some}
use mathlib.Core.Path.{◌≡◌, refl}
use Prim.Native.Nat.{ℕ, zero, suc, ◌+◌, ◌-◌, ◌≤◌, ◌<◌}
use native.Mathlib.Omega.{arith}
use lib.Dec.{eqb, ltb}
use lib.ListN.{length, get_or}
use lib.Seq.{length-slice}
use borrow.Author.Tests.{ltb-false}
use Rattle.shared.proofs.Logic.{or_left, or_right}
use Rattle.rows.specs.Kinds.{TokenRow, Trailing, Other}
use Rattle.rows.specs.Row.{Row}
use Rattle.rows.specs.Token.{bytes_of}
use Rattle.rows.specs.Bounds.{Inside, InBounds}
use Rattle.rows.specs.Checks.{Before, after, may_trail, top_kind, bad_row, bad_from}
pub use Rattle.rows.specs.Checks.{misnamed}

-- a row that is not bad, where the text has `size` bytes
pub record Sound (size : ℕ) (before : Before) (r : Row) : Type 0 where
  pub known_what : r.what ≤ Trailing
  pub known_kind : r.kind ≤ top_kind r.what
  pub ordered : r.start ≤ r.end
  pub within : r.end ≤ size
  pub trails : eqb r.what Trailing && not (may_trail before) ≡ false

pub sound : (size : ℕ) (before : Before) (r : Row) → bad_row size before r ≡ false → Sound size before r
sound size before r e =
    let a = ltb Trailing r.what in
    let b = ltb (top_kind r.what) r.kind in
    let c = ltb r.end r.start in
    let d = ltb size r.end in
    let t = eqb r.what Trailing && not (may_trail before) in
    let e₄ = or_left (a || b || c || d) t e in
    let e₃ = or_left (a || b || c) d e₄ in
    let e₂ = or_left (a || b) c e₃ in
    record {
      known_what = ltb-false _ _ (or_left a b e₂);
      known_kind = ltb-false _ _ (or_right a b e₂);
      ordered = ltb-false _ _ (or_right (a || b) c e₃);
      within = ltb-false _ _ (or_right (a || b || c) d e₄);
      trails = or_right (a || b || c || d) t e;
    }

-- a token's row: what `misnames` answers of it

or_none : (a : Bool) → a || false ≡ a
or_none true = refl
or_none false = refl

pub token_bad : (size : ℕ) (before : Before) (r : Row) → r.what ≡ TokenRow → bad_row size before r ≡ misnamed Other size r
token_bad size before r w = rw w (or_none (misnamed Other size r))

-- ---- the rows of a list that is not refused

passed : (b : Bool) (i : ℕ) (o : Option ℕ) → cond b (some i) o ≡ none → (b ≡ false) × (o ≡ none)
passed true i o e = let z : ◌≡◌ {A = ℕ} 0 1 = cc in absurd (omega arith)
passed false i o e = (refl, e)

module _ (size : ℕ) (before : Before) (i : ℕ) (r : Row) (rs : List Row) (e : bad_from size before i (r ∷ rs) ≡ none) where
  split_off : (bad_row size before r ≡ false) × (bad_from size (after r.what) (i + 1) rs ≡ none)
  unfolding bad_from
  split_off = passed (bad_row size before r) i (bad_from size (after r.what) (i + 1) rs) e

  pub first_sound : Sound size before r
  first_sound = sound size before r split_off.0

  pub rest-good : bad_from size (after r.what) (i + 1) rs ≡ none
  rest-good = split_off.1

pub in_bounds : (text : List ℕ) (before : Before) (i : ℕ) (rs : List Row) → bad_from (length text) before i rs ≡ none → InBounds text rs
unfolding InBounds
in_bounds text before i [] e = tt
in_bounds text before i (r ∷ rs) e =
    let σ = first_sound (length text) before i r rs e in
    (record { ordered = σ.ordered; within = σ.within }, in_bounds text (after r.what) (i + 1) rs (rest-good (length text) before i r rs e))

-- every row by its index, whatever stands before it
sound_at : (size : ℕ) (before : Before) (i : ℕ) (rs : List Row) → bad_from size before i rs ≡ none → (j : ℕ) (d : Row) → j < length rs → (b : Before) × Sound size b (get_or rs j d)
sound_at size before i [] e j d h = absurd (omega arith)
sound_at size before i (r ∷ rs) e zero d h = (before, first_sound size before i r rs e)
sound_at size before i (r ∷ rs) e (suc j) d h = sound_at size (after r.what) (i + 1) rs (rest-good size before i r rs e) j d (omega arith)

-- a token's row names one of the 35 kinds
pub known_kinds : (size : ℕ) (before : Before) (i : ℕ) (rs : List Row) → bad_from size before i rs ≡ none → (k : ℕ) (d : Row) → k < length rs → (get_or rs k d).what ≡ TokenRow → (get_or rs k d).kind ≤ Other
known_kinds size before i rs e k d h w = rw w at (sound_at size before i rs e k d h).1.known_kind

-- ---- the bytes of a row

pub bytes-length : (text : List ℕ) (r : Row) → Inside text r → length (bytes_of text r) ≡ r.end - r.start
bytes-length text r σ = length-slice r.start r.end text σ.within
