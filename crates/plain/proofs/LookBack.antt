-- The facts at an index, from those a row before it: what the code finds as it looks back. Assumes nothing.
use mathlib.Core.Bool.{true, false, ◌&&◌, and-false}
use mathlib.Core.List.{List}
use mathlib.Core.Path.{◌≡◌, refl, sym, ap, ◌∙◌}
use Prim.Native.Nat.{ℕ, zero, suc, ◌+◌, ◌-◌, ◌/◌, ◌≤◌, ◌<◌, min}
use native.Mathlib.Nat.{min-eq_left, min-eq_right}
use native.Mathlib.Omega.{arith}
use lib.Dec.{eqb, leb, ltb}
use lib.ListN.{length, take, drop, length-take}
use lib.Seq.{take_all, take-length}
use Rattle.std.proofs.lemmas.List.{get_or-drop}
use borrow.Author.Tests.{eq-eqb, ne_eqb, eqb-true, eqb-false, leb-true, leb-false, ltb-true, ltb-false}
use Rattle.shared.proofs.Logic.{split}
use Rattle.rows.specs.Kinds.{Eof, Newline, LeftBrace, Comma, Record}
use Rattle.rows.specs.Row.{Row, number, row_at}
use Rattle.rows.specs.Token.{bytes_of}
use Rattle.rows.proofs.RowList.{row_take}
use Rattle.definition.specs.Plain.{tight_before}
use Rattle.plain.specs.Scan.{Facts, unseen, mute, facts_after, meets, meets_after}
use Rattle.plain.specs.LookBack.{facts_from, facts_at, seen}
use Rattle.plain.proofs.Bytes.{part_slice}
use Rattle.plain.proofs.Tests.{tight_high}

module _ (rows text : List ℕ) where
  pub facts_none : (at : ℕ) → at < 16 → facts_at rows text at ≡ unseen
  unfolding facts_from
  facts_none at h = let z : at / 16 ≡ 0 = omega arith in rw z

  -- after the row at an index
  pub facts_next : (at : ℕ) → facts_at rows text (at + 16) ≡ facts_after (facts_at rows text at) (row_at rows at).kind (bytes_of text (row_at rows at))
  unfolding facts_from
  facts_next at =
      let n : (at + 16) / 16 ≡ suc (at / 16) = omega arith in
      let z : at + 16 - 16 ≡ at = omega arith in
      rw (n, z)

-- ---- of the rows before an index alone

facts_take : (rows text : List ℕ) (at n i : ℕ) → n ≤ i / 16 → i ≤ at → facts_from (take at rows) text n i ≡ facts_from rows text n i
unfolding facts_from
facts_take rows text at zero i l h = refl
facts_take rows text at (suc n) i l h =
    ap (λ r. facts_after (facts_from (take at rows) text n (i - 16)) r.kind (bytes_of text r)) (row_take at (i - 16) rows (omega arith))
    ∙ ap (λ q. facts_after q (row_at rows (i - 16)).kind (bytes_of text (row_at rows (i - 16)))) (facts_take rows text at n (i - 16) (omega arith) (omega arith))

pub seen-take : (rows text : List ℕ) (at : ℕ) → at ≤ length rows → seen (take at rows) text ≡ facts_at rows text at
seen-take rows text at h =
    let e : length (take at rows) ≡ at = omega (arith, length-take at rows) in
    rw (e, facts_take rows text at (at / 16) at (omega arith) (omega arith))

pub seen-none : (rows text : List ℕ) → length rows < 16 → seen rows text ≡ unseen
seen-none rows text h = facts_none rows text (length rows) h

-- ---- by the last row

number_drop : (at j : ℕ) (rows : List ℕ) → number (drop at rows) j ≡ number rows (at + j)
number_drop at j rows =
    let a : at + (j + 1) ≡ at + j + 1 = omega arith in
    let b : at + (j + 2) ≡ at + j + 2 = omega arith in
    let c : at + (j + 3) ≡ at + j + 3 = omega arith in
    rw (get_or-drop at rows j 0, get_or-drop at rows (j + 1) 0, get_or-drop at rows (j + 2) 0, get_or-drop at rows (j + 3) 0, a, b, c)

row_drop : (at : ℕ) (rows : List ℕ) → row_at (drop at rows) 0 ≡ row_at rows at
row_drop at rows =
    let z : at + 0 ≡ at = omega arith in
    rw (number_drop at 0 rows, number_drop at (0 + 4) rows, number_drop at (0 + 8) rows, number_drop at (0 + 12) rows, z)

-- the rows with the last one apart
pub record Last (rows rest row : List ℕ) : Type 0 where
  pub before : rest ≡ take (length rows - 16) rows
  pub here : row ≡ drop (length rows - 16) rows
  pub long : length rest + 16 ≡ length rows

pub last_of : {rows rest row : List ℕ} → (rest ≡ take (length rows - 16) rows) × (row ≡ drop (length rows - 16) rows) × (length rest + 16 ≡ length rows) → Last rows rest row
last_of e = record { before = e.0; here = e.1; long = e.2 }

module _ {rows rest row : List ℕ} (σ : Last rows rest row) (text : List ℕ) where
  abbrev kind : ℕ
  kind = number row 4

  abbrev now : Facts
  now = seen rows text

  abbrev before : Facts
  before = seen rest text

  is : now ≡ facts_after before kind (bytes_of text (row_at row 0))
  is =
      let i = length rows - 16 in
      let e : i + 16 ≡ length rows = omega (arith, σ.long) in
      let r : seen rest text ≡ facts_at rows text i = rw σ.before (seen-take rows text i (omega arith)) in
      let w : row_at row 0 ≡ row_at rows i = rw σ.here (row_drop i rows) in
      ap (facts_at rows text) (sym e)
      ∙ facts_next rows text i
      ∙ ap (λ x. facts_after (facts_at rows text i) x.kind (bytes_of text x)) (sym w)
      ∙ ap (λ q. facts_after q kind (bytes_of text (row_at row 0))) (sym r)

  -- the code has the kind as one of its own, by the number x
  module _ {x : ℕ} (e : x ≡ min kind 34) where
    same_kind : (j : ℕ) → j < 34 → eqb kind j ≡ eqb x j
    same_kind j h =
        split (eqb x j) (λ q. let z = eqb-true x j q in rw (q, eq-eqb kind j (omega arith)))
        (λ q. let n = eqb-false x j q in rw (q, ne_eqb kind j (λ z. n (omega arith))))

    pub comma_eof : x ≡ Eof → now.comma ≡ before.comma
    comma_eof z = ap (λ q. q.comma) is ∙ rw (same_kind Eof (omega arith), z)

    pub comma_other : (x ≡ Eof → ⊥) → now.comma ≡ eqb x Comma
    comma_other n = ap (λ q. q.comma) is ∙ rw (same_kind Eof (omega arith), same_kind Comma (omega arith), ne_eqb x Eof n)

    pub opened : eqb x LeftBrace && before.armed ≡ now.opened
    opened = sym (ap (λ q. q.opened) is ∙ rw (same_kind LeftBrace (omega arith)))

    pub armed_record : x ≡ Record → true ≡ now.armed
    armed_record z = sym (ap (λ q. q.armed) is ∙ rw (same_kind Record (omega arith), z))

    pub armed_brace : x ≡ LeftBrace → false ≡ now.armed
    armed_brace z = sym (ap (λ q. q.armed) is ∙ rw (same_kind Record (omega arith), same_kind LeftBrace (omega arith), z))

    pub armed_other : (x ≡ Record → ⊥) → (x ≡ LeftBrace → ⊥) → now.armed ≡ before.armed
    armed_other n m = ap (λ q. q.armed) is ∙ rw (same_kind Record (omega arith), same_kind LeftBrace (omega arith), ne_eqb x Record n, ne_eqb x LeftBrace m)

    is_mute : mute kind ≡ mute x
    is_mute = rw (same_kind Eof (omega arith), same_kind Newline (omega arith))

  -- the code has the row r there, and its kind as the number x
  module _ {r : Row} (here : r ≡ row_at row 0) {x : ℕ} (e : x ≡ min r.kind 34) where
    still : x ≡ min kind 34
    still = e ∙ ap (λ r. min r.kind 34) here

    pub meets-mute : (j : ℕ) → mute x ≡ true → meets now j ≡ meets before j
    meets-mute j m = ap (λ q. meets q j) is ∙ rw (is_mute still ∙ m)

    pub meets-written : (j : ℕ) → mute x ≡ false → meets now j ≡ meets_after r.kind (bytes_of text r) j
    meets-written j m = ap (λ q. meets q j) is ∙ rw (is_mute still ∙ m, here)

pub meets-none : (rows text : List ℕ) (j : ℕ) → length rows < 16 → meets (seen rows text) j ≡ false
meets-none rows text j h = rw (seen-none rows text h, and-false)

-- ---- after the last token but Newline and Eof

same-take : (e : ℕ) (text : List ℕ) → take (min e (length text)) text ≡ take e text
same-take e text =
    split (leb e (length text)) (λ q. rw (min-eq_left (leb-true e (length text) q)))
    (λ q. let g : length text ≤ e = omega (arith, leb-false e (length text) q) in rw (min-eq_right g, take-length text, take_all e text g))

-- the kind of the last token, as one of the code's own, asks the same
pub near_kind : (j : ℕ) (w : List ℕ) (k : ℕ) → meets_after (min j 34) w k ≡ meets_after j w k
near_kind j w k = split (ltb j 34) (λ q. let h : min j 34 ≡ j = omega (arith, ltb-true j 34 q) in rw h)
    (λ q.
    let h : min j 34 ≡ 34 = omega (arith, ltb-false j 34 q) in
    let l : tight_before j ≡ false = sym (tight_high j (omega (arith, ltb-false j 34 q))) in
    rw (h, l))

module _ (text : List ℕ) (r : Row) {m : ℕ} (em : m ≡ min (length text) r.end) where
  pub near_part : r.start ≤ m → take (m - r.start) (drop r.start text) ≡ bytes_of text r
  near_part l = let z : m ≡ min r.end (length text) = omega arith in part_slice r.start m text (omega arith) ∙ ap (drop r.start) (rw z (same-take r.end text))
