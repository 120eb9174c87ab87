-- The loops of the pass: the mark is what the pass says of the rows that are left. Assumes nothing.
use mathlib.Core.Bool.{Bool, true, false, not, ◌&&◌, ◌||◌, and_assoc}
use mathlib.Core.List.{List, ◌∷◌}
use mathlib.Core.Option.{some}
use mathlib.Core.Path.{◌≡◌, refl, sym, ap, ◌∙◌}
use Prim.Native.Nat.{ℕ, ◌+◌, ◌-◌, ◌≤◌, ◌<◌, min}
use native.Mathlib.Omega.{arith}
use lib.Dec.{eqb, ltb}
use lib.ListN.{length, take, drop}
use borrow.Author.Tests.{eq-eqb, ne_eqb, eqb-true, ltb-false, le-ltb, not-true, not-false}
use Rattle.shared.proofs.Logic.{impossible, impossible', split, and_left, and_right, or_left, or_right}
use Rattle.rows.specs.Kinds.{TokenRow, Else, Other}
use Rattle.rows.specs.Row.{Row, row_at, rows_of}
use Rattle.rows.specs.Token.{bytes_of, tokens_of}
use Rattle.rows.specs.Bounds.{Inside}
use Rattle.rows.specs.Checks.{at_start, after, bad_from, GoodRows}
use Rattle.rows.proofs.Sound.{misnamed, token_bad}
use Rattle.lookahead.proofs.Rests.{here, over}
use Rattle.definition.specs.Emit.{is_some}
use Rattle.definition.specs.Plain.{plain}
use Rattle.plain.specs.Scan.{fits, facts_after, plain_rows}
use Rattle.plain.specs.LookBack.{facts_from, facts_at, seen, mark_from, fits_row, is_named, good_and_fits, Ahead, Unfit, FitsTo}
use Rattle.plain.proofs.Bytes.{part_slice}
use Rattle.plain.proofs.LookBack.{facts_next, seen-take}
use Rattle.plain.proofs.Rows.{pass}

-- a row's bytes, as the code takes them
abbrev part : List ℕ → Row → List ℕ
part text r = take (r.end - r.start) (drop r.start text)

and_none : (b : Bool) → b && false ≡ false
and_none true = refl
and_none false = refl

and_yes : (b : Bool) → b && true ≡ b
and_yes true = refl
and_yes false = refl

-- what the answer b tells
abbrev Told : List ℕ → List ℕ → Bool → Type 0
Told rows text b = (b ≡ true → GoodRows rows (length text)) × (GoodRows rows (length text) → b ≡ plain (tokens_of rows text))

pub start-ahead : (rows text : List ℕ) → Ahead rows text 0
start-ahead rows text = record { within = omega arith; before = at_start; count = 0; no_lead = refl; left = refl }

start-mark : (rows text : List ℕ) → GoodRows rows (length text) → plain (tokens_of rows text) ≡ mark_from rows text 0
unfolding facts_from
start-mark rows text e = pass rows text e

-- a row that is named well
named_inside : (text : List ℕ) (r : Row) → misnamed Other (length text) r ≡ false → Inside text r
named_inside text r z =
    let a = ltb Other r.kind in
    let b = ltb r.end r.start in
    let c = ltb (length text) r.end in
    record { ordered = ltb-false _ _ (or_right a b (or_left (a || b) c z)); within = ltb-false _ _ (or_right (a || b) c z) }

named_kind : (text : List ℕ) (r : Row) → misnamed Other (length text) r ≡ false → r.kind ≤ Other
named_kind text r z =
    let a = ltb Other r.kind in
    let b = ltb r.end r.start in
    ltb-false _ _ (or_left a b (or_left (a || b) (ltb (length text) r.end) z))

module _ {rows text : List ℕ} {at : ℕ} (α : Ahead rows text at) where
  mark-over : length rows - at < 16 → mark_from rows text at ≡ true
  unfolding plain_rows
  mark-over h = rw (over rows at α.within h)

  good-over : length rows - at < 16 → GoodRows rows (length text)
  unfolding bad_from
  good-over h = α.left ∙ rw (over rows at α.within h, α.no_lead)

  module _ (h : 16 ≤ length rows - at) {r : Row} (e : r ≡ row_at rows at) where
    next : rows_of (drop at rows) ≡ r ∷ rows_of (drop (at + 16) rows)
    next = here rows at α.within h e

    bad-row : r.what ≡ TokenRow → misnamed Other (length text) r ≡ true → bad_from (length text) at_start 0 (rows_of rows) ≡ some α.count
    unfolding bad_from
    bad-row w z = α.left ∙ rw (next, token_bad (length text) α.before r w ∙ z)

    pub ahead-next : r.what ≡ TokenRow → misnamed Other (length text) r ≡ false → Ahead rows text (at + 16)
    unfolding bad_from
    ahead-next w z = record {
      within = omega (arith, α.within);
      before = after r.what;
      count = α.count + 1;
      no_lead = rw w;
      left = α.left ∙ rw (next, token_bad (length text) α.before r w ∙ z);
    }

    mark_is : mark_from rows text at ≡ fits_row rows text at r && mark_from rows text (at + 16)
    unfolding plain_rows
    mark_is =
        let f : facts_at rows text (at + 16) ≡ facts_after (facts_at rows text at) r.kind (bytes_of text r) = rw e (facts_next rows text at) in
        rw (next, f, and_assoc (eqb r.what TokenRow) (fits (facts_at rows text at) r.kind (bytes_of text r)) (plain_rows text (facts_after (facts_at rows text at) r.kind (bytes_of text r)) (rows_of (drop (at + 16) rows))))

    mark-more : fits_row rows text at r ≡ true → mark_from rows text at ≡ mark_from rows text (at + 16)
    mark-more f = mark_is ∙ rw f

    mark_less : fits_row rows text at r ≡ false → mark_from rows text at ≡ false
    mark_less f = mark_is ∙ rw f

-- the tests of a row, by the bytes that the code takes
module _ (rows text : List ℕ) (at : ℕ) {r : Row} (e : r ≡ row_at rows at) where
  there : fits_row rows text at (row_at rows at) ≡ fits_row rows text at r
  there = sym (ap (fits_row rows text at) e)

  pub row_trivia : (r.what ≡ TokenRow → ⊥) → fits_row rows text at (row_at rows at) ≡ false
  row_trivia n = there ∙ rw (ne_eqb r.what TokenRow n)

  named_there : is_named text (row_at rows at) ≡ not (misnamed Other (length text) r)
  named_there = rw e

  -- the answers of `row_fits_lem`
  pub row-none : (r.what ≡ TokenRow → ⊥) → false ≡ good_and_fits rows text at
  row-none n = rw (row_trivia n) (sym (and_none (is_named text (row_at rows at))))

  module _ {m : Bool} (k : m ≡ misnamed Other (length text) r) where
    pub row-misnamed : m ≡ true → false ≡ good_and_fits rows text at
    row-misnamed z = rw (named_there, ← k, z)

    pub row_inside : m ≡ false → Inside text r
    row_inside z = named_inside text r (sym k ∙ z)

    -- the code has the kind as one of its own, by the number j
    as_named : m ≡ false → {j : ℕ} → j ≡ min r.kind 34 → j ≡ r.kind
    as_named z {j} q = let l = named_kind text r (sym k ∙ z) in omega arith

    pub row-fixed : m ≡ false → Unfit rows text at → {j : ℕ} → j ≡ min r.kind 34 → j ≤ Else → false ≡ good_and_fits rows text at
    row-fixed z u q g =
        let l : r.kind ≤ Else = omega arith in rw (u.unfit (omega (arith, ap (λ r. r.kind) e)) (rw (← e) (row_inside z))) (sym (and_none (is_named text (row_at rows at))))

    pub row_token_lem : m ≡ false → r.what ≡ TokenRow → at ≤ length rows → {j : ℕ} → j ≡ min r.kind 34 →
        fits_row rows text at (row_at rows at) ≡ fits (seen (take at rows) text) j (part text r)
    row_token_lem z w h q = there ∙ rw (eq-eqb r.what TokenRow w, part_slice r.start r.end text (row_inside z).ordered, as_named z q, seen-take rows text at h)

    pub row_read : m ≡ false → r.what ≡ TokenRow → at ≤ length rows → {j : ℕ} → j ≡ min r.kind 34 → {x : Bool} →
        x ≡ fits (seen (take at rows) text) j (part text r) → x ≡ good_and_fits rows text at
    row_read z w h q f = f ∙ sym (row_token_lem z w h q) ∙ rw (named_there, ← k, z)

-- ---- the loop of `fit_end`

named_well : (text : List ℕ) (r : Row) → r.kind ≤ Else → Inside text r → misnamed Other (length text) r ≡ false
named_well text r k i = rw (le-ltb Other r.kind (omega arith), le-ltb r.end r.start i.ordered, le-ltb (length text) r.end i.within)

pub record Passed (rows text : List ℕ) (from at : ℕ) : Type 0 where
  pub on : from ≤ at
  pub ahead : Ahead rows text at
  pub mark : mark_from rows text from ≡ mark_from rows text at

pub passed_none : {rows text : List ℕ} {from : ℕ} → Ahead rows text from → Passed rows text from from
passed_none α = record { on = omega arith; ahead = α; mark = refl }

module _ {rows text : List ℕ} {from at : ℕ} (π : Passed rows text from at) where
  stops : (16 ≤ length rows - at → Unfit rows text at) → FitsTo rows text from at
  stops u = record { on = π.on; ahead = π.ahead; mark = π.mark; stop = u }

  pub stop-over : length rows < at + 16 → FitsTo rows text from at
  stop-over h = stops (λ g. absurd (omega arith))

  module _ (h : 16 ≤ length rows - at) {r : Row} (e : r ≡ row_at rows at) where
    pub stop_trivia : (r.what ≡ TokenRow → ⊥) → FitsTo rows text from at
    stop_trivia n = stops (λ g. record { unfit = λ k i. row_trivia rows text at e n })

    module _ (w : r.what ≡ TokenRow) {m : Bool} (q : m ≡ misnamed Other (length text) r) where
      pub stop-misnamed : m ≡ true → FitsTo rows text from at
      stop-misnamed z = stops (λ g. record { unfit = λ k i. impossible (sym (sym q ∙ z) ∙ rw e (named_well text (row_at rows at) k i)) })

      module _ (z : m ≡ false) {j : ℕ} (n : j ≡ min r.kind 34) where
        row_fits_lem : fits_row rows text at (row_at rows at) ≡ fits (seen (take at rows) text) j (part text r)
        row_fits_lem = row_token_lem rows text at e q z w π.ahead.within n

        pub stop-unfit : {x : Bool} → (j ≤ Else → x ≡ fits (seen (take at rows) text) j (part text r)) → x ≡ false → FitsTo rows text from at
        stop-unfit f y = stops (λ g. record { unfit = λ k i. row_fits_lem ∙ sym (f (omega (arith, ap (λ r. r.kind) e))) ∙ y })

        pub passed_more : fits (seen (take at rows) text) j (part text r) ≡ true → Passed rows text from (at + 16)
        passed_more f = record {
          on = omega (arith, π.on);
          ahead = ahead-next π.ahead h e w (sym q ∙ z);
          mark = π.mark ∙ mark-more π.ahead h refl (row_fits_lem ∙ f);
        }

-- ---- the loop of `plain_mark`

module _ {rows text : List ℕ} {at : ℕ} (φ : FitsTo rows text 0 at) where
  marked : GoodRows rows (length text) → plain (tokens_of rows text) ≡ mark_from rows text at
  marked good = start-mark rows text good ∙ φ.mark

  pub plain_over : length rows - at < 16 → Told rows text true
  plain_over h = (λ z. good-over φ.ahead h, λ g. sym (marked g ∙ mark-over φ.ahead h))

  module _ (h : 16 ≤ length rows - at) {x : Bool} (f : x ≡ good_and_fits rows text at) where
    -- a token that fits, but is not named well, is bad
    unfit : x ≡ false → GoodRows rows (length text) → mark_from rows text at ≡ false
    unfit z g =
        split (fits_row rows text at (row_at rows at))
        (λ t.
        let w : (row_at rows at).what ≡ TokenRow = eqb-true (row_at rows at).what TokenRow (and_left _ (fits (facts_at rows text at) (row_at rows at).kind (bytes_of text (row_at rows at))) t) in
        let n : misnamed Other (length text) (row_at rows at) ≡ true = not-false _ (sym (and_yes (is_named text (row_at rows at))) ∙ rw t at (sym f ∙ z)) in
        impossible (ap is_some (sym (bad-row φ.ahead h refl w n) ∙ g)))
        (λ t. mark_less φ.ahead h refl t)

    pub plain-unfit : x ≡ false → Told rows text false
    plain-unfit z = (λ y. impossible' y, λ g. sym (marked g ∙ unfit z g))

    module _ (z : x ≡ true) where
      fits_here : fits_row rows text at (row_at rows at) ≡ true
      fits_here = and_right (is_named text (row_at rows at)) (fits_row rows text at (row_at rows at)) (sym f ∙ z)

      pub ahead-on : Ahead rows text (at + 16)
      ahead-on =
          ahead-next φ.ahead h refl
          (eqb-true (row_at rows at).what TokenRow (and_left _ (fits (facts_at rows text at) (row_at rows at).kind (bytes_of text (row_at rows at))) fits_here))
          (not-true _ (and_left (is_named text (row_at rows at)) (fits_row rows text at (row_at rows at)) (sym f ∙ z)))

      pub fits_on : {b : ℕ} → FitsTo rows text (at + 16) b → FitsTo rows text 0 b
      fits_on ψ = record { on = omega arith; ahead = ψ.ahead; mark = φ.mark ∙ mark-more φ.ahead h refl fits_here ∙ ψ.mark; stop = ψ.stop }
