-- The facts that the clauses ask for at an index of the rows, from the rows before it; and what the code's
-- functions promise of them.
-- Assumes nothing.
use Rattle.std.specs.Prelude.{Bool, false, not, ◌&&◌, ◌||◌, List, ◌≡◌, ℕ, zero, suc, ◌-◌, ◌/◌, ◌≤◌, eqb, ltb, length, drop}
use Rattle.rows.specs.Kinds.{TokenRow, Else, Other}
use Rattle.rows.specs.Row.{Row, row_size, row_at, rows_of}
use Rattle.rows.specs.Token.{bytes_of}
use Rattle.rows.specs.Bounds.{Inside}
use Rattle.rows.specs.Checks.{Before, at_start, orphan, bad_from}
use Rattle.plain.specs.Scan.{Facts, unseen, fits, facts_after, meets, meets_after, plain_rows}

-- The facts of the n rows that lie before the index.
unfoldable pub facts_from : List ℕ → List ℕ → ℕ → ℕ → Facts
facts_from rows text zero at = unseen
facts_from rows text (suc n) at =
    let r = row_at rows (at - row_size) in
    facts_after (facts_from rows text n (at - row_size)) r.kind (bytes_of text r)

-- The facts of all rows before the index.
abbrev pub facts_at : List ℕ → List ℕ → ℕ → Facts
facts_at rows text at = facts_from rows text (at / row_size) at

-- The facts of all rows.
abbrev pub seen : List ℕ → List ℕ → Facts
seen rows text = facts_at rows text (length rows)

-- A token of the kind k and the lexeme w may stand at the index.
abbrev pub fits_at : List ℕ → List ℕ → ℕ → ℕ → List ℕ → Bool
fits_at rows text at k w = fits (facts_at rows text at) k w

-- The mark of the rows from an index on.
abbrev pub mark_from : List ℕ → List ℕ → ℕ → Bool
mark_from rows text at = plain_rows text (facts_at rows text at) (rows_of (drop at rows))

-- The row r, at an index, is a token's row that fits.
abbrev pub fits_row : List ℕ → List ℕ → ℕ → Row → Bool
fits_row rows text at r = eqb r.what TokenRow && fits_at rows text at r.kind (bytes_of text r)

-- A token's row is not bad: its kind is known, and it names bytes of the text.
abbrev pub is_named : List ℕ → Row → Bool
is_named text r = not (ltb Other r.kind || ltb r.end r.start || ltb (length text) r.end)

-- The row at an index is a token's row that is not bad, and fits.
abbrev pub good_and_fits : List ℕ → List ℕ → ℕ → Bool
good_and_fits rows text at = is_named text (row_at rows at) && fits_row rows text at (row_at rows at)

-- ---- what the code goes by

-- No row before an index is bad, and the last of them is no leading row.
pub record Ahead (rows text : List ℕ) (at : ℕ) : Type 0 where
  pub within : at ≤ length rows
  pub before : Before
  pub count : ℕ
  pub no_lead : orphan before ≡ false
  pub left : bad_from (length text) at_start 0 (rows_of rows)
      ≡ bad_from (length text) before count (rows_of (drop at rows))

-- A row there of a kind with a fixed lexeme, of Newline or of Eof does not fit, if it names bytes of the text.
pub record Unfit (rows text : List ℕ) (at : ℕ) : Type 0 where
  pub unfit : (row_at rows at).kind ≤ Else → Inside text (row_at rows at)
      → fits_row rows text at (row_at rows at) ≡ false

-- The rows from an index to another fit.
pub record FitsTo (rows text : List ℕ) (from at : ℕ) : Type 0 where
  pub on : from ≤ at
  pub ahead : Ahead rows text at
  pub mark : mark_from rows text from ≡ mark_from rows text at
  pub stop : row_size ≤ length rows - at → Unfit rows text at

-- After these rows, clauses 4 and 5 ask of the row r alone: the last token's but Newline and Eof.
abbrev pub Near : List ℕ → Row → Type 0
Near rows r = (text : List ℕ) (k : ℕ) → meets (seen rows text) k ≡ meets_after r.kind (bytes_of text r) k

-- There is no such row, and they ask nothing.
abbrev pub NoneNear : List ℕ → Type 0
NoneNear rows = (text : List ℕ) (k : ℕ) → meets (seen rows text) k ≡ false
