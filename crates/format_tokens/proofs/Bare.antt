-- Plain tokens have no trivia, so their rows are token rows alone. Assumes nothing.
use mathlib.Core.Bool.{true, ◌&&◌}
use mathlib.Core.List.{List, [], ◌∷◌}
use mathlib.Core.Path.{◌≡◌, refl, sym, ◌∙◌}
use Prim.Native.Nat.{ℕ}
use lib.Dec.{eqb}
use lib.ListN.{length}
use Rattle.shared.proofs.Logic.{and_left, and_right}
use Rattle.rows.specs.Kinds.{TokenRow}
use Rattle.rows.specs.Row.{Row, rows_of}
use Rattle.rows.specs.Checks.{GoodRows}
use Rattle.rows.specs.Token.{bytes_of, tokens_of}
use Rattle.definition.specs.Plain.{plain}
use Rattle.plain.specs.Scan.{Facts, unseen, fits, facts_after, plain_rows}
use Rattle.plain.proofs.Rows.{pass}
use Rattle.formatter.specs.Format.{only_tokens}

only : (text : List ℕ) (q : Facts) (rs : List Row) → plain_rows text q rs ≡ true → only_tokens rs ≡ true
unfolding plain_rows only_tokens
only text q [] e = refl
only text q (r ∷ rs) e =
    let w = bytes_of text r in
    let more = and_right (eqb r.what TokenRow) (fits q r.kind w && plain_rows text (facts_after q r.kind w) rs) e in
    rw (and_left (eqb r.what TokenRow) (fits q r.kind w && plain_rows text (facts_after q r.kind w) rs) e)
    (only text (facts_after q r.kind w) rs (and_right (fits q r.kind w) (plain_rows text (facts_after q r.kind w) rs) more))

pub plain-bare : (rows text : List ℕ) → GoodRows rows (length text) → plain (tokens_of rows text) ≡ true → only_tokens (rows_of rows) ≡ true
plain-bare rows text g e = only text unseen (rows_of rows) (sym (pass rows text g) ∙ e)
