-- No two answers of `check` have the same report. Assumes nothing.
use mathlib.Core.Bool.{cond}
use mathlib.Core.Path.{◌≡◌, refl}
use lib.Dec.{eqb}
use Rattle.shared.specs.Report.{Report, option, ragged_rows, bad_row}
use Rattle.shared.proofs.Injective.{injective}
use Rattle.rows.specs.declared.CheckError.{CheckError}
use Rattle.rows.specs.declared.CheckError.TheVariants.{BadOption, RaggedRows, BadRow}
use Rattle.std.specs.Prelude.{Result, Ok, Err}
use Rattle.rows.specs.Answer.{reported}

-- the answer that has the report
abbrev answer_of : Report → Result (Unit {0}) CheckError
answer_of r =
    cond (eqb r.refusal option) (Err (BadOption r.first))
    (cond (eqb r.refusal ragged_rows) (Err RaggedRows)
    (cond (eqb r.refusal bad_row) (Err (BadRow r.first))
    (Ok tt)))

back : (a : Result (Unit {0}) CheckError) → answer_of (reported a) ≡ a
back (Ok t) = refl
back (Err (BadOption position)) = refl
back (Err RaggedRows) = refl
back (Err (BadRow row)) = refl

pub reported_injective : (a b : Result (Unit {0}) CheckError) → reported a ≡ reported b → a ≡ b
reported_injective = injective reported answer_of back
