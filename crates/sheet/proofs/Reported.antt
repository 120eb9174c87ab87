-- No two answers of `read_sheet` have the same report. Assumes nothing.
use mathlib.Core.Bool.{cond}
use mathlib.Core.Path.{◌≡◌, refl}
use lib.Dec.{eqb}
use Rattle.shared.specs.Report.{Report, no_names, bad_line, sheet_full}
use Rattle.shared.proofs.Injective.{injective}
use Rattle.std.specs.Prelude.{Result, Ok, Err}
use Rattle.sheet.specs.declared.SheetSize.{SheetSize}
use Rattle.sheet.specs.declared.SheetError.{SheetError}
use Rattle.sheet.specs.declared.SheetError.TheVariants.{NoNames, BadLine, SheetFull}
use Rattle.sheet.specs.Answer.{reported}

-- the answer that has the report
abbrev answer_of : Report → Result SheetSize SheetError
answer_of r =
    cond (eqb r.refusal no_names) (Err NoNames)
    (cond (eqb r.refusal bad_line) (Err (BadLine r.first))
    (cond (eqb r.refusal sheet_full) (Err (SheetFull r.first))
    (Ok (record { rows = r.first; text_bytes = r.second }))))

back : (a : Result SheetSize SheetError) → answer_of (reported a) ≡ a
back (Ok size) = refl
back (Err NoNames) = refl
back (Err (BadLine line)) = refl
back (Err (SheetFull line)) = refl

pub reported_injective : (a b : Result SheetSize SheetError) → reported a ≡ reported b → a ≡ b
reported_injective = injective reported answer_of back
