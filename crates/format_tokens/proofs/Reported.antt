-- No two answers of the layout have the same report. Assumes nothing.
use mathlib.Core.Bool.{Bool, true, false, cond}
use mathlib.Core.Path.{◌≡◌, refl}
use lib.Dec.{eqb}
use Rattle.shared.specs.Report.{Report, bit, option, ragged_rows, bad_row, deep, full}
use Rattle.shared.proofs.Injective.{injective}
use Rattle.std.specs.Prelude.{Result, Ok, Err}
use Rattle.format_tokens.specs.declared.Text.{Text}
use Rattle.format_tokens.specs.declared.error.LayoutError.{LayoutError}
use Rattle.format_tokens.specs.declared.error.LayoutError.TheVariants.{BadOption, RaggedRows, BadRow, Deep, Full}
use Rattle.format_tokens.specs.Answer.{reported}

-- the answer that has the report
abbrev answer_of : Report → Result Text LayoutError
answer_of r =
    cond (eqb r.refusal option) (Err (BadOption r.first))
    (cond (eqb r.refusal ragged_rows) (Err RaggedRows)
    (cond (eqb r.refusal bad_row) (Err (BadRow r.first))
    (cond (eqb r.refusal deep) (Err (Deep r.first))
    (cond (eqb r.refusal full) (Err (Full r.first))
    (Ok (record { length = r.first; commas = r.second; plain = eqb r.third 1 }))))))

mark_back : (b : Bool) → eqb (bit b) 1 ≡ b
mark_back true = refl
mark_back false = refl

back : (a : Result Text LayoutError) → answer_of (reported a) ≡ a
back (Ok t) = rw (mark_back t.plain)
back (Err (BadOption position)) = refl
back (Err RaggedRows) = refl
back (Err (BadRow row)) = refl
back (Err (Deep index)) = refl
back (Err (Full index)) = refl

pub reported_injective : (a b : Result Text LayoutError) → reported a ≡ reported b → a ≡ b
reported_injective = injective reported answer_of back
