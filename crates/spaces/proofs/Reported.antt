-- No two answers of `needs_space` have the same report. Assumes nothing.
use mathlib.Core.Bool.{Bool, true, false, cond}
use mathlib.Core.Path.{◌≡◌, refl}
use lib.Dec.{eqb}
use Rattle.std.specs.Prelude.{Result, Ok, Err}
use Rattle.shared.specs.Report.{Report, bad_row}
use Rattle.shared.proofs.Injective.{injective}
use Rattle.spaces.specs.declared.UnknownKind.{UnknownKind}
use Rattle.spaces.specs.Answer.{reported}

-- the answer that has the report
abbrev answer_of : Report → Result Bool UnknownKind
answer_of r = cond (eqb r.refusal bad_row) (Err (record { position = r.first })) (Ok (eqb r.first 1))

back : (a : Result Bool UnknownKind) → answer_of (reported a) ≡ a
back (Ok true) = refl
back (Ok false) = refl
back (Err e) = refl

pub reported_injective : (a b : Result Bool UnknownKind) → reported a ≡ reported b → a ≡ b
reported_injective = injective reported answer_of back
