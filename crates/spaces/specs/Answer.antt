-- What `needs_space` answers (specification, 'Spaces').
-- Assumes nothing.
use Rattle.std.specs.Prelude.{Bool, cond, List, ◌++◌, ℕ, ltb, Result, Ok, Err}
use Rattle.std.specs.Fmt.{decimal}
use Rattle.shared.specs.Bytes.{space}
use Rattle.shared.specs.Report.{Report, success, refuse, bad_row, bit}
use Rattle.rows.specs.Kinds.{Other}
use Rattle.spaces.specs.declared.UnknownKind.{UnknownKind}
use Rattle.spaces.specs.Space.{needs_space}

-- The number and values of the report for each answer of `needs_space`.
abbrev pub reported : Result Bool UnknownKind → Report
reported (Ok b) = success (bit b) 0 0
reported (Err e) = refuse bad_row e.position

-- What is written of the refusal: its number, a space and its place.
abbrev pub refusal_text : UnknownKind → List ℕ
refusal_text e = decimal bad_row ++ space ++ decimal e.position

-- A kind above 34 gives refusal 3, place 0 or 1 for the first such argument.
unfoldable pub space_report : ℕ → ℕ → Report
space_report first second =
    cond (ltb Other first) (refuse bad_row 0)
    (cond (ltb Other second) (refuse bad_row 1)
    (success (bit (needs_space first second)) 0 0))
