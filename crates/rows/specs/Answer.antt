-- What is answered before a layout: refusals 1, 2 and 3 in that order (specification, 'Refusals').
-- Assumes nothing.
use Rattle.std.specs.Prelude.{cond, List, ◌++◌, ℕ, Result, Ok, Err}
use Rattle.std.proofs.Math.Option.{Option, none, some}
use Rattle.std.specs.Fmt.{decimal}
use Rattle.shared.specs.Bytes.{space}
use Rattle.shared.specs.Report.{Report, success, refuse, option, ragged_rows, bad_row}
use Rattle.rows.specs.declared.CheckError.{CheckError}
use Rattle.rows.specs.declared.CheckError.TheVariants.{BadOption, RaggedRows, BadRow}
use Rattle.rows.specs.Row.{rows_of}
use Rattle.rows.specs.Options.{bad_option}
use Rattle.rows.specs.Checks.{ragged, at_start, bad_from}

-- The number and place of each refusal.
abbrev pub refusal_of : CheckError → Report
refusal_of (BadOption position) = refuse option position
refusal_of RaggedRows = refuse ragged_rows 0
refusal_of (BadRow row) = refuse bad_row row

-- What is written of a refusal: its number, a space and its place.
abbrev pub refusal_text : CheckError → List ℕ
refusal_text e = decimal (refusal_of e).refusal ++ space ++ decimal (refusal_of e).first

-- The number and values of the report for each answer of `check`.
abbrev pub reported : Result (Unit {0}) CheckError → Report
reported (Ok t) = success 0 0 0
reported (Err e) = refusal_of e

-- the refusal of this number, where there is a place for it; else the report r, of what is looked for after it
abbrev pub refuse_or : ℕ → Option ℕ → Report → Report
refuse_or number none r = r
refuse_or number (some place) r = refuse number place

-- Refusal 3, of a text of the size given.
unfoldable pub each_row_report : List ℕ → ℕ → Report
each_row_report rows size = refuse_or bad_row (bad_from size at_start 0 (rows_of rows)) (success 0 0 0)

-- Refusals 2 and 3 in that order.
unfoldable pub rows_report : List ℕ → ℕ → Report
rows_report rows size = cond (ragged rows) (refuse ragged_rows 0) (each_row_report rows size)

-- Refusals 1, 2 and 3 in that order: the options, the rows and the text's size.
unfoldable pub check_report : ℕ → ℕ → ℕ → ℕ → List ℕ → ℕ → Report
check_report style indent signature list rows size = refuse_or option (bad_option style indent signature list) (rows_report rows size)
