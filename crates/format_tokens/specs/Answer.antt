-- What the layout answers.
-- Assumes nothing.
use Rattle.std.specs.Prelude.{Result, Ok, Err}
use Rattle.shared.specs.Report.{Report, success, refuse, option, ragged_rows, bad_row, deep, full, bit}
use Rattle.shared.specs.declared.refusal.Refusal.TheVariants
use Rattle.shared.specs.declared.refusal.Refused.{Refused}
use Rattle.rows.specs.declared.CheckError.{CheckError}
use Rattle.rows.specs.declared.CheckError.TheVariants as Check
use Rattle.formatter.specs.declared.WalkError.{WalkError}
use Rattle.formatter.specs.declared.WalkError.TheVariants as Walk
use Rattle.format_tokens.specs.declared.Text.{Text}
use Rattle.format_tokens.specs.declared.error.LayoutError.{LayoutError}
use Rattle.format_tokens.specs.declared.error.LayoutError.TheVariants.{BadOption, RaggedRows, BadRow, Deep, Full}

-- The number and values of the report for each answer.
abbrev pub reported : Result Text LayoutError → Report
reported (Ok t) = success t.length t.commas (bit t.plain)
reported (Err (BadOption position)) = refuse option position
reported (Err RaggedRows) = refuse ragged_rows 0
reported (Err (BadRow row)) = refuse bad_row row
reported (Err (Deep index)) = refuse deep index
reported (Err (Full index)) = refuse full index

-- the refusal of an error
abbrev pub refused_of : LayoutError → Refused
refused_of (BadOption position) = record { refusal = TheVariants.BadOption; place = position }
refused_of RaggedRows = record { refusal = TheVariants.RaggedRows; place = 0 }
refused_of (BadRow row) = record { refusal = TheVariants.BadRow; place = row }
refused_of (Deep index) = record { refusal = TheVariants.Deep; place = index }
refused_of (Full index) = record { refusal = TheVariants.Full; place = index }

-- the errors of the two steps
abbrev pub after_check : CheckError → LayoutError
after_check (Check.BadOption position) = BadOption position
after_check Check.RaggedRows = RaggedRows
after_check (Check.BadRow row) = BadRow row

abbrev pub after_walk : WalkError → LayoutError
after_walk (Walk.Deep index) = Deep index
after_walk (Walk.Full index) = Full index
