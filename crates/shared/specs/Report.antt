-- The table of refusals (specification, 'Refusals'), and what a call answers in its terms.
-- Assumes nothing.
use Rattle.std.specs.Prelude.{Bool, cond, List, ◌++◌, ℕ, Result, Ok, Err, eqb, length, get_or, drop, replicate}
use Rattle.std.specs.Fmt.{decimal}
use Rattle.shared.specs.Bytes.{space}
use Rattle.shared.specs.Numbers.{little_endian}
use Rattle.shared.specs.declared.report.Report.{}
use Rattle.shared.specs.declared.refusal.Refusal.{Refusal}
use Rattle.shared.specs.declared.refusal.Refusal.TheVariants.{BadOption, RaggedRows, BadRow, Deep, Full, NoNames, BadLine, SheetFull, Unreadable, PiecesFull, BadReport}
use Rattle.shared.specs.declared.refusal.Refused.{Refused}

-- The refusals' numbers, under the table's names.
abbrev pub option : ℕ
option = 1

abbrev pub ragged_rows : ℕ
ragged_rows = 2

abbrev pub bad_row : ℕ
bad_row = 3

abbrev pub deep : ℕ
deep = 4

abbrev pub full : ℕ
full = 5

abbrev pub no_names : ℕ
no_names = 6

abbrev pub bad_line : ℕ
bad_line = 7

abbrev pub sheet_full : ℕ
sheet_full = 8

abbrev pub unreadable : ℕ
unreadable = 9

abbrev pub pieces_full : ℕ
pieces_full = 10

abbrev pub report : ℕ
report = 11

-- The number of a refusal in the code's enum.
abbrev pub refusal_number : Refusal → ℕ
refusal_number BadOption = option
refusal_number RaggedRows = ragged_rows
refusal_number BadRow = bad_row
refusal_number Deep = deep
refusal_number Full = full
refusal_number NoNames = no_names
refusal_number BadLine = bad_line
refusal_number SheetFull = sheet_full
refusal_number Unreadable = unreadable
refusal_number PiecesFull = pieces_full
refusal_number BadReport = report

-- What a program writes of a refusal: its number, a space and its place.
abbrev pub refused_text : Refused → List ℕ
refused_text r = decimal (refusal_number r.refusal) ++ space ++ decimal r.place

-- The refusal, or 0, and the report's three numbers: on a refusal its place, 0 and 0.
pub record Report : Type 0 where
  pub refusal : ℕ
  pub first : ℕ
  pub second : ℕ
  pub third : ℕ

-- a call that succeeds with three numbers
abbrev pub success : ℕ → ℕ → ℕ → Report
success a b c = record { refusal = 0; first = a; second = b; third = c }

-- a refusal by its number and its place
abbrev pub refuse : ℕ → ℕ → Report
refuse number place = record { refusal = number; first = place; second = 0; third = 0 }

-- the call was not refused
abbrev pub accepted : Report → Bool
accepted r = eqb r.refusal 0

-- the report that a `Report` of the code is
abbrev pub report_of : Rattle.shared.specs.declared.report.Report.Report → Report
report_of r = record { refusal = r.refusal; first = r.first; second = r.second; third = r.third }

-- The report of an answer: three numbers, or a refusal.
abbrev pub answer_report : Result (List ℕ) Refused → Report
answer_report (Ok ns) = success (get_or ns 0 0) (get_or ns 1 0) (get_or ns 2 0)
answer_report (Err r) = refuse (refusal_number r.refusal) r.place

-- how many bytes a report has
abbrev pub report_size : ℕ
report_size = 24

-- A report's bytes (specification, 'The doors'): three little-endian eight-byte numbers.
unfoldable pub report_bytes : Report → List ℕ
report_bytes r = little_endian 8 r.first ++ little_endian 8 r.second ++ little_endian 8 r.third

-- A lent slice after a refusal that changes it: every place is 0.
abbrev pub zeroed : List ℕ → List ℕ
zeroed xs = replicate (length xs) 0

-- A lent slice xs with the result ns put first; what lies past it is unchanged.
abbrev pub put_first : List ℕ → List ℕ → List ℕ
put_first ns xs = ns ++ drop (length ns) xs

-- yes and no as a number of a report
abbrev pub bit : Bool → ℕ
bit b = cond b 1 0
