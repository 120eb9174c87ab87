-- What reading a sheet into two lent slices answers, and the slices after it (specification, 'The sheet').
-- Assumes nothing.
use Rattle.std.specs.Prelude.{Bool, cond, ◌&&◌, List, [], ◌∷◌, ◌++◌, ℕ, ◌+◌, ◌*◌, Result, Ok, Err, leb, length, drop}
use Rattle.shared.specs.Numbers.{most32}
use Rattle.shared.specs.Report.{Report, success, refuse, zeroed, put_first, no_names, bad_line, sheet_full}
use Rattle.rows.specs.Row.{row_size}
use Rattle.sheet.specs.declared.SheetSize.{SheetSize}
use Rattle.sheet.specs.declared.SheetError.{SheetError}
use Rattle.sheet.specs.declared.SheetError.TheVariants.{NoNames, BadLine, SheetFull}
use Rattle.sheet.specs.Line.{names, begins, lines, Line, bad, row, line_of}
use Rattle.sheet.specs.Row.{row_bytes}

-- The report for each refusal.
abbrev pub refusal_of : SheetError → Report
refusal_of NoNames = refuse no_names 0
refusal_of (BadLine line) = refuse bad_line line
refusal_of (SheetFull line) = refuse sheet_full line

-- The number and values of the report for each answer of `read_sheet`.
abbrev pub reported : Result SheetSize SheetError → Report
reported (Ok size) = success size.rows size.text_bytes 0
reported (Err e) = refusal_of e

-- What a sheet's lines read as: so many rows, with their bytes and those of their texts; or a refusal with its line.
pub data Reading : Type 0 where
  done : ℕ → List ℕ → List ℕ → Reading
  refused : ℕ → ℕ → Reading

-- One more row than n fits, with a text that ends at e: both slices have room, and e is a 32-bit number.
abbrev pub fits : ℕ → ℕ → ℕ → ℕ → Bool
fits row_space text_space n e = leb (row_size * n + row_size) row_space && (leb e text_space && leb e most32)

-- The line after n rows is number n + 1. Its row's text follows the texts of those rows.
abbrev pub read_line : ℕ → ℕ → ℕ → List ℕ → List ℕ → Line → (List ℕ → List ℕ → Reading) → Reading
read_line row_space text_space n rows text bad more = refused bad_line (n + 1)
read_line row_space text_space n rows text (row what kind bs) more =
    cond (fits row_space text_space n (length text + length bs))
    (more (rows ++ row_bytes what kind (length text) (length text + length bs)) (text ++ bs))
    (refused sheet_full (n + 1))

-- Line by line, where n rows have been read, with the bytes `rows` and the texts' bytes `text`.
unfoldable pub read_lines : ℕ → ℕ → ℕ → List ℕ → List ℕ → List (List ℕ) → Reading
read_lines row_space text_space n rows text [] = done n rows text
read_lines row_space text_space n rows text (l ∷ ls) =
    read_line row_space text_space n rows text (line_of l) (λ rows' text'. read_lines row_space text_space (n + 1) rows' text' ls)

-- The lines after the names line, given space for so many bytes of rows and of text.
unfoldable pub reading : List ℕ → ℕ → ℕ → Reading
reading sheet row_space text_space = read_lines row_space text_space 0 [] [] (lines (drop (length names) sheet))

-- the report of a sheet with the names line, by what its lines read as
abbrev pub answer_of : Reading → Report
answer_of (done n rows text) = success n (length text) 0
answer_of (refused number line) = refuse number line

-- The answer to a sheet.
unfoldable pub sheet_answer : List ℕ → ℕ → ℕ → Report
sheet_answer sheet row_space text_space =
    cond (begins names sheet) (answer_of (reading sheet row_space text_space)) (refuse no_names 0)

-- the slices xs for the rows and the texts after that
abbrev pub rows_of : Reading → List ℕ → List ℕ
rows_of (done n rows text) xs = put_first rows xs
rows_of (refused number line) xs = zeroed xs

abbrev pub texts_of : Reading → List ℕ → List ℕ
texts_of (done n rows text) xs = put_first text xs
texts_of (refused number line) xs = zeroed xs

-- The slices after it: what was read and what lay past it; after 7 and 8, 0 in every place; after 6 no change.
unfoldable pub sheet_rows : List ℕ → List ℕ → List ℕ → List ℕ
sheet_rows sheet rows text = cond (begins names sheet) (rows_of (reading sheet (length rows) (length text)) rows) rows

unfoldable pub sheet_text : List ℕ → List ℕ → List ℕ → List ℕ
sheet_text sheet rows text = cond (begins names sheet) (texts_of (reading sheet (length rows) (length text)) text) text
