-- What the steps of the reader promise to each other: a line's head, its text, a row, a line.
-- Assumes nothing.
use Rattle.std.specs.Prelude.{true, false, cond, List, [], ◌∷◌, ◌≡◌, ℕ, ◌+◌, ◌≤◌, ◌<◌, Option, None, Some, Result, Ok, Err, eqb, length, drop}
use Rattle.std.proofs.Math.Option.{none, some}
use Rattle.std.proofs.lemmas.List.Edits.{sets}
use Rattle.shared.specs.Bytes.{byte, line_feed}
use Rattle.shared.specs.Lines.{first_line}
use Rattle.rows.specs.KindNumber.{what_number, kind_number}
use Rattle.rows.specs.declared.kind.What.{What}
use Rattle.sink.specs.Sink.{Writes}
use Rattle.sheet.specs.declared.SheetSize.{SheetSize}
use Rattle.sheet.specs.declared.SheetError.{SheetError}
use Rattle.sheet.specs.declared.SheetError.TheVariants.{NoNames, BadLine, SheetFull}
use Rattle.sheet.specs.declared.line.Head.{Head}
use Rattle.sheet.specs.declared.line.TextEnd.{TextEnd}
use Rattle.sheet.specs.Line.{Line, bad, row, with_byte, text_of, row_of, line_of}
use Rattle.sheet.specs.Row.{with_row}
use Rattle.sheet.specs.Answer.{Reading, refused, fits, reading, answer_of, reported, refusal_of, rows_of, texts_of}

-- what stands after the first line of the bytes
abbrev pub after_line : List ℕ → List ℕ
after_line [] = []
after_line (b ∷ t) = cond (eqb b (byte "\n")) t (after_line t)

-- the sheet's line from an index on, with its line feed, and what stands after it
abbrev pub line_at : List ℕ → ℕ → List ℕ
line_at sheet i = first_line line_feed (drop i sheet)

abbrev pub after_at : List ℕ → ℕ → List ℕ
after_at sheet i = after_line (drop i sheet)

-- What is read from index `at` on, `said`, is a row of this what and kind, whose text stands from `from` on.
pub record Headed (said : Line) (sheet : List ℕ) (at what kind from : ℕ) : Type 0 where
  pub says : said ≡ row_of what kind (text_of false (line_at sheet from))
  pub rest : after_at sheet at ≡ after_at sheet from
  pub after : at ≤ from
  pub within : from ≤ length sheet

-- What `head_at` and `kind_at` promise, by their answers.
abbrev pub HeadAt : Line → List ℕ → ℕ → Option Head → Type 0
HeadAt said sheet at (Some head) = Headed said sheet at (what_number head.what) (kind_number head.kind) head.from
HeadAt said sheet at None = said ≡ bad

-- the number of what a row is, and 3 where no row begins so
abbrev pub what_or_3 : Option What → ℕ
what_or_3 None = 3
what_or_3 (Some what) = what_number what

-- A backslash right before index i makes the byte b.
pub record Escapes (sheet : List ℕ) (i b : ℕ) : Type 0 where
  pub makes : text_of true (line_at sheet i) ≡ with_byte b (text_of false (line_at sheet (i + 1)))
  pub rest : after_at sheet i ≡ after_at sheet (i + 1)
  pub within : i < length sheet

-- What `escape_at` promises, by its answer: where there is none, no backslash may stand before index i.
abbrev pub EscapeAt : List ℕ → ℕ → Option ℕ → Type 0
EscapeAt sheet i (Some b) = Escapes sheet i b
EscapeAt sheet i None = text_of true (line_at sheet i) ≡ none

-- The text from index `from` on, bs, has been written after len bytes of `text`, and the next line starts at `next`.
pub record Texted (sheet : List ℕ) (from : ℕ) (text : List ℕ) (len next end : ℕ) (text' : List ℕ) : Type 0 where
  pub bs : List ℕ
  pub says : text_of false (line_at sheet from) ≡ some bs
  pub rest : after_at sheet from ≡ drop next sheet
  pub after : from < next
  pub within : next ≤ length sheet
  pub wrote : Writes text len bs text' end

-- What `read_text` promises, by its answer.
abbrev pub TextAt : List ℕ → ℕ → List ℕ → ℕ → Option TextEnd → List ℕ → Type 0
TextAt sheet from text len (Some read) text' = Texted sheet from text len read.next read.end text'
TextAt sheet from text len None text' = text_of false (line_at sheet from) ≡ none

-- The line's row and text have been stored after n rows and len bytes, and the next line starts at `next`.
pub record Stored (sheet : List ℕ) (at : ℕ) (rows : List ℕ) (n : ℕ) (text : List ℕ)
    (len next end : ℕ) (rows' text' : List ℕ) : Type 0 where
  pub what : ℕ
  pub kind : ℕ
  pub bs : List ℕ
  pub says : line_of (line_at sheet at) ≡ row what kind bs
  pub fit : fits (length rows) (length text) n (len + length bs) ≡ true
  pub end_is : end ≡ len + length bs
  pub rows_are : rows' ≡ with_row rows n what kind len end
  pub text_is : text' ≡ sets text len bs
  pub rest : after_at sheet at ≡ drop next sheet
  pub after : at < next
  pub within : next ≤ length sheet

-- The line keeps its form, and its row or its text doesn't fit.
pub record Unfit (sheet : List ℕ) (at row_space n text_space len : ℕ) : Type 0 where
  pub what : ℕ
  pub kind : ℕ
  pub bs : List ℕ
  pub says : line_of (line_at sheet at) ≡ row what kind bs
  pub unfit : fits row_space text_space n (len + length bs) ≡ false

-- What `read_line` promises, by its answer. The line after n rows is number n + 1.
abbrev pub StepAt : List ℕ → ℕ → List ℕ → ℕ → List ℕ → ℕ → Result TextEnd SheetError → List ℕ → List ℕ → Type 0
StepAt sheet at rows n text len (Ok read) rows' text' = Stored sheet at rows n text len read.next read.end rows' text'
StepAt sheet at rows n text len (Err NoNames) rows' text' = ⊥
StepAt sheet at rows n text len (Err (BadLine line)) rows' text' = (line ≡ n + 1) × (line_of (line_at sheet at) ≡ bad)
StepAt sheet at rows n text len (Err (SheetFull line)) rows' text' =
    (line ≡ n + 1) × Unfit sheet at (length rows) n (length text) len

-- All lines have been read.
pub record Whole (read : Reading) (rows text : List ℕ) (size : SheetSize) (rows' text' : List ℕ) : Type 0 where
  pub report : reported (Ok size) ≡ answer_of read
  pub rows_are : rows' ≡ rows_of read rows
  pub text_is : text' ≡ texts_of read text

-- What `read_lines` promises, by its answer.
abbrev pub ReadAt : List ℕ → List ℕ → List ℕ → Result SheetSize SheetError → List ℕ → List ℕ → Type 0
ReadAt sheet rows text (Ok size) rows' text' =
    Whole (reading sheet (length rows) (length text)) rows text size rows' text'
ReadAt sheet rows text (Err e) rows' text' =
    reading sheet (length rows) (length text) ≡ refused (refusal_of e).refusal (refusal_of e).first
