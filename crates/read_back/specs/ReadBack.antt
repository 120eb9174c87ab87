-- What laying out and reading back leaves, and what a caller of it sees.
-- Assumes nothing.
use Rattle.std.specs.Prelude.{cond, List, Result, ℕ}
use Rattle.shared.specs.Report.{Report, success, accepted}
use Rattle.pieces.specs.Answer.{read_answer, read_slots}
use Rattle.definition.specs.Layout.{Layout}
use Rattle.definition.specs.Demand3.{text_of}
use Rattle.format_tokens.specs.declared.Text.{Text}
use Rattle.format_tokens.specs.declared.error.LayoutError.{LayoutError}
use Rattle.format_tokens.specs.Answer.{reported}

-- ---- what is read

-- The reading's answer, given space for so many numbers: that of the layout's text; after a refusal no pieces.
abbrev pub read_back_answer : Layout → ℕ → Report
read_back_answer l size = cond (accepted l.report) (read_answer (text_of l) size) (success 0 0 0)

-- The slice after it; after a refusal it is unchanged.
abbrev pub read_back_slots : Layout → List ℕ → List ℕ
read_back_slots l space = cond (accepted l.report) (read_slots (text_of l) space) space

-- ---- what a caller sees

-- a layout, by its answer and the output after the call
abbrev pub seen : Result Text LayoutError → List ℕ → Layout
seen laid out = record { report = reported laid; out = out }
