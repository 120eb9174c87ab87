-- What the wrapper's steps promise each other: the layout stands in the output after a line, and the line is put first.
-- Assumes nothing.
use Rattle.std.specs.Prelude.{List, Result, ◌++◌, ◌≡◌, ℕ, ◌+◌, ◌-◌, ◌≤◌, length, drop}
use Rattle.shared.specs.Bytes.{line_feed}
use Rattle.definition.specs.Layout.{Layout}
use Rattle.format_tokens.specs.declared.Text.{Text}
use Rattle.format_tokens.specs.declared.error.LayoutError.{LayoutError}
use Rattle.format_tokens.specs.Answer.{reported}
use Rattle.format_source.specs.Source.{with_line}

-- A text that the answer tells of lies in the output after the line and its line feed.
abbrev pub FitsAfter : List ℕ → Result Text LayoutError → List ℕ → Type 0
FitsAfter line answer out = (reported answer).refusal ≡ 0 → (reported answer).first ≤ length out - (length line + 1)

-- The line and a line feed put first, where the answer and the rest of the output are the layout's.
abbrev pub line_first : List ℕ → Result Text LayoutError → List ℕ → Layout
line_first line answer out =
    with_line (line ++ line_feed) (record { report = reported answer; out = drop (length line + 1) out }) out
