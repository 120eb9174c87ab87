-- The shebang wrapper (specification, 'The shebang wrapper'): the layout by the default options, after the
-- source's first line where that is a shebang line. Assumes nothing.
use Rattle.std.specs.Prelude.{Bool, cond, not, ◌&&◌, ◌||◌, List, [], ◌∷◌, ◌++◌, ℕ, ◌+◌, eqb, ltb, length, drop, get_or}
use Rattle.shared.specs.Bytes.{byte, line_feed}
use Rattle.shared.specs.Lines.{first_line}
use Rattle.shared.specs.Report.{Report, success, refuse, accepted, zeroed, option, ragged_rows, bad_row, full}
use Rattle.rows.specs.Options.{default_style, default_indent_width, default_width}
use Rattle.definition.specs.Layout.{Layout, layout}

-- It begins `#!` and not `#![`. (Past a line's end this reads 0.)
abbrev pub is_shebang : List ℕ → Bool
is_shebang line =
    eqb (get_or line 0 0) (byte "#") && (eqb (get_or line 1 0) (byte "!") && not (eqb (get_or line 2 0) (byte "[")))

-- What comes first: that line and a line feed, or nothing.
abbrev pub shebang : List ℕ → List ℕ
shebang source = cond (is_shebang (first_line [] source)) (first_line [] source ++ line_feed) []

-- Refusals 1, 2 and 3 come before the walk, which then writes nothing.
abbrev pub before_walk : Report → Bool
before_walk r = eqb r.refusal option || (eqb r.refusal ragged_rows || eqb r.refusal bad_row)

-- After 4 and 5 every place of the output is 0.
abbrev pub emptied : Report → List ℕ → Layout
emptied r out = record { report = r; out = zeroed out }

-- The line put first, and the layout l after it. Where the line does not fit, refusal 5 has the place 0.
abbrev pub with_line : List ℕ → Layout → List ℕ → Layout
with_line line l out =
    cond (ltb (length out) (length line)) (emptied (refuse full 0) out)
    (cond (accepted l.report)
    (record { report = success (length line + l.report.first) l.report.second 0; out = line ++ l.out })
    (emptied l.report out))

-- The layout l after a line. Where there is no line, it is the layout as it is. Else refusals 1, 2 and 3 come before the
-- line's own 5, and leave the output unchanged.
abbrev pub after_line : List ℕ → Layout → List ℕ → Layout
after_line [] l out = l
after_line (b ∷ bs) l out =
    cond (before_walk l.report) (record { report = l.report; out = out }) (with_line (b ∷ bs) l out)

-- The layout with the default options.
abbrev pub default_layout : List ℕ → List ℕ → List ℕ → Layout
default_layout rows text out = layout default_style default_indent_width default_width default_width rows text out

-- The walk gets the output after the line.
unfoldable pub layout_source : List ℕ → List ℕ → List ℕ → List ℕ → Layout
layout_source source rows text out =
    after_line (shebang source) (default_layout rows text (drop (length (shebang source)) out)) out
