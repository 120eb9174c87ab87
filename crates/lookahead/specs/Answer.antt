-- What the two measures of rows answer.
-- Assumes nothing.
use Rattle.std.specs.Prelude.{cond, List, [], ℕ, ltb, length}
use Rattle.rows.specs.Row.{rows_of}
use Rattle.rows.specs.Checks.{most_row_bytes}
use Rattle.lookahead.specs.declared.SigMeasure.{SigMeasure}
use Rattle.lookahead.specs.declared.GroupMeasure.{GroupMeasure}
use Rattle.lookahead.specs.Measure.{Sized, row_sizes, sig_measure, params, group_measure}

-- what is measured: of more rows than a call takes, nothing
abbrev pub measured : List ℕ → List Sized
measured rows = cond (ltb most_row_bytes (length rows)) [] (row_sizes (rows_of rows))

abbrev pub sig_answer : List ℕ → SigMeasure
sig_answer rows = record { params = params (sig_measure (measured rows)); width = (sig_measure (measured rows)).width }

abbrev pub group_answer : List ℕ → GroupMeasure
group_answer rows =
    record { commas = (group_measure (measured rows)).commas; width = (group_measure (measured rows)).width }
