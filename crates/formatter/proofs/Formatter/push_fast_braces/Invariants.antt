use Rattle.rows.specs.RowsLeft.{rows_left}
use Rattle.formatter.proofs.FastBraces.{FastBracesLoop}
use Rattle.formatter.proofs.Formatter.push_fast_braces.Given as goal

abbrev pub invariant-loop-row : goal.invariant-loop-row
invariant-loop-row l =
    FastBracesLoop l.self.rows.now
    (record { at = l.initial.at; len = l.initial.sink.len; prev = l.initial.prev; depth = l.initial.depth; closed = l.initial.closed })
    (record { at = l.at; len = l.sink.len; prev = l.prev; depth = l.depth; closed = l.closed })
    l.initial.sink l.sink (rows_left l.row-iterator)
