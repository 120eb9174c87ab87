-- `row_writers::comments::write_trail` meets its contract. Assumes nothing.
use mathlib.Core.Path.{sym, ◌∙◌}
use Rattle.row_writers.proofs.Marks.{numbered, is_block, trail_head_block, trail_tail_block, trail_head_line, trail_tail_line}
use Rattle.std.proofs.lemmas.Slice.{between_is}
use Rattle.sink.proofs.Appends.{and_then, same_bytes}
use Rattle.row_writers.proofs.comments.write_trail.Goals as goal

pub returns-then-eq : goal.returns-then-eq
returns-then-eq c =
    let kind = c.args.row.kind in
    let head = rw (numbered c.trivia-kind.result kind c.trivia-kind.ensures c.requires.kind_bound) at c.write_head.ensures in
    let block = sym (is_block c.trivia-kind.result kind c.trivia-kind.ensures c.requires.kind_bound) ∙ sym c.if-eq.ensures in
    and_then (same_bytes (trail_head_block kind block) head) (and_then (same_bytes (between_is c.args.text.now c.args.row.start c.args.row.end) c.write_part.ensures) (same_bytes (trail_tail_block kind block) c.write_tail.ensures))

pub returns-else-eq : goal.returns-else-eq
returns-else-eq c =
    let kind = c.args.row.kind in
    let head = rw (numbered c.trivia-kind.result kind c.trivia-kind.ensures c.requires.kind_bound) at c.write_head.ensures in
    let line = sym (is_block c.trivia-kind.result kind c.trivia-kind.ensures c.requires.kind_bound) ∙ sym c.if-eq.ensures in
    and_then (same_bytes (trail_head_line kind line) (and_then head c.write_byte.ensures)) (same_bytes (trail_tail_line kind line _) (same_bytes (between_is c.args.text.now c.args.row.start c.args.row.end) c.write_part-else-eq.ensures))
