-- `row_writers::comments::write_lead` meets its contract. Assumes nothing.
use mathlib.Core.Path.{sym, ◌∙◌}
use Rattle.row_writers.proofs.Marks.{numbered, is_block, lead_tail_block, lead_tail_line}
use Rattle.std.proofs.lemmas.Slice.{between_is}
use Rattle.sink.proofs.Appends.{and_then, same_bytes}
use Rattle.row_writers.proofs.comments.write_lead.Goals as goal
use Rattle.row_writers.proofs.comments.write_lead.Goals.{then-eq, else-eq}

pub returns : goal.returns
returns c =
    let kind = c.args.row.kind in
    let head = rw (numbered c.trivia-kind.result kind c.trivia-kind.ensures c.requires.kind_bound) at c.write_head.ensures in
    let is = sym (is_block c.trivia-kind.result kind c.trivia-kind.ensures c.requires.kind_bound) in
    and_then head (and_then c.write_byte.ensures (and_then (same_bytes (between_is c.args.text.now c.args.row.start c.args.row.end) c.write_part.ensures)
    (elim c.if-eq.branch [
      | then-eq w ↦ same_bytes (lead_tail_block kind (is ∙ sym w.if-eq.ensures)) (and_then w.write_byte-then-eq.ensures (and_then w.write_tail.ensures (rw w.sink-is at c.write_byte-2.ensures)))
      | else-eq w ↦ same_bytes (lead_tail_line kind (is ∙ sym w.if-eq.ensures)) (rw w.sink-is at c.write_byte-2.ensures)
    ])))
