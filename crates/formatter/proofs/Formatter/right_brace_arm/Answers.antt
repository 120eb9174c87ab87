-- `formatter::Formatter::right_brace_arm` meets its contract. Assumes nothing.
use Rattle.definition.specs.Arms.{right_brace_arm}
use Rattle.formatter.proofs.Does.{when, unless}
use Rattle.formatter.proofs.Formatter.right_brace_arm.Goals as goal

pub returns-then-in_one_line_block : goal.returns-then-in_one_line_block
unfolding right_brace_arm
returns-then-in_one_line_block c = λ x. when c.in_one_line_block.ensures c.if-in_one_line_block.true (c.close_inline.ensures x)

pub returns-then-at_record_fields : goal.returns-then-at_record_fields
unfolding right_brace_arm
returns-then-at_record_fields c = λ x.
    unless c.in_one_line_block.ensures c.if-in_one_line_block.false
    (when c.at_record_fields.ensures c.if-at_record_fields.true (c.close_record.ensures x))

pub returns-else-at_record_fields : goal.returns-else-at_record_fields
unfolding right_brace_arm
returns-else-at_record_fields c = λ x.
    unless c.in_one_line_block.ensures c.if-in_one_line_block.false
    (unless c.at_record_fields.ensures c.if-at_record_fields.false (c.close_block.ensures x))
