-- `formatter::Formatter::right_bracket_arm` meets its contract. Assumes nothing.
use mathlib.Core.Bool.{not}
use Rattle.rows.specs.Kinds.{Comma}
use Rattle.definition.specs.Arms.{right_bracket_arm}
use Rattle.definition.specs.Emit.{prev_is}
use Rattle.formatter.proofs.Does.{picked, when, unless}
use Rattle.formatter.proofs.Formatter.right_bracket_arm.Goals as goal

pub returns-then-in_broken_list : goal.returns-then-in_broken_list
unfolding right_bracket_arm
returns-then-in_broken_list c = λ t ts σ x.
    when c.in_broken_list.ensures c.if-in_broken_list.true
    (picked (prev_is Comma) (not c.prev_is-wanted.result) (rw c.prev_is-wanted.ensures) (c.close_list.ensures x))

pub returns-else-in_broken_list : goal.returns-else-in_broken_list
unfolding right_bracket_arm
returns-else-in_broken_list c = λ t ts σ x.
    unless c.in_broken_list.ensures c.if-in_broken_list.false
    (rw (σ.kind, σ.lexeme, c.requires.in_rows.1) (c.close_group.ensures x))
