-- `formatter::Formatter::else_arm` meets its contract. Assumes nothing.
use mathlib.Core.Path.{refl}
use Rattle.definition.specs.Arms.{else_arm}
use Rattle.definition.specs.Act.{run}
use Rattle.definition.proofs.Said.{said}
use Rattle.formatter.proofs.Does.{does, when, unless}
use Rattle.formatter.proofs.Formatter.else_arm.Goals as goal

pub returns-then-else_on_new_line : goal.returns-then-else_on_new_line
unfolding else_arm run said
returns-then-else_on_new_line c = λ t ts σ x e.
    when (c.else_on_new_line.ensures x e) c.if-else_on_new_line.true
    (does refl refl refl (rw c.indent_size-spaces.ensures.0 at c.write_else.ensures))

pub returns-else-else_on_new_line : goal.returns-else-else_on_new_line
unfolding else_arm
returns-else-else_on_new_line c = λ t ts σ x e.
    unless (c.else_on_new_line.ensures x e) c.if-else_on_new_line.false
    (rw (σ.kind, σ.lexeme, c.requires.in_rows.1) (c.push_lexeme.ensures.does x))
