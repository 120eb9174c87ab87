-- `formatter::Formatter::comma_arm` meets its contract. Assumes nothing.
use mathlib.Core.Path.{refl}
use Rattle.definition.specs.Act.{run}
use Rattle.definition.specs.Arms.{comma_arm}
use Rattle.definition.proofs.Said.{said}
use Rattle.formatter.proofs.Does.{does, when, unless}
use Rattle.formatter.proofs.Formatter.comma_arm.Goals as goal

pub returns-then-breaks_comma : goal.returns-then-breaks_comma
unfolding comma_arm run said
returns-then-breaks_comma c = λ t ts σ x.
    when c.breaks_comma.ensures c.if-breaks_comma.true
    (does refl refl refl c.write_comma_line.ensures)

pub returns-else-breaks_comma : goal.returns-else-breaks_comma
unfolding comma_arm
returns-else-breaks_comma c = λ t ts σ x.
    unless c.breaks_comma.ensures c.if-breaks_comma.false
    (rw (σ.kind, σ.lexeme, c.requires.in_rows.1) (c.push_lexeme.ensures.does x))
