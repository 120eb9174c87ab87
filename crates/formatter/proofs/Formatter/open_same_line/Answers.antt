-- `formatter::Formatter::open_same_line` meets its contract. Assumes nothing.
use mathlib.Core.Path.{refl}
use Rattle.definition.specs.Act.{run}
use Rattle.definition.proofs.Said.{said}
use Rattle.formatter.proofs.Does.{does}
use Rattle.formatter.proofs.Formatter.open_same_line.Goals as goal

pub returns : goal.returns
unfolding run said
returns c = λ x. does refl refl refl c.write_brace.ensures
