-- `formatter::Formatter::open_allman` meets its contract. Assumes nothing.
use mathlib.Core.Path.{refl}
use Rattle.definition.specs.Act.{run}
use Rattle.definition.specs.Emit.{open_allman}
use Rattle.definition.proofs.Said.{said}
use Rattle.formatter.specs.CodeState.{options_of}
use Rattle.formatter.proofs.Does.{does_then}
use Rattle.formatter.proofs.Formatter.open_allman.Goals as goal

pub returns : goal.returns
unfolding run said
returns c = λ x.
    does_then {a = open_allman (options_of c.args.self.now.options) c.args.index}
    refl refl refl
    (rw (← c.indent_size-spaces.ensures.0) c.write_opener_line.ensures)
