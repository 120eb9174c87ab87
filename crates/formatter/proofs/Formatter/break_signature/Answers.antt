-- `formatter::Formatter::break_signature` meets its contract. Assumes nothing.
use mathlib.Core.List.{append-nil}
use mathlib.Core.Path.{refl}
use Rattle.definition.specs.Act.{run}
use Rattle.definition.proofs.Said.{said}
use Rattle.formatter.proofs.Does.{does}
use Rattle.formatter.proofs.Formatter.break_signature.Goals as goal

pub returns : goal.returns
unfolding run said
returns c = λ x.
    does
    refl refl refl
    (rw (append-nil, ← c.indent_size-spaces.ensures.0) c.write_signature_line.ensures)
