-- `formatter::Formatter::close_signature` meets its contract. Assumes nothing.
use mathlib.Core.Path.{refl, sym}
use Rattle.definition.specs.Act.{run}
use Rattle.definition.proofs.Said.{said}
use Rattle.formatter.proofs.Does.{does}
use Rattle.formatter.proofs.Formatter.close_signature.Goals as goal

pub returns : goal.returns
unfolding run said
returns c = λ x.
    does
    refl (sym (rw (c.saturating_sub-self.ensures, c.saturating_sub-self-2.ensures))) refl
    (rw (← c.indent_size-spaces.ensures.0) c.write_closer.ensures)
