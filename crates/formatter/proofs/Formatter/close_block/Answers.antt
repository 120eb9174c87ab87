-- `formatter::Formatter::close_block` meets its contract. Assumes nothing.
use mathlib.Core.Path.{refl, sym}
use Rattle.definition.specs.Act.{run}
use Rattle.definition.proofs.Said.{said}
use Rattle.formatter.proofs.Does.{does}
use Rattle.formatter.proofs.Formatter.close_block.Goals as goal

pub returns : goal.returns
unfolding run said
returns c = λ x.
    does
    refl (sym (rw (c.record_depth_outside-self.ensures, c.saturating_sub-self.ensures))) refl
    (rw (← c.saturating_sub-self.ensures, ← c.indent_size-spaces.ensures.0) c.write_closer.ensures)
