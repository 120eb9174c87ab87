-- `formatter::Formatter::close_group` meets its contract. Assumes nothing.
use mathlib.Core.Path.{refl, sym}
use Rattle.sink.proofs.Appends.{nothing}
use Rattle.formatter.proofs.Does.{seq, updated}
use Rattle.formatter.proofs.Formatter.close_group.Goals as goal

pub returns : goal.returns
returns c = λ x. seq (c.push_lexeme.ensures.does x) (updated refl (sym (rw c.saturating_sub-self.ensures)) refl nothing)
