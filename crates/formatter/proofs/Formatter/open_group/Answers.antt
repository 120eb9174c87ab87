-- `formatter::Formatter::open_group` meets its contract. Assumes nothing.
use mathlib.Core.Path.{refl}
use Rattle.sink.proofs.Appends.{nothing}
use Rattle.formatter.proofs.Does.{seq, updated}
use Rattle.formatter.proofs.Formatter.open_group.Goals as goal

pub returns : goal.returns
returns c = λ x. seq (c.push_lexeme.ensures.does x) (updated refl refl refl nothing)
