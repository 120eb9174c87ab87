-- `formatter::Formatter::enter_record` meets its contract. Assumes nothing.
use mathlib.Core.Path.{refl}
use Rattle.sink.proofs.Appends.{nothing}
use Rattle.formatter.proofs.Does.{updated}
use Rattle.formatter.proofs.Formatter.enter_record.Goals as goal

pub returns-then-self-clause-does : goal.returns-then-self-clause-does
returns-then-self-clause-does c = λ s x. updated refl (rw c.if-self.true) refl nothing

pub returns-then-self-2-clause-does : goal.returns-then-self-2-clause-does
returns-then-self-2-clause-does c = λ s x. updated refl (rw (c.if-self.false, c.if-self-2.true)) refl nothing

pub returns-else-self-2-clause-does : goal.returns-else-self-2-clause-does
returns-else-self-2-clause-does c = λ s x. updated refl (rw (c.if-self.false, c.if-self-2.false)) refl nothing
