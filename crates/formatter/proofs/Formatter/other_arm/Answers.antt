-- `formatter::Formatter::other_arm` meets its contract. Assumes nothing.
use mathlib.Core.Path.{refl}
use Rattle.sink.proofs.Appends.{nothing}
use Rattle.formatter.proofs.Does.{seq, updated}
use Rattle.formatter.proofs.Numbered.{read_as}
use Rattle.formatter.proofs.Formatter.other_arm.Goals as goal

pub returns : goal.returns
returns c = λ t ts σ x.
    let k = read_as c.kind.result c.kind.ensures c.requires.in_rows.kind in
    rw (σ.kind, σ.lexeme) (seq (updated refl (rw c.record_pending_after-self.ensures) refl nothing) (rw k at c.push_lexeme.ensures.does _))
