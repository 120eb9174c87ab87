-- `plain::lexeme::is_just` meets its contract. Assumes nothing.
use mathlib.Core.Path.{◌∙◌}
use Rattle.plain.proofs.Bytes.{pointwise-same}
use Rattle.plain.proofs.lexeme.is_just.Goals as goal

pub returns : goal.returns
returns g c = c.eq.ensures ∙ rw c.as_slice.ensures (pointwise-same c.args.lexeme.now c.args.bytes.now)
