-- `plain::lexeme::ends_operator` meets its contract. Assumes nothing.
use native.Mathlib.Omega.{arith}
use mathlib.Core.Path.{◌∙◌}
use Rattle.plain.proofs.Bytes.{operator-last}
use Rattle.plain.proofs.lexeme.ends_operator.Goals as goal

pub returns-in-len1-up : goal.returns-in-len1-up
returns-in-len1-up c = c.is_operator.ensures ∙ operator-last c.args.lexeme.now (λ z. omega arith)
