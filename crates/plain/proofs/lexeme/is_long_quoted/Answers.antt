-- `plain::lexeme::is_long_quoted` meets its contract. Assumes nothing.
use mathlib.Core.Path.{sym, ◌∙◌}
use native.Mathlib.Omega.{arith}
use Rattle.plain.proofs.Quick.{long_value}
use Rattle.plain.proofs.lexeme.is_long_quoted.Goals as goal

pub returns-then-lexeme-last : goal.returns-then-lexeme-last
returns-then-lexeme-last c = λ e. let h = c.requires.0 in long_value c.args.lexeme.now (omega arith) c.requires.1 c.requires.2 (omega arith) c.if-lexeme-last.true (sym c.all_in.ensures ∙ e)
