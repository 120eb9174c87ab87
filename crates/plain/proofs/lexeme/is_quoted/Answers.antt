-- `plain::lexeme::is_quoted` meets its contract. Assumes nothing.
use mathlib.Core.Path.{sym, ◌∙◌}
use borrow.Author.Tests.{eqb-true}
use Rattle.plain.proofs.Quick.{quote_value}
use Rattle.plain.proofs.lexeme.is_quoted.Goals as goal

pub returns-then-end-lexeme : goal.returns-then-end-lexeme
returns-then-end-lexeme c = λ e. quote_value c.args.lexeme.now c.requires.0 c.requires.1 (sym c.is_quote.ensures ∙ c.if-not-is_quote.false) c.ordinary_end-end.ensures c.if-end-lexeme.true (eqb-true _ _ e)
