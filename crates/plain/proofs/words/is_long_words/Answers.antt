-- `plain::words::is_long_words` meets its contract. Assumes nothing.
use native.Mathlib.Omega.{arith}
use Rattle.plain.proofs.Runs.{quote_first}
use Rattle.plain.proofs.words.is_long_words.Goals as goal

pub returns-then-lexeme-eq34 : goal.returns-then-lexeme-eq34
returns-then-lexeme-eq34 c = quote_first c.args.lexeme.now c.if-lexeme-eq34.true (let h = c.requires in omega arith)
