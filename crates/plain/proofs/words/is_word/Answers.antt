-- `plain::words::is_word` meets its contract. Assumes nothing.
use mathlib.Core.Path.{sym, ◌∙◌}
use borrow.Author.Rules.{rules}
use Rattle.plain.proofs.Runs.{small_word}
use Rattle.plain.proofs.words.is_word.Goals as goal

pub returns-then-is_ascii_lowercase : goal.returns-then-is_ascii_lowercase
returns-then-is_ascii_lowercase c = sym (small_word c.args.b (search rules) (sym c.is_ascii_lowercase.ensures.value ∙ c.if-is_ascii_lowercase.true))
