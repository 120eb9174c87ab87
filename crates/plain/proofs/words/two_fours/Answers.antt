-- `plain::words::two_fours` meets its contract. Assumes nothing.
use mathlib.Core.Path.{sym, ◌∙◌}
use Rattle.plain.proofs.Letters.{fours_run}
use Rattle.plain.proofs.words.two_fours.Goals as goal

pub returns-then-is_letters : goal.returns-then-is_letters
returns-then-is_letters c = sym (c.is_letters.ensures c.if-is_letters.true)

pub returns : goal.returns
returns c = c.all_high.ensures ∙ rw c.words_in.ensures (fours_run c.args.lexeme.now c.requires.0 c.requires.1 (λ j. (c.type_inv.lexeme j).fits) c.fours.ensures)
