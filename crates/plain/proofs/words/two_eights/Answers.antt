-- `plain::words::two_eights` meets its contract. Assumes nothing.
use mathlib.Core.Path.{◌∙◌}
use Rattle.plain.proofs.Eight.{two_eights}
use Rattle.plain.proofs.words.two_eights.Goals as goal

pub returns : goal.returns
returns c = c.all_high.ensures ∙ rw (c.words_in-first.ensures, c.words_in-last.ensures) (two_eights c.args.lexeme.now (λ j. (c.type_inv.lexeme j).fits) c.requires.0 c.requires.1 c.eight_bytes.ensures c.eight_bytes-2.ensures)
