-- `plain::words::is_letters` meets its contract. Assumes nothing.
use mathlib.Core.Path.{sym, ◌∙◌}
use Rattle.plain.proofs.Letters.{letters_run}
use Rattle.plain.proofs.words.is_letters.Goals as goal

pub returns : goal.returns
returns c = λ e. letters_run c.args.s.now c.requires.0 c.requires.1 (λ j. (c.type_inv.s j).fits) c.fours-x.ensures (rw c.letters_in.ensures at (sym c.all_high.ensures ∙ e))
