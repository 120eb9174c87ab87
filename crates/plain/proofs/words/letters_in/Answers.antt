-- `plain::words::letters_in` meets its contract. Assumes nothing.
use borrow.Author.Rules.{rules}
use Rattle.plain.proofs.Eight.{or_within}
use Rattle.plain.proofs.words.letters_in.Goals as goal

pub bytes_within-requires : goal.bytes_within-requires
bytes_within-requires c = (or_within 0x7f7f_7f7f_7f7f_7f7f c.args.x 0x2020_2020_2020_2020, search rules, search rules)
