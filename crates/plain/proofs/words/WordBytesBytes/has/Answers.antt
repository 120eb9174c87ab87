-- `plain::words::WordBytesBytes::has` meets its contract. Assumes nothing.
use borrow.Author.Rules.{rules}
use Rattle.plain.proofs.Runs.{word_tests}
use Rattle.plain.proofs.words.WordBytesBytes.has.Goals as goal

pub returns : goal.returns
returns c = rw (c.is_ascii_digit.ensures.value, c.is_ascii_lowercase.ensures.value) (word_tests c.args.b (search rules))
