-- `plain::words::words_in` meets its contract. Assumes nothing.
use native.Mathlib.Omega.{arith}
use lib.Bits.{bit_and, and_le_r, xor_lt}
use borrow.Author.Rules.{rules}
use Rattle.plain.proofs.words.words_in.Goals as goal

pub bytes_within-requires : goal.bytes_within-requires
bytes_within-requires c = (and_le_r c.args.x _, search rules, search rules)

pub overflow_add-result : goal.overflow_add-result
overflow_add-result c = let low = and_le_r c.args.x 0x7f7f_7f7f_7f7f_7f7f in omega (arith, xor_lt 63 (bit_and c.args.x 0x7f7f_7f7f_7f7f_7f7f) 0x2020_2020_2020_2020 (omega arith) (omega arith))

pub returns : goal.returns
returns c = rw (c.letters_in.ensures, c.bytes_within.ensures)
