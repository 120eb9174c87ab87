-- `sink::write::Sink::write_opener_line` meets its contract. Assumes nothing.
use mathlib.Core.Path.{refl}
use native.Mathlib.Omega.{arith}
use borrow.Author.Rules.{rules}
use Rattle.sink.proofs.Sizes.{wanted_feed}
use Rattle.sink.proofs.Sink.{and_then, each, fills, same_bytes_lem}
use Rattle.sink.proofs.write.Sink.write_opener_line.Goals as goal

pub returns : goal.returns
returns c =
    let feed_put = same_bytes_lem (wanted_feed c.args.at_line_start c.from.ensures) (each _ _ (search rules) c.put_each.ensures) in
    record {
      lent = refl;
      writes = and_then (and_then feed_put (each _ _ (search rules) c.put_each-2.ensures)) (fills (omega arith) (search rules) (omega arith) c.copy_from_slice.ensures.after);
    }
