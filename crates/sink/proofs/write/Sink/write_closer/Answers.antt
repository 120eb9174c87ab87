-- `sink::write::Sink::write_closer` meets its contract. Assumes nothing.
use mathlib.Core.Path.{refl}
use borrow.Author.Rules.{rules}
use Rattle.sink.proofs.Sizes.{wanted_comma, wanted_feed}
use Rattle.sink.proofs.Sink.{and_then, one, each, same_bytes_lem}
use Rattle.sink.proofs.write.Sink.write_closer.Goals as goal

pub returns : goal.returns
returns c =
    let comma_put = same_bytes_lem (wanted_comma c.args.wanted c.from.ensures) (each _ _ (search rules) c.put_each.ensures) in
    let feed_put = same_bytes_lem (wanted_feed c.args.at_line_start c.from-2.ensures) (each _ _ (search rules) c.put_each-2.ensures) in
    record { lent = refl; writes = and_then comma_put (and_then (and_then feed_put (each _ _ (search rules) c.put_each-3.ensures)) (one (search rules))) }
