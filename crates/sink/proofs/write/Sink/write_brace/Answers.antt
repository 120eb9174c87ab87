-- `sink::write::Sink::write_brace` meets its contract. Assumes nothing.
use mathlib.Core.Path.{refl}
use borrow.Author.Rules.{rules}
use Rattle.sink.proofs.Sink.{and_then, one, each}
use Rattle.sink.proofs.write.Sink.write_brace.Goals as goal

pub returns : goal.returns
returns c = record { lent = refl; writes = and_then (each _ _ (search rules) c.put_each.ensures) (one (search rules)) }
