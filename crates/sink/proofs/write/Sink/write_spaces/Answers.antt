-- `sink::write::Sink::write_spaces` meets its contract. Assumes nothing.
use mathlib.Core.Path.{refl}
use native.Mathlib.Omega.{arith}
use Rattle.sink.proofs.Sink.{each}
use Rattle.sink.proofs.write.Sink.write_spaces.Goals as goal

pub returns : goal.returns
returns c = record { lent = refl; writes = each _ _ (omega arith) c.put_each.ensures }
