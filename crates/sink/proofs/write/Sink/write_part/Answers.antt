-- `sink::write::Sink::write_part` meets its contract. Assumes nothing.
use mathlib.Core.Path.{refl}
use native.Mathlib.Omega.{arith}
use Rattle.sink.proofs.Sink.{fills}
use Rattle.sink.proofs.write.Sink.write_part.Goals as goal

pub returns : goal.returns
returns c = record { lent = refl; writes = fills (omega arith) (omega arith) (omega arith) c.copy_bytes.ensures }
