-- `sink::write::Sink::write_signature_line` meets its contract. Assumes nothing.
use mathlib.Core.Path.{refl}
use native.Mathlib.Omega.{arith}
use borrow.Author.Rules.{rules}
use Rattle.sink.proofs.Sink.{and_then, each, fills}
use Rattle.sink.proofs.write.Sink.write_signature_line.Goals as goal

pub returns : goal.returns
returns c =
    record {
      lent = refl;
      writes = and_then (fills (omega arith) (omega arith) (omega arith) c.copy_from_slice.ensures.after) (each _ _ (search rules) c.put_each.ensures);
    }
