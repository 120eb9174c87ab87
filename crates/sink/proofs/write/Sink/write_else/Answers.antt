-- `sink::write::Sink::write_else` meets its contract. Assumes nothing.
use mathlib.Core.Path.{refl}
use native.Mathlib.Omega.{arith}
use borrow.Author.Rules.{rules}
use Rattle.sink.proofs.Sink.{and_then, one, each, fills}
use Rattle.sink.proofs.write.Sink.write_else.Goals as goal

pub returns : goal.returns
returns c =
    record {
      lent = refl;
      writes = and_then (and_then (one (search rules)) (each _ _ (search rules) c.put_each.ensures)) (fills (omega arith) (search rules) (omega arith) c.copy_from_slice.ensures.after);
    }
