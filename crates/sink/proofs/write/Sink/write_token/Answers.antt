-- `sink::write::Sink::write_token` meets its contract. Assumes nothing.
use mathlib.Core.Path.{refl}
use native.Mathlib.Omega.{arith}
use borrow.Author.Rules.{rules}
use Rattle.sink.proofs.Sink.{and_then, each, fills}
use Rattle.sink.proofs.write.Sink.write_token.Goals as goal

pub returns : goal.returns
returns c =
    record {
      lent = refl;
      writes =
          and_then (each _ _ (search rules) c.put_each.ensures)
          (and_then (fills (omega arith) (search rules) (omega arith) c.put_part.ensures)
          (fills (omega arith) (search rules) (omega (arith, c.tail_size.ensures.0)) c.put_tail.ensures));
    }
