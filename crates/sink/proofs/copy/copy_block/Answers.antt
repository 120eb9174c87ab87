-- `sink::copy::copy_block` meets its contract. Assumes nothing.
use mathlib.Core.Path.{◌∙◌}
use Prim.Native.Nat.{◌+◌}
use native.Mathlib.Omega.{arith}
use lib.Seq.{length-slice}
use Rattle.std.proofs.lemmas.Slice.{between_is}
use Rattle.sink.proofs.Sink.{fills}
use Rattle.sink.proofs.copy.copy_block.Goals as goal

pub returns : goal.returns
returns g c =
    let t = c.args.part.now in
    let s = c.args.at in
    let e = s + g.row.N in
    fills (omega arith) (omega arith) (omega (arith, length-slice s e t (omega arith))) (c.copy_from_slice-2.ensures.after ∙ c.copy_from_slice.ensures.after ∙ between_is t s e)
