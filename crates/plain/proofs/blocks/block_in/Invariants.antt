use Rattle.std.proofs.Common.{◌≡◌, take}
use Rattle.pieces.specs.Sets.{all}
use Rattle.plain.proofs.blocks.block_in.Given as goal

abbrev pub invariant-loop-b : goal.invariant-loop-b
invariant-loop-b g l = l.all ≡ all (g.S.Bytes.set l.set) (take l.b-index l.block)
