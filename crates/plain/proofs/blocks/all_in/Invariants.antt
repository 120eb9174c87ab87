use Rattle.std.proofs.Common.{◌≡◌, ◌*◌, drop}
use Rattle.pieces.specs.Sets.{all}
use Rattle.plain.proofs.blocks.all_in.Given as goal

abbrev pub invariant-loop-block : goal.invariant-loop-block
invariant-loop-block g l = all (g.S.Bytes.set l.set) l.s ≡ all (g.S.Bytes.set l.set) (drop (l.block-index * g.row.N) l.s)
