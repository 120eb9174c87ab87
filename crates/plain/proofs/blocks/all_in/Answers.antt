-- `plain::blocks::all_in` meets its contract. Assumes nothing.
use Rattle.std.proofs.Common.{sym, ◌∙◌}
use Rattle.plain.proofs.Parts.{block-out, block-in, blocks_last}
use Rattle.plain.proofs.blocks.all_in.Goals as goal

pub returns-then-not-block_in : goal.returns-then-not-block_in
returns-then-not-block_in g c = block-out _ g.row.N c.args.s.now _ c.loop-block.invariant c.as_chunks.ensures.front c.as_chunks.ensures.front_len c.loop-block-test.true c.block-item.is (sym c.block_in.ensures ∙ c.if-not-block_in.true)

pub loop-block-preserved : goal.loop-block-preserved
loop-block-preserved g c = block-in _ g.row.N c.args.s.now _ c.loop-block.invariant c.as_chunks.ensures.front c.as_chunks.ensures.front_len c.loop-block-test.true c.block-item.is (sym c.block_in.ensures ∙ c.if-not-block_in.false)

pub returns-in-Some : goal.returns-in-Some
returns-in-Some g c = c.block_in-in-Some.ensures ∙ blocks_last _ g.row.N c.args.s.now _ c.loop-block.invariant c.requires.0 c.requires.1 c.as_chunks.ensures.front_len c.loop-block-test.false c.in-Some.ensures.cases.1.same
