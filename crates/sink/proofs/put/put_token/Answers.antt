-- `sink::put::put_token` meets its contract. Assumes nothing.
use mathlib.Core.Path.{◌∙◌}
use Rattle.std.proofs.lemmas.Slice.{between_is}
use Rattle.sink.proofs.Over.{put_one, put_more}
use Rattle.sink.proofs.put.put_token.Goals as goal

pub returns-then-size-gt1 : goal.returns-then-size-gt1
returns-then-size-gt1 c =
    put_more c.args.out.now c.args.text.now c.args.len c.args.space c.args.start c.args.end c.requires.start_lt_end c.requires.space_bound c.requires.start_in_bounds
    (c.copy.ensures ∙ between_is c.args.text.now c.args.start c.args.end)

pub returns-else-size-gt1 : goal.returns-else-size-gt1
returns-else-size-gt1 c =
    put_one c.args.out.now c.args.text.now c.args.len c.args.space c.args.start c.args.end c.requires.start_lt_end c.requires.space_bound c.requires.start_in_bounds
    c.if-size-gt1.false
