-- `spaces::needs_space` meets its contract. Assumes nothing.
use borrow.Author.Tests.{le-ltb}
use Rattle.spaces.specs.Answer.{space_report}
use Rattle.spaces.proofs.needs_space.Goals as goal

pub returns : goal.returns
unfolding space_report
returns c =
    let p = c.in-Ok.ensures in
    let k = c.in-Ok-try_from.ensures in
    rw (le-ltb _ _ p.1, le-ltb _ _ k.1, c.space_between.ensures, p.0, k.0)
