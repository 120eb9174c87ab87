-- `formatter::lines::ends_with_two_feeds` meets its contract. Assumes nothing.
use mathlib.Core.Path.{sym}
use native.Mathlib.Omega.{arith}
use borrow.Author.Tests.{eq-eqb, ne_eqb}
use Rattle.formatter.proofs.Feeds.{ends_short, ends_at}
use Rattle.formatter.proofs.lines.ends_with_two_feeds.Goals as goal
use Rattle.formatter.proofs.lines.ends_with_two_feeds.Goals.{then-len-lt2-via-then-len-lt2, then-len-lt2-via-else-len-lt2+then-sink-len}

pub returns-then-len-lt2 : goal.returns-then-len-lt2
returns-then-len-lt2 c = λ h.
    elim c.then-len-lt2.branch [ then-len-lt2-via-then-len-lt2 w ↦ sym (ends_short _ _ w.if-len-lt2.true) | then-len-lt2-via-else-len-lt2+then-sink-len w ↦ absurd (omega arith) ]

pub returns-then-sink-len-eq10 : goal.returns-then-sink-len-eq10
returns-then-sink-len-eq10 c = λ h. sym (rw (ends_at c.args.sink.now.len c.args.sink.now.out.now c.if-len-lt2.false h, eq-eqb _ _ c.if-sink-len-eq10.true))

pub returns-else-sink-len-eq10 : goal.returns-else-sink-len-eq10
returns-else-sink-len-eq10 c = λ h. sym (rw (ends_at c.args.sink.now.len c.args.sink.now.out.now c.if-len-lt2.false h, ne_eqb _ _ c.if-sink-len-eq10.false))
