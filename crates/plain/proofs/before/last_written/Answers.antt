-- `plain::before::last_written` meets its contract. Assumes nothing.
use Rattle.std.proofs.Common.{sym, ◌∙◌}
use Rattle.plain.proofs.LookBack.{last_of, meets-mute, meets-written, meets-none}
use Rattle.plain.proofs.before.last_written.Goals as goal

pub returns-then-not-is_mute : goal.returns-then-not-is_mute
returns-then-not-is_mute c = λ text k. c.loop-rest.invariant text k ∙ meets-written (last_of c.in-Some.ensures.cases) text c.row_at-row.ensures c.token_kind.ensures k (sym c.is_mute.ensures ∙ c.if-not-is_mute.true)

pub loop-rest-preserved : goal.loop-rest-preserved
loop-rest-preserved c = λ text k. c.loop-rest.invariant text k ∙ meets-mute (last_of c.in-Some.ensures.cases) text c.row_at-row.ensures c.token_kind.ensures k (sym c.is_mute.ensures ∙ c.if-not-is_mute.false)

pub returns : goal.returns
returns c = λ text k. c.loop-rest.invariant text k ∙ meets-none c.loop-rest.left.now text k c.in_default.ensures.cases
