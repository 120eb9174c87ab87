-- `lookahead::group` meets its contract. Assumes nothing.
use borrow.Author.Tests.{eq-eqb, ne_eqb}
use Rattle.lookahead.proofs.Next.{opens_said}
use Rattle.lookahead.proofs.group.Goals as goal

pub returns-in-Some : goal.returns-in-Some
returns-in-Some c = rw (opens_said c.args.rows.now c.first_token.ensures, c.in-Some.is, eq-eqb _ _ c.if-row.true)

pub returns-in_default : goal.returns-in_default
returns-in_default c = rw (opens_said c.args.rows.now c.first_token.ensures, c.in-Some.is, ne_eqb _ _ c.if-row.false)

pub returns-in_default-2 : goal.returns-in_default-2
returns-in_default-2 c = rw (opens_said c.args.rows.now c.first_token.ensures, c.in_default.is)
