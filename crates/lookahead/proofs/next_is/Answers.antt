-- `lookahead::next_is` meets its contract. Assumes nothing.
use Rattle.lookahead.proofs.Next.{next_said}
use Rattle.lookahead.proofs.next_is.Goals as goal

pub returns-in-Some : goal.returns-in-Some
returns-in-Some c = λ text. rw (← next_said c.args.rows.now text c.args.kind c.first_token.ensures, c.in-Some.is)

pub returns-in-None : goal.returns-in-None
returns-in-None c = λ text. rw (← next_said c.args.rows.now text c.args.kind c.first_token.ensures, c.in-None.is)
