-- `formatter::Formatter::track_fn_state` meets its contract. Assumes nothing.
use borrow.Author.Rules.{rules}
use Rattle.formatter.proofs.Lexemes.{tracked}
use Rattle.formatter.proofs.Formatter.track_fn_state.Goals as goal

pub returns-then-eq : goal.returns-then-eq
returns-then-eq c = λ s x. tracked c.args.kind (search rules)

pub returns-then-in_broken_signature : goal.returns-then-in_broken_signature
returns-then-in_broken_signature c = λ s x. tracked c.args.kind (search rules)

pub returns-then-kind-2 : goal.returns-then-kind-2
returns-then-kind-2 c = λ s x. tracked c.args.kind (search rules)

pub returns-then-kind-3 : goal.returns-then-kind-3
returns-then-kind-3 c = λ s x. tracked c.args.kind (search rules)

pub returns-then-kind-4 : goal.returns-then-kind-4
returns-then-kind-4 c = λ s x. tracked c.args.kind (search rules)

pub returns-else-kind-4 : goal.returns-else-kind-4
returns-else-kind-4 c = λ s x. tracked c.args.kind (search rules)
