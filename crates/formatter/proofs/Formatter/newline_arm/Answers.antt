-- `formatter::Formatter::newline_arm` meets its contract. Assumes nothing.
use mathlib.Core.Path.{refl}
use Rattle.definition.specs.Act.{run}
use Rattle.definition.specs.Arms.{newline_arm}
use Rattle.definition.proofs.Said.{said}
use Rattle.sink.proofs.Appends.{nothing}
use Rattle.formatter.specs.Parts.{feeds_line}
use Rattle.formatter.specs.CodeState.{code_state, state_of}
use Rattle.formatter.proofs.Does.{told, yes, no, stays, does, updated, when}
use Rattle.formatter.proofs.Looked.{looked_after}
use Rattle.formatter.proofs.Newlines.{newline}
use Rattle.formatter.proofs.Formatter.newline_arm.Goals as goal

pub returns-then-suppresses : goal.returns-then-suppresses
unfolding newline_arm
returns-then-suppresses c = λ text t ts σ x. when c.suppresses.ensures c.if-suppresses.true (updated refl refl refl nothing)

pub returns-then-feeds : goal.returns-then-feeds
unfolding run said
returns-then-feeds c = λ text t ts σ x.
    newline c.args.token.index ts
    (told c.suppresses.ensures c.if-suppresses.false)
    (yes
    (λ n.
    told
    (looked_after σ
    (λ l. feeds_line l (state_of x (code_state c.args.self.now c.args.sink.now)))
    refl (c.feeds.ensures text x n))
    c.if-feeds.true)
    (does refl refl refl c.write_byte.ensures))

pub returns-else-feeds : goal.returns-else-feeds
returns-else-feeds c = λ text t ts σ x.
    newline c.args.token.index ts
    (told c.suppresses.ensures c.if-suppresses.false)
    (no
    (λ n.
    told
    (looked_after σ
    (λ l. feeds_line l (state_of x (code_state c.args.self.now c.args.sink.now)))
    refl (c.feeds.ensures text x n))
    c.if-feeds.false)
    stays)
