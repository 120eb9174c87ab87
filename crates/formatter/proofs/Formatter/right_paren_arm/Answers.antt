-- `formatter::Formatter::right_paren_arm` meets its contract. Assumes nothing.
use mathlib.Core.Path.{refl, sym}
use Rattle.definition.specs.Act.{run}
use Rattle.definition.specs.Arms.{close_group, right_paren_arm}
use Rattle.sink.proofs.Appends.{nothing}
use Rattle.formatter.specs.CodeState.{options_of}
use Rattle.formatter.proofs.Does.{seq, updated, no, told, same-run, when, unless}
use Rattle.formatter.proofs.Groups.{its, signature-closes}
use Rattle.formatter.proofs.Formatter.right_paren_arm.Goals as goal

pub returns-then-closes_signature : goal.returns-then-closes_signature
returns-then-closes_signature c = λ t ts σ x.
    signature-closes _ t
    (told c.closes_signature.ensures c.if-closes_signature.true) (c.close_signature.ensures x)

pub returns-then-in_broken_list : goal.returns-then-in_broken_list
unfolding right_paren_arm run
returns-then-in_broken_list c = λ t ts σ x.
    seq
    (updated refl (sym (rw c.shallower-self.ensures)) refl nothing)
    (no
    (λ n. rw c.shallower-self.ensures (told c.closes_signature.ensures c.if-closes_signature.false))
    (when c.in_broken_list.ensures c.if-in_broken_list.true (same-run refl (c.close_list.ensures _))))

pub returns-else-in_broken_list : goal.returns-else-in_broken_list
unfolding right_paren_arm
returns-else-in_broken_list c = λ t ts σ x.
    seq
    (updated refl (sym (rw c.shallower-self.ensures)) refl nothing)
    (no
    (λ n. rw c.shallower-self.ensures (told c.closes_signature.ensures c.if-closes_signature.false))
    (unless c.in_broken_list.ensures c.if-in_broken_list.false
    (its c.args.self.now σ c.requires.in_rows.1 (close_group (options_of c.args.self.now.options)) (c.close_group.ensures _))))
