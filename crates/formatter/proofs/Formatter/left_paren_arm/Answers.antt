-- `formatter::Formatter::left_paren_arm` meets its contract. Assumes nothing.
use mathlib.Core.Path.{refl, sym, ◌∙◌}
use Rattle.definition.specs.Arms.{open_group, left_paren_arm}
use Rattle.sink.proofs.Appends.{nothing}
use Rattle.formatter.specs.CodeState.{options_of}
use Rattle.formatter.proofs.Does.{seq, updated, yes, no, told, when, unless}
use Rattle.formatter.proofs.Groups.{its, paren_room}
use Rattle.formatter.proofs.Formatter.left_paren_arm.Goals as goal

pub returns-then-at_signature : goal.returns-then-at_signature
unfolding left_paren_arm
returns-then-at_signature c = λ t ts σ v x.
    when c.at_signature.ensures c.if-at_signature.true (c.open_signature.ensures t ts σ x)

pub returns-then-breaks_list : goal.returns-then-breaks_list
unfolding left_paren_arm
returns-then-breaks_list c = λ t ts σ v x.
    let a = told c.at_signature.ensures c.if-at_signature.false in
    let r = told (c.breaks_list.ensures _ t ts σ) c.if-breaks_list.true in
    no
    (λ n. a)
    (yes
    (λ n. r)
    (rw (σ.kind, σ.lexeme, c.requires.kind_value)
    (c.open_list.ensures
    (paren_room (options_of c.args.self.now.options) t ts c.args.self.now v (σ.kind ∙ c.requires.kind_value) a r) x)))

pub returns-else-breaks_list : goal.returns-else-breaks_list
unfolding left_paren_arm
returns-else-breaks_list c = λ t ts σ v x.
    unless c.at_signature.ensures c.if-at_signature.false
    (unless (c.breaks_list.ensures _ t ts σ) c.if-breaks_list.false
    (seq
    (updated refl (sym (rw c.deeper-self.ensures)) refl nothing)
    (its c.args.self.now σ c.requires.kind_value (open_group (options_of c.args.self.now.options)) (c.open_group.ensures _))))
