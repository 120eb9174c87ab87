-- `formatter::Formatter::left_bracket_arm` meets its contract. Assumes nothing.
use mathlib.Core.Path.{◌∙◌}
use Rattle.definition.specs.Arms.{left_bracket_arm}
use Rattle.formatter.specs.CodeState.{options_of}
use Rattle.formatter.proofs.Does.{yes, told, unless}
use Rattle.formatter.proofs.Groups.{bracket_room}
use Rattle.formatter.proofs.Formatter.left_bracket_arm.Goals as goal

pub returns-then-breaks_list : goal.returns-then-breaks_list
unfolding left_bracket_arm
returns-then-breaks_list c = λ t ts σ v x.
    let r = told (c.breaks_list.ensures _ t ts σ) c.if-breaks_list.true in
    yes
    (λ n. r)
    (rw (σ.kind, σ.lexeme, c.requires.kind_value)
    (c.open_list.ensures
    (bracket_room (options_of c.args.self.now.options) t ts c.args.self.now v (σ.kind ∙ c.requires.kind_value) r) x))

pub returns-else-breaks_list : goal.returns-else-breaks_list
unfolding left_bracket_arm
returns-else-breaks_list c = λ t ts σ v x.
    unless (c.breaks_list.ensures _ t ts σ) c.if-breaks_list.false
    (rw (σ.kind, σ.lexeme, c.requires.kind_value) (c.open_group.ensures x))
