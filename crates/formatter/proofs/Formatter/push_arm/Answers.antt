-- `formatter::Formatter::push_arm` meets its contract. Assumes nothing.
use Rattle.formatter.proofs.ByKind.{at_eof, at_newline, at-right_brace, at-left_brace, at-left_paren, at_left_bracket, at-right_paren, at-right_bracket, at-comma, at_else, at_other}
use mathlib.Core.Path.{◌∙◌}
use native.Mathlib.Omega.{arith}
use Rattle.formatter.proofs.Does.{stays}
use Rattle.formatter.proofs.Formatter.push_arm.Goals as goal

pub returns-in-0 : goal.returns-in-0
returns-in-0 c = λ t ts σ x u v. at_eof _ _ t ts (σ.kind ∙ c.in-0.is) (stays)

pub returns-in-1 : goal.returns-in-1
returns-in-1 c = λ t ts σ x u v. at_newline _ _ t ts (σ.kind ∙ c.in-1.is) (c.newline_arm.ensures _ t ts σ x)

pub returns-in-3 : goal.returns-in-3
returns-in-3 c = λ t ts σ x u v. at-right_brace _ _ t ts (σ.kind ∙ c.in-3.is) (c.right_brace_arm.ensures x)

pub returns-in-2 : goal.returns-in-2
returns-in-2 c = λ t ts σ x u v. at-left_brace _ _ t ts (σ.kind ∙ c.in-2.is) (c.left_brace_arm.ensures t ts σ x)

pub returns-in-4 : goal.returns-in-4
returns-in-4 c = λ t ts σ x u v. at-left_paren _ _ t ts (σ.kind ∙ c.in-4.is) (c.left_paren_arm.ensures t ts σ v x)

pub returns-in-6 : goal.returns-in-6
returns-in-6 c = λ t ts σ x u v. at_left_bracket _ _ t ts (σ.kind ∙ c.in-6.is) (c.left_bracket_arm.ensures t ts σ v x)

pub returns-in-5 : goal.returns-in-5
returns-in-5 c = λ t ts σ x u v. at-right_paren _ _ t ts (σ.kind ∙ c.in-5.is) (c.right_paren_arm.ensures t ts σ x)

pub returns-in-7 : goal.returns-in-7
returns-in-7 c = λ t ts σ x u v. at-right_bracket _ _ t ts (σ.kind ∙ c.in-7.is) (c.right_bracket_arm.ensures t ts σ x)

pub returns-in-8 : goal.returns-in-8
returns-in-8 c = λ t ts σ x u v. at-comma _ _ t ts (σ.kind ∙ c.in-8.is) (c.comma_arm.ensures t ts σ x)

pub returns-in-19 : goal.returns-in-19
returns-in-19 c = λ t ts σ x u v. at_else _ _ t ts (σ.kind ∙ c.in-19.is) (c.else_arm.ensures t ts σ x u)

pub returns-in_default : goal.returns-in_default
returns-in_default c = λ t ts σ x u v.
    at_other _ _ t ts σ.kind
    (λ e. omega arith) (λ e. omega arith) (λ e. omega arith) (λ e. omega arith) (λ e. omega arith)
    (λ e. omega arith) (λ e. omega arith) (λ e. omega arith) (λ e. omega arith) (λ e. omega arith) (c.other_arm.ensures t ts σ x)
