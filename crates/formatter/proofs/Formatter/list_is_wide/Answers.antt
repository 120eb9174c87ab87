-- `formatter::Formatter::list_is_wide` meets its contract. Assumes nothing.
use mathlib.Core.Path.{refl, sym}
use native.Mathlib.Nat.{le_trans}
use Rattle.lookahead.proofs.Lacks.{no_comma}
use Rattle.lookahead.proofs.Narrow.{narrow}
use Rattle.lookahead.proofs.Sizes.{list_tokens}
use Rattle.lookahead.specs.Measure.{should_break_list}
use Rattle.formatter.proofs.Looked.{looked, part_is}
use Rattle.formatter.proofs.Formatter.list_is_wide.Goals as goal

pub returns-then-ends-token : goal.returns-then-ends-token
returns-then-ends-token c = λ text t ts σ. looked σ (should_break_list c.args.self.now.options.list_width) refl (λ b. sym (no_comma _ _ _ (c.requires.1.commas c.if-ends-token.true)))

pub returns-then-ends-list_width : goal.returns-then-ends-list_width
returns-then-ends-list_width c = λ text t ts σ.
    looked σ (should_break_list c.args.self.now.options.list_width) refl
    (λ b. sym (narrow _ _ _ b (le_trans (c.requires.1.width c.if-ends-gt0.true) c.if-ends-list_width.true)))

pub returns : goal.returns
returns c = λ text t ts σ.
    looked σ (should_break_list c.args.self.now.options.list_width)
    (part_is c.args.token.lead c.args.self.now.rows.now) (list_tokens _ _ _ c.should_break_list.ensures)
