-- `formatter::Formatter::opens_block` meets its contract. Assumes nothing.
use mathlib.Core.Bool.{not}
use mathlib.Core.Path.{refl, sym, ap}
use Rattle.lookahead.proofs.Lacks.{no_brace}
use Rattle.lookahead.specs.Measure.{block_is_single_line}
use Rattle.formatter.proofs.Does.{told}
use Rattle.formatter.proofs.Looked.{looked}
use Rattle.formatter.proofs.Formatter.opens_block.Goals as goal

pub returns-then-self-lead : goal.returns-then-self-lead
returns-then-self-lead c = λ t ts σ.
    rw
    (c.if-self.false, c.if-self-2.false, told c.in_one_line_block.ensures c.if-in_one_line_block.false)
    (ap not (looked σ block_is_single_line refl (λ b. sym (no_brace _ _ (c.requires.1.braces c.if-self-lead.true)))))
