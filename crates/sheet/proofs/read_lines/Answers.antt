-- `sheet::read_lines` meets its contract. Assumes nothing.
use borrow.Author.Rules.{rules}
use Rattle.sheet.proofs.Filling.{begin, finished, stopped, refuses, more}
use Rattle.sheet.proofs.read_lines.Goals as goal

pub loop-at-init : goal.loop-at-init
loop-at-init c = begin c.args.sheet.now c.args.rows.now c.args.text.now

pub returns-in_err-text_end : goal.returns-in_err-text_end
returns-in_err-text_end c =
    refuses c.args.sheet.now c.args.rows.now c.args.text.now _ _ _ c.from_residual.result c.from_residual.ensures.1 (stopped c.loop-at.invariant c.loop-at-test.true c.in_err-text_end.field-0.0 _ _ c.in_err-text_end.ensures)

pub loop-at-preserved : goal.loop-at-preserved
loop-at-preserved c = more c.loop-at.invariant c.loop-at-test.true c.in_ok-text_end.ensures

pub returns : goal.returns
returns c = finished c.loop-at.invariant (search rules)
