-- `pieces::runs::ordinary_eights` meets its contract. Assumes nothing.
use mathlib.Core.Path.{sym, ◌∙◌}
use borrow.Author.Rules.{rules}
use Rattle.pieces.specs.Ends.{ordinary}
use Rattle.pieces.proofs.Scan.{run-all}
use Rattle.pieces.proofs.runs.ordinary_eights.Goals as goal

pub loop-i-preserved : goal.loop-i-preserved
loop-i-preserved c = run-all (ordinary c.args.quote) 8 c.args.text.now c.loop-i.i (search rules) (sym c.eight_ordinary.ensures ∙ c.if-eight_ordinary.true) ∙ c.loop-i.invariant
