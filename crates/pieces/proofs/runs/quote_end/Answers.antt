-- `pieces::runs::quote_end` meets its contract. Assumes nothing.
use borrow.Author.Rules.{rules}
use Rattle.pieces.proofs.Quote.{stops, quote_escaped}
use Rattle.pieces.proofs.Scan.{reaches_start}
use Rattle.pieces.proofs.runs.quote_end.Goals as goal

pub loop-i-init : goal.loop-i-init
loop-i-init c = stops reaches_start c.ordinary_end-i.ensures

pub loop-i-preserved : goal.loop-i-preserved
loop-i-preserved c = stops (quote_escaped c.loop-i.invariant (search rules) c.if-text-i.false) c.ordinary_end-i-in-loop-i.ensures
