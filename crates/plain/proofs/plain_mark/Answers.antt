-- `plain::plain_mark` meets its contract. Assumes nothing.
use borrow.Author.Rules.{rules}
use Rattle.plain.proofs.Pass.{start-ahead, plain_over, plain-unfit, ahead-on, fits_on}
use Rattle.plain.proofs.plain_mark.Goals as goal

pub fit_end-at-requires : goal.fit_end-at-requires
fit_end-at-requires c = start-ahead _ _

pub loop-at-init : goal.loop-at-init
loop-at-init c = c.fit_end-at.ensures

pub overflow_sub-rows : goal.overflow_sub-rows
overflow_sub-rows c = c.loop-at.invariant.ahead.within

pub row_fits-requires : goal.row_fits-requires
row_fits-requires c = (search rules, c.loop-at.invariant.stop (search rules))

pub returns-then-not-row_fits : goal.returns-then-not-row_fits
returns-then-not-row_fits c = let said = plain-unfit c.loop-at.invariant (search rules) c.row_fits.ensures c.if-not-row_fits.true in record { good = said.0; mark = said.1 }

pub fit_end-at-requires-in-loop-at : goal.fit_end-at-requires-in-loop-at
fit_end-at-requires-in-loop-at c = ahead-on c.loop-at.invariant (search rules) c.row_fits.ensures c.if-not-row_fits.false

pub loop-at-smaller : goal.loop-at-smaller
loop-at-smaller c = let on = c.fit_end-at-in-loop-at.ensures.on in search rules

pub loop-at-preserved : goal.loop-at-preserved
loop-at-preserved c = fits_on c.loop-at.invariant (search rules) c.row_fits.ensures c.if-not-row_fits.false c.fit_end-at-in-loop-at.ensures

pub returns : goal.returns
returns c = let said = plain_over c.loop-at.invariant (search rules) in record { good = said.0; mark = said.1 }
