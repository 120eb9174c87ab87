-- `plain::fit_end` meets its contract. Assumes nothing.
use Rattle.std.proofs.Common.{sym, ◌∙◌, ◌≡◌, arith, rules}
use borrow.Author.Tests.{eqb-true, eqb-false}
use Rattle.rows.specs.Bounds.{Inside, row_of}
use Rattle.rows.specs.Kinds.{TokenRow}
use Rattle.plain.proofs.Pass.{row_inside, passed_none, stop-over, stop_trivia, stop-misnamed, stop-unfit, passed_more}
use Rattle.plain.proofs.fit_end.Goals as goal
use Rattle.plain.proofs.fit_end.Goals.{Else-not-is_token, Else-misnames}

token : (c : Else-not-is_token) → (row_of c.row_at-row.result).what ≡ TokenRow
token c = eqb-true _ TokenRow (sym c.is_token.ensures ∙ c.if-not-is_token.false)

-- the row's lexeme lies in the text
inside : (c : Else-misnames) → Inside c.args.text.now (row_of c.row_at-row.result)
inside c = row_inside c.args.rows.now c.args.text.now c.loop-at.at c.row_at-row.ensures c.misnames.ensures c.if-misnames.false

-- ---- the answers

pub returns-then-rows-lt-ROW_BYTES : goal.returns-then-rows-lt-ROW_BYTES
returns-then-rows-lt-ROW_BYTES c = stop-over (passed_none c.requires) (let h = c.if-rows-lt-ROW_BYTES.true in omega arith)

pub loop-at-init : goal.loop-at-init
loop-at-init c = passed_none c.requires

pub returns-then-not-is_token : goal.returns-then-not-is_token
returns-then-not-is_token c = stop_trivia c.loop-at.invariant (search rules) c.row_at-row.ensures (eqb-false _ TokenRow (sym c.is_token.ensures ∙ c.if-not-is_token.true))

pub returns-then-misnames : goal.returns-then-misnames
returns-then-misnames c = stop-misnamed c.loop-at.invariant (search rules) c.row_at-row.ensures (token (goal.at.returns-then-misnames c).Else-not-is_token) c.misnames.ensures c.if-misnames.true

pub slice_bounds-token-count : goal.slice_bounds-token-count
slice_bounds-token-count c = (inside (goal.at.slice_bounds-token-count c).Else-misnames).ordered

pub returns-then-not-fits_quickly : goal.returns-then-not-fits_quickly
returns-then-not-fits_quickly c =
    stop-unfit c.loop-at.invariant (search rules) c.row_at-row.ensures (token (goal.at.returns-then-not-fits_quickly c).Else-not-is_token) c.misnames.ensures c.if-misnames.false
    c.token_kind.ensures c.fits_quickly.ensures.fixed c.if-not-fits_quickly.true

pub loop-at-preserved : goal.loop-at-preserved
loop-at-preserved c =
    passed_more c.loop-at.invariant (search rules) c.row_at-row.ensures (token (goal.at.loop-at-preserved c).Else-not-is_token) c.misnames.ensures c.if-misnames.false
    c.token_kind.ensures (c.fits_quickly.ensures.sure c.if-not-fits_quickly.false)

pub returns : goal.returns
returns c = stop-over c.loop-at.invariant (search rules)
