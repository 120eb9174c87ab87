-- `plain::row_fits` meets its contract. Assumes nothing.
use Rattle.std.proofs.Common.{sym, ◌∙◌, ◌≤◌, length, arith, rules}
use borrow.Author.Tests.{eqb-true, eqb-false}
use Rattle.rows.specs.Bounds.{Inside, row_of}
use Rattle.rows.specs.Kinds.{TokenRow, Else}
use Rattle.rows.specs.KindNumber.{kind_number}
use Rattle.plain.proofs.Pass.{row-none, row-misnamed, row_inside, row-fixed, row_read}
use Rattle.plain.proofs.row_fits.Goals as goal
use Rattle.plain.proofs.row_fits.Goals.{Else-misnames}

-- the row's lexeme lies in the text
inside : (c : Else-misnames) → Inside c.args.text.now (row_of c.row_at-row.result)
inside c = row_inside c.args.rows.now c.args.text.now c.args.at c.row_at-row.ensures c.misnames.ensures c.if-misnames.false

-- ---- the answers

pub returns-then-not-is_token : goal.returns-then-not-is_token
returns-then-not-is_token c = row-none c.args.rows.now c.args.text.now c.args.at c.row_at-row.ensures (eqb-false _ TokenRow (sym c.is_token.ensures ∙ c.if-not-is_token.true))

pub returns-then-misnames : goal.returns-then-misnames
returns-then-misnames c = row-misnamed c.args.rows.now c.args.text.now c.args.at c.row_at-row.ensures c.misnames.ensures c.if-misnames.true

pub returns-then-not-is_free : goal.returns-then-not-is_free
returns-then-not-is_free c =
    let l : kind_number c.token_kind-kind.result ≤ Else = search rules in
    row-fixed c.args.rows.now c.args.text.now c.args.at c.row_at-row.ensures c.misnames.ensures c.if-misnames.false c.requires.1 c.token_kind-kind.ensures l

pub slice_bounds-token-count : goal.slice_bounds-token-count
slice_bounds-token-count c = (inside (goal.at.slice_bounds-token-count c).Else-misnames).ordered

pub returns : goal.returns
returns c =
    let h : c.args.at ≤ length c.args.rows.now = let r = c.requires.0 in omega arith in
    row_read c.args.rows.now c.args.text.now c.args.at c.row_at-row.ensures c.misnames.ensures c.if-misnames.false (eqb-true _ TokenRow (sym c.is_token.ensures ∙ c.if-not-is_token.false)) h c.token_kind-kind.ensures c.fits_read.ensures
