-- `lookahead::until_wide` meets its contract. Assumes nothing.
use mathlib.Core.Path.{sym, ap, ◌∙◌}
use native.Mathlib.Omega.{arith}
use Rattle.lookahead.proofs.Measuring.{Measuring, room, passed_over, stopped, counted, grown, ended}
use Rattle.rows.specs.RowsLeft.{rows_left}
use Rattle.lookahead.specs.Scan.{measure_of}
use Rattle.lookahead.proofs.until_wide.Goals as goal
use Rattle.lookahead.proofs.until_wide.Goals.{then-row, else-row+else-stops}

pub loop-row-preserved-then-not-is_token : goal.loop-row-preserved-then-not-is_token
loop-row-preserved-then-not-is_token c = (passed_over c.loop-row.invariant.0 c.in-Some.ensures.steps (sym c.if-not-is_token.ensures), c.loop-row.invariant.1)

pub overflow_add-m-then-row : goal.overflow_add-m-then-row
overflow_add-m-then-row c = record { fits = omega (arith, c.loop-row.invariant.1, c.size_of-size.ensures.1, c.requires) }

pub returns-then-stops-clause-whole : goal.returns-then-stops-clause-whole
returns-then-stops-clause-whole c = λ w. stopped c.loop-row.invariant.0 c.in-Some.ensures.steps (sym c.if-not-is_token.ensures) c.token_kind-kind.ensures c.stops.ensures c.if-stops.true

pub counts-m-requires : goal.counts-m-requires
counts-m-requires c = room c.loop-row.invariant.0 c.size_of-size.result (omega arith) (omega (arith, c.loop-row.invariant.1, c.size_of-size.ensures.1, c.requires))

pub returns-then-limit-m-clause-left : goal.returns-then-limit-m-clause-left
returns-then-limit-m-clause-left c =
    let t : Measuring c.args.rows.now c.args.span c.if-row.m (rows_left c.next.new.self) = elim c.if-row.branch [
      | then-row w ↦ grown c.loop-row.invariant.0 c.in-Some.ensures.steps (sym c.if-not-is_token.ensures) w.if-row.true c.size_of-size.ensures.0 c.size_of-size.ensures.1 w.m-is
      | else-row+else-stops w ↦ counted c.loop-row.invariant.0 c.in-Some.ensures.steps (sym c.if-not-is_token.ensures) w.token_kind-kind.ensures w.stops.ensures w.if-stops.false c.size_of-size.ensures.0 c.size_of-size.ensures.1 (ap measure_of w.m-is ∙ w.counts-m.ensures)
    ] in
    λ w. t.said

pub returns-then-limit-m-clause-few : goal.returns-then-limit-m-clause-few
returns-then-limit-m-clause-few c =
    let t : Measuring c.args.rows.now c.args.span c.if-row.m (rows_left c.next.new.self) = elim c.if-row.branch [
      | then-row w ↦ grown c.loop-row.invariant.0 c.in-Some.ensures.steps (sym c.if-not-is_token.ensures) w.if-row.true c.size_of-size.ensures.0 c.size_of-size.ensures.1 w.m-is
      | else-row+else-stops w ↦ counted c.loop-row.invariant.0 c.in-Some.ensures.steps (sym c.if-not-is_token.ensures) w.token_kind-kind.ensures w.stops.ensures w.if-stops.false c.size_of-size.ensures.0 c.size_of-size.ensures.1 (ap measure_of w.m-is ∙ w.counts-m.ensures)
    ] in
    t.few

pub loop-row-preserved : goal.loop-row-preserved
loop-row-preserved c = (
  elim c.if-row.branch [
    | then-row w ↦ grown c.loop-row.invariant.0 c.in-Some.ensures.steps (sym c.if-not-is_token.ensures) w.if-row.true c.size_of-size.ensures.0 c.size_of-size.ensures.1 w.m-is
    | else-row+else-stops w ↦ counted c.loop-row.invariant.0 c.in-Some.ensures.steps (sym c.if-not-is_token.ensures) w.token_kind-kind.ensures w.stops.ensures w.if-stops.false c.size_of-size.ensures.0 c.size_of-size.ensures.1 (ap measure_of w.m-is ∙ w.counts-m.ensures)
  ],
  c.if-limit-m.false,
)

pub returns-clause-whole : goal.returns-clause-whole
returns-clause-whole c = λ w. ended c.loop-row.invariant.0 c.in_default.ensures.steps.0
