-- `lookahead::comma_ahead` meets its contract. Assumes nothing.
use mathlib.Core.Path.{sym, ◌∙◌}
use native.Mathlib.Omega.{arith}
use Rattle.rows.proofs.KindNumbers.{alike, unlike}
use Rattle.rows.specs.RowsLeft.{rows_left}
use Rattle.rows.specs.declared.kind.Kind.TheVariants.{Eof}
use Rattle.lookahead.proofs.Narrow.{one_less}
use Rattle.lookahead.proofs.Looking.{Turned, numbered, not_numbered, turn_opened, turn_less, turn_closed, turn_above, turn_eof, turn_found, turn_more, top_over, top_none}
use Rattle.lookahead.proofs.comma_ahead.Goals as goal
use Rattle.lookahead.proofs.comma_ahead.Goals.{then-kind-pair, else-kind-pair+then-kind-pair-2+then-own-gt1, else-kind-pair+then-kind-pair-2+else-own-gt1+else-other-eq0, else-kind-pair+else-kind-pair-2+then-kind+else-eq+else-is_top_comma, else-kind-pair+else-kind-pair-2+else-kind}

pub returns-then-other-eq0 : goal.returns-then-other-eq0
returns-then-other-eq0 c =
    turn_closed c.requires.kinds c.loop-row.own c.loop-row.other _ c.loop-row.invariant.0 c.in-Some.ensures.steps c.token_kind-kind.ensures (numbered _ c.if-kind-pair-2.true) c.if-own-gt1.false c.if-other-eq0.true

pub returns-then-eq : goal.returns-then-eq
returns-then-eq c =
    turn_eof c.requires.kinds c.loop-row.own c.loop-row.other _ c.loop-row.invariant.0 c.in-Some.ensures.steps c.token_kind-kind.ensures (not_numbered _ c.if-kind-pair.false) (not_numbered _ c.if-kind-pair-2.false) c.if-kind.true c.of-kind.ensures (alike c.of-kind.result Eof c.eq.ensures c.if-eq.true)

pub returns-then-is_top_comma : goal.returns-then-is_top_comma
returns-then-is_top_comma c =
    turn_found c.requires.kinds c.loop-row.own c.loop-row.other _ c.loop-row.invariant.0 c.in-Some.ensures.steps c.token_kind-kind.ensures (not_numbered _ c.if-kind-pair.false) (not_numbered _ c.if-kind-pair-2.false) c.if-kind.true c.of-kind.ensures (unlike c.of-kind.result Eof c.eq.ensures c.if-eq.false) (sym c.if-is_top_comma.true ∙ c.is_top_comma.ensures)

pub returns-then-behind-own : goal.returns-then-behind-own
returns-then-behind-own c =
    let l = one_less c.in-Some.ensures.steps in
    let t : Turned c.requires.kinds c.loop-row.own c.loop-row.other _ c.loop-row.invariant.0 c.if-kind-pair.own c.if-kind-pair.other (rows_left c.next.new.self) = elim c.if-kind-pair.branch [
      | then-kind-pair w ↦ turn_opened c.requires.kinds c.loop-row.own c.loop-row.other _ c.loop-row.invariant.0 c.in-Some.ensures.steps c.token_kind-kind.ensures (numbered _ w.if-kind-pair.true) w.own-is w.other-is
      | else-kind-pair+then-kind-pair-2+then-own-gt1 w ↦ turn_less c.requires.kinds c.loop-row.own c.loop-row.other _ c.loop-row.invariant.0 c.in-Some.ensures.steps c.token_kind-kind.ensures (numbered _ w.if-kind-pair-2.true) (λ l z. omega (arith, w.if-own-gt1.true, l)) w.own-is w.other-is
      | else-kind-pair+then-kind-pair-2+else-own-gt1+else-other-eq0 w ↦ turn_less c.requires.kinds c.loop-row.own c.loop-row.other _ c.loop-row.invariant.0 c.in-Some.ensures.steps c.token_kind-kind.ensures (numbered _ w.if-kind-pair-2.true) (λ l z. w.if-other-eq0.false z) (w.own-is ∙ omega (arith, w.if-own-gt1.false)) w.other-is
      | else-kind-pair+else-kind-pair-2+then-kind+else-eq+else-is_top_comma w ↦ turn_more c.requires.kinds c.loop-row.own c.loop-row.other _ c.loop-row.invariant.0 c.in-Some.ensures.steps c.token_kind-kind.ensures (not_numbered _ w.if-kind-pair.false) (not_numbered _ w.if-kind-pair-2.false) w.if-kind.true w.of-kind.ensures (unlike w.of-kind.result Eof w.eq.ensures w.if-eq.false) (sym w.if-is_top_comma.false ∙ w.is_top_comma.ensures) w.own-is w.depth_after-other.ensures w.other-is
      | else-kind-pair+else-kind-pair-2+else-kind w ↦ turn_above c.requires.kinds c.loop-row.own c.loop-row.other _ c.loop-row.invariant.0 c.in-Some.ensures.steps c.token_kind-kind.ensures (not_numbered _ w.if-kind-pair.false) (not_numbered _ w.if-kind-pair-2.false) w.own-is (omega (arith, w.if-kind.false)) w.other-is
    ] in
    top_over c.requires.kinds _ _ (rows_left c.next.new.self) t.said (omega (arith, c.if-behind-own.true, c.loop-row.invariant.1, l))

pub loop-row-preserved : goal.loop-row-preserved
loop-row-preserved c =
    let l = one_less c.in-Some.ensures.steps in
    let v = c.loop-row.invariant in
    let t : Turned c.requires.kinds c.loop-row.own c.loop-row.other _ c.loop-row.invariant.0 c.if-kind-pair.own c.if-kind-pair.other (rows_left c.next.new.self) = elim c.if-kind-pair.branch [
      | then-kind-pair w ↦ turn_opened c.requires.kinds c.loop-row.own c.loop-row.other _ c.loop-row.invariant.0 c.in-Some.ensures.steps c.token_kind-kind.ensures (numbered _ w.if-kind-pair.true) w.own-is w.other-is
      | else-kind-pair+then-kind-pair-2+then-own-gt1 w ↦ turn_less c.requires.kinds c.loop-row.own c.loop-row.other _ c.loop-row.invariant.0 c.in-Some.ensures.steps c.token_kind-kind.ensures (numbered _ w.if-kind-pair-2.true) (λ l z. omega (arith, w.if-own-gt1.true, l)) w.own-is w.other-is
      | else-kind-pair+then-kind-pair-2+else-own-gt1+else-other-eq0 w ↦ turn_less c.requires.kinds c.loop-row.own c.loop-row.other _ c.loop-row.invariant.0 c.in-Some.ensures.steps c.token_kind-kind.ensures (numbered _ w.if-kind-pair-2.true) (λ l z. w.if-other-eq0.false z) (w.own-is ∙ omega (arith, w.if-own-gt1.false)) w.other-is
      | else-kind-pair+else-kind-pair-2+then-kind+else-eq+else-is_top_comma w ↦ turn_more c.requires.kinds c.loop-row.own c.loop-row.other _ c.loop-row.invariant.0 c.in-Some.ensures.steps c.token_kind-kind.ensures (not_numbered _ w.if-kind-pair.false) (not_numbered _ w.if-kind-pair-2.false) w.if-kind.true w.of-kind.ensures (unlike w.of-kind.result Eof w.eq.ensures w.if-eq.false) (sym w.if-is_top_comma.false ∙ w.is_top_comma.ensures) w.own-is w.depth_after-other.ensures w.other-is
      | else-kind-pair+else-kind-pair-2+else-kind w ↦ turn_above c.requires.kinds c.loop-row.own c.loop-row.other _ c.loop-row.invariant.0 c.in-Some.ensures.steps c.token_kind-kind.ensures (not_numbered _ w.if-kind-pair.false) (not_numbered _ w.if-kind-pair-2.false) w.own-is (omega (arith, w.if-kind.false)) w.other-is
    ] in
    (t.said, omega (arith, v.1, l), omega (arith, v.2, v.1, l, t.own_most), omega (arith, v.3, v.1, l, t.other_most))

pub returns : goal.returns
returns c = top_none c.requires.kinds _ _ _ c.loop-row.invariant.0 c.in-None.ensures.steps.0
