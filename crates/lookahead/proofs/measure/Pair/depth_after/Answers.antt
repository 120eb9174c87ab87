-- `lookahead::measure::Pair::depth_after` meets its contract. Assumes nothing.
use mathlib.Core.Path.{sym, ◌∙◌}
use Rattle.rows.proofs.KindNumbers.{same_kind}
use Rattle.lookahead.proofs.measure.Pair.depth_after.Goals as goal

pub returns-then-eq : goal.returns-then-eq
returns-then-eq c = rw (sym (same_kind _ _) ∙ sym c.eq.ensures ∙ c.if-eq.true)

pub returns-then-eq-2 : goal.returns-then-eq-2
returns-then-eq-2 c = rw (sym (same_kind _ _) ∙ sym c.eq.ensures ∙ c.if-eq.false, sym (same_kind _ _) ∙ sym c.eq-2.ensures ∙ c.if-eq-2.true, c.saturating_sub.ensures)

pub returns : goal.returns
returns c = rw (sym (same_kind _ _) ∙ sym c.eq.ensures ∙ c.if-eq.false, sym (same_kind _ _) ∙ sym c.eq-2.ensures ∙ c.if-eq-2.false)
