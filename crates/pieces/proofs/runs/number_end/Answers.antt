-- `pieces::runs::number_end` meets its contract. Assumes nothing.
use mathlib.Core.Path.{◌≡◌, refl, sym, ◌∙◌}
use native.Mathlib.Omega.{arith}
use borrow.Author.Rules.{rules}
use Rattle.pieces.specs.Reading.{number}
use Rattle.pieces.proofs.Number.{takes-number, takes_none}
use Rattle.pieces.proofs.Scan.{reaches_more, reaches_end, ends_here, ends-out}
use Rattle.pieces.proofs.runs.number_end.Goals as goal

pub returns-then-not-number_takes : goal.returns-then-not-number_takes
returns-then-not-number_takes c = reaches_end c.loop-i.invariant.reached (ends_here _ number _ (λ s r. refl) (takes_none _ (sym c.number_takes.ensures ∙ c.if-not-number_takes.true)))

pub loop-i-preserved : goal.loop-i-preserved
loop-i-preserved c = record {
  reached = reaches_more c.loop-i.invariant.reached (search rules) (takes-number c.args.text.now c.loop-i.i (sym c.number_takes.ensures ∙ c.if-not-number_takes.false));
  within = omega arith;
}

pub returns : goal.returns
returns c =
    let e : c.max.result ≡ c.loop-i.i = search rules in
    rw e (reaches_end c.loop-i.invariant.reached (ends-out _ number _ (λ s r. refl) (search rules)))
