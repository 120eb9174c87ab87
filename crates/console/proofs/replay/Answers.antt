-- `console::replay` meets its contract. Assumes nothing.
use Rattle.std.proofs.Common.{of_calls, MutBor, ◌≡◌, ◌-◌, suc, length, refl, ap, arith}
use Rattle.std.specs.Prelude.{Result, Ok, Err}
use Rattle.std.specs.Result.{IsErrAnd}
use Rattle.std.specs.Fn.{CalledAtMut}
use Rattle.std.specs.Fn.{Called, Mut}
use Rattle.console.proofs.replay.Goals.{else-loop-test, then-loop-test+in_ok-case+then-not-branch}
use Rattle.console.proofs.replay.Goals as goal

Called-Mut : {F A R : Type 0} (g : Mut F (MutBor A × Unit {0}) (R × (MutBor A × Unit {0}))) {f f' : F} {y y' : MutBor A} {r : R} → Called g f (y, tt) (r, (y', tt)) f' → CalledAtMut g f y.now r f' y'.now
Called-Mut g {y = y} {y' = y'} e = record { shown = y; shows = refl; left = y'; called = e; leaves = refl }

passed : {A E : Type 0} (r : Result A E) (e : E) → IsErrAnd r (λ x. x ≡ e) → r ≡ Err e
passed (Ok x) e h = absurd h
passed (Err x) e h = ap Err h

pub loop-init : goal.loop-init
loop-init g c = (c.requires, (record { bytes = c.args.input }, refl, λ k r e h. let q : k ≡ length c.args.input.now = omega arith in rw (← q) h))

pub returns-in_err-case : goal.returns-in_err-case
returns-in_err-case g c =
    let i = c.loop.invariant.1 in
    let k = length c.args.input.now - c.loop.counter - 1 in
    (i.0, i.1, i.2 (suc k) _ (omega arith) (c.case.result, c.case.new.self, c.case.new.arg2, Called-Mut g.F.FnMut c.case.ensures, rw c.in_err-case.was (passed _ _ c.from_residual.ensures.1)))

pub loop-preserved : goal.loop-preserved
loop-preserved g c =
    let i = c.loop.invariant.1 in
    (search of_calls, (i.0, i.1, λ k r e h. i.2 (suc k) r (omega arith) (c.case.result, c.case.new.self, c.case.new.arg2, Called-Mut g.F.FnMut c.case.ensures, rw (c.in_ok-case.was, c.if-not-branch.false) h)))

pub returns : goal.returns
returns g c =
    let i = c.loop.invariant.1 in
    let k = length c.args.input.now - c.loop.counter - 1 in
    elim c.loop-test.branch [
      | else-loop-test w ↦ (i.0, i.1, i.2 0 _ (omega arith) refl)
      | then-loop-test+in_ok-case+then-not-branch w ↦ (i.0, i.1, i.2 (suc k) _ (omega arith) (w.case.result, w.case.new.self, w.case.new.arg2, Called-Mut g.F.FnMut w.case.ensures, rw (w.in_ok-case.was, w.if-not-branch.true) refl))
    ]
