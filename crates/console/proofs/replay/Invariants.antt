use Rattle.std.proofs.Common.{◌≡◌, ◌+◌, ℕ, length}
use Rattle.std.specs.Fn.{CalledAtMut}
use Rattle.console.specs.declared.Left.{Left}
use Rattle.console.specs.Replay.{Replays}
use Rattle.console.proofs.replay.Given as goal

-- However the calls that are left end, so do all of them.
abbrev pub invariant-loop : goal.invariant-loop
invariant-loop g l =
    goal.F-IsAlwaysCallable g l.case
    × ((start : Left) × (start.bytes.now ≡ l.input)
    × ((k : ℕ) (r : _) → l.counter + k ≡ length l.input → Replays (CalledAtMut g.F.FnMut) k l.case l.left r
    → Replays (CalledAtMut g.F.FnMut) (length l.input) l.fn.case start r))
