-- The invariant and the measure of the loop of `formatter::Formatter::push_fast_tokens`. Assumes nothing.
use Prim.Native.Nat.{◌-◌, ◌≤◌}
use lib.ListN.{length}
use Rattle.formatter.specs.CodeState.{code_state, fn_number}
use Rattle.formatter.proofs.FastTokens.{FastTokensLoop}
use Rattle.formatter.proofs.Formatter.push_fast_tokens.Given as goal

abbrev pub invariant-loop-rows : goal.invariant-loop-rows
invariant-loop-rows l = FastTokensLoop l.rows l.text (code_state l.initial.self l.initial.sink) (code_state l.self l.sink) l.from l.fast.0 l.changing.0 l.loose.0 l.at l.prev l.spaced × (fn_number l.initial.self.fn_state ≤ 2 → fn_number l.self.fn_state ≤ 2)

abbrev pub decreases-loop-rows : goal.decreases-loop-rows
decreases-loop-rows l = length l.rows - l.at
