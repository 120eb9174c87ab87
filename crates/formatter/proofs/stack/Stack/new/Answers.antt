-- `formatter::stack::Stack::new` meets its contract. Assumes nothing.
use native.Mathlib.Omega.{arith}
use Rattle.formatter.proofs.Entries.{zeros_on}
use Rattle.formatter.proofs.stack.Stack.new.Goals as goal

pub invariant_of-result : goal.invariant_of-result
invariant_of-result c = zeros_on _ (omega arith)
