-- `rows::RowsClone::clone` meets its contract. Assumes nothing.
use mathlib.Core.Path.{ap}
use Rattle.std.proofs.Math.Nat.{ℕ_set}
use Rattle.rows.specs.declared.Rows.{Rows}
use Rattle.rows.proofs.RowsClone.clone.Goals as goal

pub returns : goal.returns
returns c = record { cases = ap {A = _} {B = Rows} (λ w. record { rest = c.args.self.now.rest; whole = w }) (ℕ_set _ _ _ c.args.self.now.whole) }
