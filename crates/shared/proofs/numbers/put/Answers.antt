-- `shared::numbers::put` meets its contract. Assumes nothing.
use mathlib.Core.Path.{◌≡◌, sym, ap, ◌∙◌}
use Prim.Native.Nat.{◌+◌}
use lib.ListN.{length}
use borrow.Rule.Slice.PartMut.{mid_len}
use native.Mathlib.Omega.{arith}
use Rattle.shared.proofs.Stores.{part_stored}
use Rattle.shared.proofs.numbers.put.Goals as goal

pub returns : goal.returns
returns g c =
    let f = c.copy_from_slice.ensures in
    let e : length c.args.x ≡ g.row.N = ap (λ l. length l) (sym f.after) ∙ f.len ∙ mid_len c.args.at (c.args.at + g.row.N) c.args.bytes.now c.requires ∙ omega arith in
    rw f.after (part_stored c.args.at g.row.N c.args.bytes.now c.args.x c.requires e)
