-- `sheet::row::store` meets its contract. Assumes nothing.
use mathlib.Core.Path.{refl, ap, ◌∙◌}
use Prim.Native.Nat.{◌*◌, ◌+◌}
use lib.Seq.{sets}
use borrow.Author.Rules.{rules}
use Rattle.rows.specs.KindNumber.{kind_number, what_number}
use Rattle.rows.specs.Row.{row_size}
use Rattle.sheet.proofs.Writing.{number_bytes, row_stored}
use Rattle.sheet.proofs.row.store.Goals as goal

pub returns-clause-put : goal.returns-clause-put
returns-clause-put c =
    let a = c.args in
    row_stored a.rows.now (row_size * a.n) (what_number a.what) (kind_number a.kind) a.start a.end
    (c.put.ensures ∙ ap (λ bs. sets a.rows.now (row_size * a.n) bs) (number_bytes (what_number a.what) c.to_le_bytes.ensures (search rules)))
    (c.put-2.ensures ∙ ap (λ bs. sets c.put.new.bytes (row_size * a.n + 4) bs) (number_bytes (kind_number a.kind) c.to_le_bytes-2.ensures (search rules)))
    (c.put-3.ensures ∙ ap (λ bs. sets c.put-2.new.bytes (row_size * a.n + 8) bs) (number_bytes a.start c.to_le_bytes-3.ensures refl))
    (c.put-4.ensures ∙ ap (λ bs. sets c.put-3.new.bytes (row_size * a.n + 12) bs) (number_bytes a.end c.to_le_bytes-4.ensures refl))
