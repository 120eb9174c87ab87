-- `plain::before::Token::meets` meets its contract. Assumes nothing.
use Rattle.std.proofs.Common.{sym, ◌∙◌}
use Rattle.rows.specs.Bounds.{row_of}
use Rattle.rows.specs.KindNumber.{kind_number}
use Rattle.rows.specs.Token.{bytes_of}
use Rattle.plain.proofs.LookBack.{near_kind, near_part}
use Rattle.plain.proofs.before.Token.meets.Goals as goal

pub returns-in-Some-get : goal.returns-in-Some-get
returns-in-Some-get c =
    let at = c.in-Some-get.ensures.lookup.0 in
    let part = at.2 ∙ near_part c.args.self.text.now (row_of c.in-Some.row) c.min-end.ensures at.0 in
    let k = kind_number c.args.self.kind in
    c.meets_after.ensures
    ∙ rw (c.token_kind.ensures, part) (near_kind c.in-Some.row.kind (bytes_of c.args.self.text.now (row_of c.in-Some.row)) k ∙ sym (c.in-Some.ensures c.args.self.text.now k))
