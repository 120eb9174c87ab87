-- `formatter::Formatter::gap_before` meets its contract. Assumes nothing.
use native.Mathlib.Omega.{arith}
use Rattle.rows.proofs.KindNumbers.{tag_is}
use Rattle.rows.specs.KindNumber.{kind_number}
use Rattle.spaces.proofs.Pairs.{spaces_are, spaces-few}
use Rattle.formatter.proofs.Numbered.{kind_few, read_as}
use Rattle.formatter.proofs.Formatter.gap_before.Goals as goal

pub returns-in-Some : goal.returns-in-Some
returns-in-Some c =
    let a = c.args in
    let p = c.in-Some.prev in
    let few = rw c.in-Some.is at c.requires.kind_bound in
    let k = read_as c.of.result c.of.ensures few in (
      rw (c.if-self.false, c.in-Some.is, c.spaces_between.ensures, c.loose_after.ensures, tag_is a.kind, k)
          (spaces_are p (kind_number a.kind) a.self.now.prev_minus_is_unary few (kind_few a.kind)),
      rw c.spaces_between.ensures (omega (arith, spaces-few c.loose_after.result.0 (kind_number c.of.result) (kind_number a.kind))),
    )
