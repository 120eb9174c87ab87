-- `plain::before::follows_comma` meets its contract. Assumes nothing.
use Rattle.std.proofs.Common.{sym, ap, ◌∙◌, arith}
use Rattle.rows.specs.KindNumber.{kind_number}
use Rattle.plain.proofs.Named.{other}
use Rattle.plain.proofs.LookBack.{last_of, comma_other, comma_eof, seen-none}
use Rattle.plain.proofs.before.follows_comma.Goals as goal
use borrow.Author.Tests.{ne_eqb}

pub returns-in-Comma : goal.returns-in-Comma
returns-in-Comma c = λ text.
    let z = ap kind_number c.in-Comma.is in
    sym (c.loop-rest.invariant text ∙ comma_other (last_of c.in-Some.ensures.cases) text c.kind_of.ensures (λ e. omega (arith, z, e)) ∙ rw z)

pub loop-rest-preserved : goal.loop-rest-preserved
loop-rest-preserved c = λ text. c.loop-rest.invariant text ∙ comma_eof (last_of c.in-Some.ensures.cases) text c.kind_of.ensures (ap kind_number c.in-Eof.is)

pub returns-in_default-kind_of : goal.returns-in_default-kind_of
returns-in_default-kind_of c = λ text.
    let n = c.in_default-kind_of in
    sym (c.loop-rest.invariant text ∙ comma_other (last_of c.in-Some.ensures.cases) text c.kind_of.ensures (other _ n.not-Eof) ∙ ne_eqb _ _ (other _ n.not-Comma))

pub returns : goal.returns
returns c = λ text. sym (c.loop-rest.invariant text ∙ ap (λ q. q.comma) (seen-none c.loop-rest.left.now text c.in_default.ensures.cases))
