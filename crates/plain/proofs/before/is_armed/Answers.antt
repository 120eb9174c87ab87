-- `plain::before::is_armed` meets its contract. Assumes nothing.
use Rattle.std.proofs.Common.{sym, ap, ◌∙◌}
use Rattle.rows.specs.KindNumber.{kind_number}
use Rattle.plain.proofs.Named.{other}
use Rattle.plain.proofs.LookBack.{last_of, armed_record, armed_brace, armed_other, seen-none}
use Rattle.plain.proofs.before.is_armed.Goals as goal

pub returns-in-Record : goal.returns-in-Record
returns-in-Record c = λ text. armed_record (last_of c.in-Some.ensures.cases) text c.kind_of.ensures (ap kind_number c.in-Record.is) ∙ sym (c.loop-rest.invariant text)

pub returns-in-LeftBrace : goal.returns-in-LeftBrace
returns-in-LeftBrace c = λ text. armed_brace (last_of c.in-Some.ensures.cases) text c.kind_of.ensures (ap kind_number c.in-LeftBrace.is) ∙ sym (c.loop-rest.invariant text)

pub loop-rest-preserved : goal.loop-rest-preserved
loop-rest-preserved c = λ text.
    let n = c.in_default-kind_of in
    c.loop-rest.invariant text ∙ armed_other (last_of c.in-Some.ensures.cases) text c.kind_of.ensures (other _ n.not-Record) (other _ n.not-LeftBrace)

pub returns : goal.returns
returns c = λ text. sym (c.loop-rest.invariant text ∙ ap (λ q. q.armed) (seen-none c.loop-rest.left.now text c.in_default.ensures.cases))
