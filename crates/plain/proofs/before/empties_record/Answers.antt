-- `plain::before::empties_record` meets its contract. Assumes nothing.
use Rattle.std.proofs.Common.{◌≡◌, eqb, sym, ap, ◌∙◌, rules}
use Rattle.rows.specs.Kinds.{LeftBrace}
use Rattle.rows.specs.KindNumber.{kind_number}
use Rattle.plain.proofs.LookBack.{last_of, opened, seen-none}
use Rattle.plain.proofs.before.empties_record.Goals as goal

pub returns-then-eq : goal.returns-then-eq
returns-then-eq c = λ text.
    let q : c.eq.result ≡ eqb (kind_number c.kind_of.result) LeftBrace = search rules in
    c.is_armed.ensures text ∙ (rw (sym q ∙ c.if-eq.true) at (opened (last_of c.in-Some.ensures.cases) text c.kind_of.ensures))

pub returns-else-eq : goal.returns-else-eq
returns-else-eq c = λ text.
    let q : c.eq.result ≡ eqb (kind_number c.kind_of.result) LeftBrace = search rules in
    c.if-eq.false ∙ (rw (sym q ∙ c.if-eq.false) at (opened (last_of c.in-Some.ensures.cases) text c.kind_of.ensures))

pub returns-in-None : goal.returns-in-None
returns-in-None c = λ text. sym (ap (λ q. q.opened) (seen-none c.args.before.now text c.in-None.ensures.cases))
