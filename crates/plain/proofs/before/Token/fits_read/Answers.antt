-- `plain::before::Token::fits_read` meets its contract. Assumes nothing.
use Rattle.std.proofs.Common.{◌≡◌, ◌&&◌, sym, ◌∙◌, rules, arith}
use Rattle.rows.specs.KindNumber.{kind_number}
use Rattle.definition.specs.Plain.{begins_operator}
use Rattle.plain.specs.Scan.{meets}
use Rattle.plain.specs.LookBack.{seen}
use Rattle.plain.proofs.Tests.{free_itself, fits_joined}
use Rattle.plain.proofs.before.Token.fits_read.Goals as goal

pub returns-after-begins_operator : goal.returns-after-begins_operator
returns-after-begins_operator c =
    let q = seen c.args.self.before.now c.args.self.text.now in
    let k = kind_number c.args.self.kind in
    let w = c.args.self.lexeme.now in
    let h = c.requires in
    let e : c.if-begins_operator.result ≡ begins_operator w && meets q k = search rules in
    fits_joined q k w (omega arith) (sym (free_itself q k w h) ∙ sym c.reads_whole.ensures ∙ c.if-reads_whole.true) e
