-- `plain::before::Token::fits_fixed` meets its contract. Assumes nothing.
use Rattle.std.proofs.Common.{◌≡◌, ◌<◌, ◌≤◌, ◌&&◌, sym, ◌∙◌, rules}
use Rattle.rows.specs.Kinds.{Newline, Comma}
use Rattle.rows.specs.KindNumber.{kind_number}
use Rattle.definition.specs.Plain.{begins_operator}
use Rattle.plain.specs.Scan.{meets}
use Rattle.plain.specs.LookBack.{seen}
use Rattle.plain.proofs.Fixed.{bracket_some}
use Rattle.plain.proofs.Tests.{past_brackets, bracket_not, bracket_fits, fits_joined}
use Rattle.plain.proofs.before.Token.fits_fixed.Goals as goal

pub returns-then-is_single : goal.returns-then-is_single
returns-then-is_single c =
    let k = kind_number c.args.self.kind in
    let r : (Newline < k) × (k ≤ Comma) = search rules in
    bracket_fits (seen c.args.self.before.now c.args.self.text.now) k c.args.self.lexeme.now r.0 c.bracket_of.ensures (λ z. bracket_some k r.0 r.1 (sym c.bracket_of.ensures ∙ z))
    (sym c.is_single.ensures ∙ c.if-is_single.true) (c.forbids.ensures c.args.self.text.now)

pub returns-else-is_single : goal.returns-else-is_single
returns-else-is_single c =
    let k = kind_number c.args.self.kind in
    let r : (Newline < k) × (k ≤ Comma) = search rules in
    c.if-is_single.false ∙ bracket_not (seen c.args.self.before.now c.args.self.text.now) k c.args.self.lexeme.now r.0 c.bracket_of.ensures (λ z. bracket_some k r.0 r.1 (sym c.bracket_of.ensures ∙ z))
    (sym c.is_single.ensures ∙ c.if-is_single.false)

pub returns-after-begins_operator : goal.returns-after-begins_operator
returns-after-begins_operator c =
    let q = seen c.args.self.before.now c.args.self.text.now in
    let k = kind_number c.args.self.kind in
    let w = c.args.self.lexeme.now in
    let e : c.if-begins_operator.result ≡ begins_operator w && meets q k = search rules in
    let l = past_brackets k (sym c.is_mute.ensures ∙ c.if-is_mute.false) (sym c.is_bracket.ensures ∙ c.if-is_bracket.false) in
    fits_joined q k w l (sym c.is_itself.ensures ∙ c.if-is_itself.true) e
