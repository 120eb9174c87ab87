-- `plain::before::Token::fits_free` meets its contract. Assumes nothing.
use mathlib.Core.Path.{sym, ◌∙◌}
use native.Mathlib.Omega.{arith}
use Rattle.rows.specs.KindNumber.{kind_number}
use Rattle.plain.specs.LookBack.{seen}
use Rattle.plain.proofs.Runs.{operators_whole, operators_begin}
use Rattle.plain.proofs.Tests.{words_fit, free_itself, fits_apart, fits-operator}
use Rattle.plain.proofs.before.Token.fits_free.Goals as goal

pub returns-then-is_words : goal.returns-then-is_words
returns-then-is_words c = λ yes. words_fit (seen c.args.self.before.now c.args.self.text.now) (kind_number c.args.self.kind) c.args.self.lexeme.now c.requires (sym c.is_words.ensures ∙ c.if-is_words.true)

pub returns-then-is_operators : goal.returns-then-is_operators
returns-then-is_operators c =
    let q = seen c.args.self.before.now c.args.self.text.now in
    let k = kind_number c.args.self.kind in
    let w = c.args.self.lexeme.now in
    let h = c.requires in
    let all = sym c.is_operators.ensures ∙ c.if-is_operators.true in
    λ yes. sym (fits-operator q k w (omega arith) (sym (free_itself q k w h) ∙ operators_whole w all) (operators_begin w all) c.meets.ensures) ∙ yes

pub returns : goal.returns
returns c =
    let q = seen c.args.self.before.now c.args.self.text.now in
    let k = kind_number c.args.self.kind in
    let w = c.args.self.lexeme.now in
    let h = c.requires in
    λ yes.
    let v = c.is_value.ensures yes in
    sym (fits_apart q k w (omega arith) (sym (free_itself q k w h) ∙ v.0) v.1)
