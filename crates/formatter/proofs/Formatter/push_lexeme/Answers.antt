-- `formatter::Formatter::push_lexeme` meets its contract. Assumes nothing.
use mathlib.Core.Path.{refl}
use Rattle.sink.proofs.Appends.{nothing}
use Rattle.rows.specs.KindNumber.{kind_number}
use Rattle.formatter.specs.CodeState.{options_of}
use Rattle.formatter.specs.Token.{bare_token, lexeme_of}
use Rattle.formatter.proofs.Does.{updated}
use Rattle.formatter.proofs.Lexemes.{pushed}
use Rattle.formatter.proofs.Formatter.push_lexeme.Goals as goal

pub returns-clause-does : goal.returns-clause-does
returns-clause-does c =
    let a = c.args in
    let t = bare_token (kind_number a.kind) (lexeme_of a.token a.self.now) in
    λ x. pushed (options_of a.self.now.options) t c.minus_is_unary_after-unary.ensures (c.emit_token_text.ensures.does x) (updated refl refl refl nothing)
