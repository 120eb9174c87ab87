-- `formatter::Formatter::emit_token_text` meets its contract. Assumes nothing.
use mathlib.Core.Path.{refl, sym, ap}
use Rattle.sink.specs.Tail.{tail_bytes}
use Rattle.rows.specs.KindNumber.{kind_number}
use Rattle.rows.proofs.KindNumbers.{tag_is}
use Rattle.definition.specs.Emit.{ended_by}
use Rattle.formatter.specs.CodeState.{formatter_of, options_of}
use Rattle.formatter.specs.Token.{bare_token, lexeme_of}
use Rattle.formatter.proofs.Lexemes.{emitted}
use Rattle.formatter.proofs.Formatter.emit_token_text.Goals as goal

pub returns-clause-does : goal.returns-clause-does
returns-clause-does c =
    let a = c.args in
    let t = bare_token (kind_number a.kind) (lexeme_of a.token a.self.now) in
    λ x. emitted (options_of a.self.now.options) t (tail_bytes a.tail) refl (ap (λ n. ended_by n (formatter_of a.self.now x)) (sym (tag_is a.kind))) refl c.gap_before-gap.ensures.0 c.write_lexeme.ensures
