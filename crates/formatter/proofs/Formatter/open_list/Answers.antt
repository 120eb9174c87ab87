-- `formatter::Formatter::open_list` meets its contract. Assumes nothing.
use mathlib.Core.Path.{refl, sym}
use borrow.Author.Tests.{lt-ltb}
use lib.ListN.{length}
use Rattle.sink.proofs.Appends.{nothing}
use Rattle.rows.specs.KindNumber.{kind_number}
use Rattle.formatter.specs.CodeState.{options_of}
use Rattle.formatter.specs.Token.{bare_token, lexeme_of}
use Rattle.formatter.proofs.Does.{updated}
use Rattle.formatter.proofs.Groups.{list_opens}
use Rattle.formatter.proofs.Formatter.open_list.Goals as goal

pub returns : goal.returns
returns c = λ few x.
    let a = c.args in
    let e = c.emit_token_text in
    let room = lt-ltb (length a.self.now.break_stack) 64 few in
    list_opens (options_of a.self.now.options) a.token.index
    (bare_token (kind_number a.kind) (lexeme_of a.token a.self.now)) (e.ensures.does x)
    (updated refl (sym (rw (c.push.ensures, e.ensures.kept.stack, room))) refl nothing)
