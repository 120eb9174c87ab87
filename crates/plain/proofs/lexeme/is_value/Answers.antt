-- `plain::lexeme::is_value` meets its contract. Assumes nothing.
use Rattle.std.proofs.Common.{◌≡◌, get_or, sym, ◌∙◌, rules}
use Rattle.plain.proofs.Quick.{number_value}
use Rattle.plain.proofs.lexeme.is_value.Goals as goal

pub returns-then-is_ascii_digit : goal.returns-then-is_ascii_digit
returns-then-is_ascii_digit c =
    let b : c.in-Some.first.now ≡ get_or c.args.lexeme.now 0 0 = search rules in
    λ e. number_value c.args.lexeme.now (search rules) b (rw b (c.type_inv.lexeme 0).fits) (sym c.is_ascii_digit.ensures.value ∙ c.if-is_ascii_digit.true) c.word_end.ensures e
