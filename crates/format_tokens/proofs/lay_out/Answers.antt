-- `format_tokens::lay_out` meets its contract. Assumes nothing.
use mathlib.Core.Path.{refl, sym, ◌∙◌}
use Rattle.format_tokens.proofs.Bare.{plain-bare}
use Rattle.format_tokens.proofs.lay_out.Goals as goal

pub format-requires-clause-no_trivia_if : goal.format-requires-clause-no_trivia_if
format-requires-clause-no_trivia_if c =
    let given = c.new-formatter.ensures.given in
    rw (given.1, given.3) (λ b. plain-bare _ _ c.requires.checked_rows.good (sym c.requires.plain_value ∙ b))

pub format-requires-clause-fresh : goal.format-requires-clause-fresh
format-requires-clause-fresh c = (c.new-formatter.ensures.fresh _ refl, rw c.new-formatter.ensures.given.0 c.requires.indent_width_bound)
