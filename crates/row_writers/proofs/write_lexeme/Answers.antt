-- `row_writers::write_lexeme` meets its contract. Assumes nothing.
use mathlib.Core.Path.{ap, ◌∙◌}
use Rattle.std.proofs.lemmas.Slice.{between_is}
use Rattle.rows.specs.Token.{bytes_of}
use Rattle.row_writers.proofs.write_lexeme.Goals as goal

pub returns : goal.returns
returns c =
    let r = c.row_at-row.result in
    rw (between_is c.args.source.text.now r.start r.end ∙ ap (bytes_of c.args.source.text.now) c.row_at-row.ensures) at c.write_token.ensures
