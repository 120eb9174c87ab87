-- The test's two rows are checked rows. Assumes nothing.
use Rattle.std.proofs.Common.{refl, arith}
use Rattle.rows.specs.Checks.{bad_from}
use Rattle.rows.specs.Row.{first_rows, rows_of}
use Rattle.formatter.proofs.Place.{head_first}
use Rattle.formatter.proofs.fast_tokens.tests.lays_out_fn_and_name.Goals as goal

pub push_fast_tokens-at-requires-clause-checked : goal.push_fast_tokens-at-requires-clause-checked
unfolding bad_from rows_of first_rows
push_fast_tokens-at-requires-clause-checked g c =
    let given = c.new-formatter.ensures.given in
    rw (given.1, given.2) (record { whole = refl; few = omega arith; good = refl })

pub push_fast_tokens-at-requires-clause-token_boundary : goal.push_fast_tokens-at-requires-clause-token_boundary
push_fast_tokens-at-requires-clause-token_boundary g c = head_first (push_fast_tokens-at-requires-clause-checked g c)
