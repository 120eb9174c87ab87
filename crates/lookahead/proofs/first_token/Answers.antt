-- `lookahead::first_token` meets its contract. Assumes nothing.
use Rattle.std.proofs.Common.{rules, tests}
use Rattle.std.proofs.lemmas.Iterator.Search.{find_from_yields_List}
use Rattle.std.proofs.lemmas.Iterator.Consumers.{YieldsList-from_first}
use lib.Dec.{eqb}
use Rattle.rows.specs.Kinds.{TokenRow}
use Rattle.rows.specs.Row.{rows_of}
use Rattle.rows.specs.Bounds.{row_of}
use Rattle.rows.specs.RowsLeft.{rows_left}
use Rattle.lookahead.proofs.first_token.Goals as goal

pub returns : goal.returns
returns c =
    find_from_yields_List (λ r. eqb r.what TokenRow) c.find.new.self _ c.find.result c.find.ensures.ran
    (YieldsList-from_first row_of rows_left (rows_of c.args.rows.now) c.of.ensures) (λ x b q k. search (rules, tests))
