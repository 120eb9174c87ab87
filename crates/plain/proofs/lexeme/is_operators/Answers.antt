-- `plain::lexeme::is_operators` meets its contract. Assumes nothing.
use Rattle.std.proofs.Common.{rules, tests, sym, ◌∙◌}
use borrow.Author.Tests.{eqb-false}
use Rattle.std.proofs.lemmas.Iterator.{YieldsList-from_slice}
use Rattle.std.proofs.lemmas.Iterator.Search.{all_from_yields_List}
use Rattle.definition.specs.Plain.{operator_byte}
use Rattle.plain.proofs.Runs.{run_listed}
use Rattle.plain.proofs.lexeme.is_operators.Goals as goal

pub returns-then-not-is_empty : goal.returns-then-not-is_empty
returns-then-not-is_empty c =
    let xs = c.args.lexeme.now in
    all_from_yields_List operator_byte _ _ _ c.all.ensures.ran (YieldsList-from_slice xs cc) (λ x b q k. search (rules, tests)) ∙ run_listed operator_byte xs (eqb-false _ 0 (sym c.is_empty.ensures ∙ c.if-not-is_empty.true))
