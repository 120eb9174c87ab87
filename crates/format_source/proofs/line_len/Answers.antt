-- `format_source::line_len` meets its contract. Assumes nothing.
use Rattle.std.proofs.Common.{◌∙◌, rules, tests}
use Rattle.std.proofs.lemmas.Iterator.{YieldsList-from_slice}
use Rattle.std.proofs.lemmas.Iterator.Search.{position_from_yields_List}
use lib.Dec.{eqb}
use Rattle.shared.specs.Bytes.{byte}
use Rattle.format_source.proofs.Lines.{line_end}
use Rattle.format_source.proofs.line_len.Goals as goal

pub returns : goal.returns
returns c =
    let found = position_from_yields_List (λ b. eqb b (byte "\n")) _ _ c.position-feed.result c.position-feed.ensures.ran (YieldsList-from_slice _ c.iter.ensures.rest) (λ x b q k. search (rules, tests)) in
    rw found at c.unwrap_or.ensures ∙ line_end c.args.source.now
