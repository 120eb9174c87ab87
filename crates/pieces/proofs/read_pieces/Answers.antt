-- `pieces::read_pieces` meets its contract. Assumes nothing.
use mathlib.Core.Path.{sym, ◌∙◌}
use Rattle.pieces.proofs.Filling.{refused_slots}
use Rattle.pieces.proofs.read_pieces.Goals as goal

pub returns-then-is_err-clause-slice : goal.returns-then-is_err-clause-slice
returns-then-is_err-clause-slice c =
    refused_slots c.args.text.now c.args.pieces.now c.read_into-read.result c.read_into-read.ensures.answer
    (sym c.is_err.ensures.value ∙ c.if-is_err.true) (c.fill.ensures.after (λ y e. e) ∙ rw c.read_into-read.ensures.len)
