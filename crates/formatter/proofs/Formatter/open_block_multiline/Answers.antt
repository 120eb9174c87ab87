-- `formatter::Formatter::open_block_multiline` meets its contract. Assumes nothing.
use mathlib.Core.Path.{ap}
use Rattle.formatter.specs.CodeState.{style_of}
use Rattle.formatter.proofs.Blocks.{block_same_line, block_allman}
use Rattle.formatter.proofs.Formatter.open_block_multiline.Goals as goal

pub returns-in-SameLine : goal.returns-in-SameLine
returns-in-SameLine c = λ x.
    block_same_line _ _ (ap style_of c.in-SameLine.is) (c.open_same_line.ensures x)

pub returns-in-Allman : goal.returns-in-Allman
returns-in-Allman c = λ x.
    block_allman _ _ (ap style_of c.in-Allman.is) (c.open_allman.ensures x)
