-- What laying out promises to reading back.
-- Assumes nothing.
use Rattle.std.specs.Prelude.{◌≡◌, ◌≤◌, length}
use Rattle.definition.specs.Layout.{Layout}
use Rattle.definition.specs.Demand3.{length_of}

-- the text, where there is one, lies in the output
abbrev pub Fits : Layout → Type 0
Fits l = l.report.refusal ≡ 0 → length_of l ≤ length l.out
