-- The first line of a text.
-- Assumes nothing.
use Rattle.std.specs.Prelude.{cond, List, [], ◌∷◌, ℕ, eqb}
use Rattle.shared.specs.Bytes.{byte}

-- The bytes before the first line feed, and `end` where there is one: `first_line line_feed` is the line with its line feed,
-- `first_line []` the line without.
unfoldable pub first_line : List ℕ → List ℕ → List ℕ
first_line end [] = []
first_line end (b ∷ t) = cond (eqb b (byte "\n")) end (b ∷ first_line end t)
