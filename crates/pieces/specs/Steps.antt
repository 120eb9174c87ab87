-- What the steps of `next_piece` and `read_pieces` promise to each other.
-- Assumes nothing.
use Rattle.std.specs.Prelude.{false, List, ◌≡◌, ℕ, ◌+◌, ◌*◌, ◌<◌, length, get_or, set}
use Rattle.pieces.specs.Class.{class}
use Rattle.pieces.specs.Sets.{is_gap}

-- At the index i stands a byte that is no gap.
pub record Begins (text : List ℕ) (i : ℕ) : Type 0 where
  pub inside : i < length text
  pub solid : is_gap (class (get_or text i 0)) ≡ false

-- The slice with the piece from s to e put after n others.
abbrev pub put : List ℕ → ℕ → ℕ → ℕ → List ℕ
put xs n s e = set (set xs (2 * n) s) (2 * n + 1) e
