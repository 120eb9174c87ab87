-- The broken-group stack, as a list.
-- Assumes nothing.
use Rattle.std.specs.Prelude.{List, [], ◌∷◌, ◌≡◌, ℕ, ◌≤◌, zero, suc, get_or, set, length, replicate}

-- How many numbers the broken-group stack holds.
abbrev pub stack_size : ℕ
stack_size = 64

-- The first n numbers of the array, the last of them first.
unfoldable pub top_first : ℕ → List ℕ → List ℕ
top_first zero entries = []
top_first (suc n) entries = get_or entries n 0 ∷ top_first n entries

-- The first n of the array's 64 numbers are on the stack, and the others are 0.
pub record OnStack (n : ℕ) (entries : List ℕ) : Type 0 where
  pub few : n ≤ stack_size
  pub size : length entries ≡ stack_size
  pub rest : (i : ℕ) → n ≤ i → get_or entries i 0 ≡ 0

-- The array of a stack that is this list.
unfoldable pub entries_of : List ℕ → List ℕ
entries_of [] = replicate stack_size 0
entries_of (x ∷ xs) = set (entries_of xs) (length xs) x
