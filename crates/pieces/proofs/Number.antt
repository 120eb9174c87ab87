-- A run that a digit began, a byte at a time. Assumes nothing.
use mathlib.Core.Bool.{Bool, true, false, cond, ◌&&◌, ◌||◌}
use mathlib.Core.List.{List}
use mathlib.Core.Path.{◌≡◌, refl}
use Prim.Native.Nat.{ℕ, ◌+◌}
use lib.Dec.{eqb}
use lib.ListN.{get_or}
use Rattle.shared.specs.Bytes.{digit}
use Rattle.pieces.specs.Class.{class, is_word}
use Rattle.pieces.specs.Reading.{number, Joined, ends, takes}
use Rattle.pieces.specs.Ends.{taken, join_at}

-- what is taken goes on as a number
keep_number : (x : Bool) → taken (cond x (takes number) ends) ≡ true → cond x (takes number) ends ≡ takes number
keep_number true e = refl
keep_number false e = cc

pub takes_none : (j : Joined) → taken j ≡ false → j ≡ ends
takes_none ends e = refl
takes_none (takes k) e = cc

-- the byte at i
module _ (text : List ℕ) (i : ℕ) where
  pub takes-number : taken (join_at text number i) ≡ true → join_at text number i ≡ takes number
  takes-number e = keep_number (is_word (class (get_or text i 0)) || (eqb (get_or text i 0) 46 && digit (get_or text (i + 1) 0))) e
