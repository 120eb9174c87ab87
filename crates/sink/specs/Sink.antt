-- Writing into a lent output. The length counts on, by one past the end where the bytes do not fit.
-- Assumes nothing.
use Rattle.std.specs.Prelude.{Bool, cond, List, ◌++◌, ◌≡◌, ℕ, ◌+◌, ◌≤◌, ◌<◌, length, take, drop, replicate}
use Rattle.shared.specs.Bytes.{byte}

-- the bytes xs stand at n, and the rest is as it was
pub record Wrote (l : List ℕ) (n : ℕ) (xs : List ℕ) (m : List ℕ) (r : ℕ) : Type 0 where
  pub far : r ≡ n + length xs
  pub text : take r m ≡ take n l ++ xs
  pub rest : drop r m ≡ drop r l

-- writing xs at n takes the output l to m, and the length n to r
pub record Writes (l : List ℕ) (n : ℕ) (xs : List ℕ) (m : List ℕ) (r : ℕ) : Type 0 where
  pub size : length m ≡ length l
  pub fits : n + length xs ≤ length l → Wrote l n xs m r
  pub over : length l < n + length xs → length l < r

-- one past the longest gap: an indent width of 16 and an indent of 32 bits
abbrev pub past_gap : ℕ
past_gap = 68719476736

-- so many spaces
abbrev pub spaces : ℕ → List ℕ
spaces n = replicate n (byte " ")

-- how many commas are put
abbrev pub count_comma : Bool → ℕ
count_comma wanted = cond wanted 1 0
