-- Whether a text ends with two line feeds, by its last two bytes. Assumes nothing.
use mathlib.Core.Bool.{false, ◌&&◌}
use mathlib.Core.List.{List, [], ◌∷◌}
use mathlib.Core.Path.{◌≡◌, refl}
use Prim.Native.Nat.{ℕ, zero, suc, ◌+◌, ◌-◌, ◌≤◌, ◌<◌}
use native.Mathlib.Omega.{arith}
use lib.Dec.{eqb}
use lib.ListN.{length, take, get_or}
use Rattle.definition.specs.Arms.{ends_with_two_feeds}

two_at : (n : ℕ) (l : List ℕ) → n + 2 ≤ length l → ends_with_two_feeds (take (suc (suc n)) l) ≡ eqb (get_or l n 0) 10 && eqb (get_or l (suc n) 0) 10
unfolding ends_with_two_feeds
two_at n [] h = absurd (omega arith)
two_at n (a ∷ []) h = absurd (omega arith)
two_at zero (a ∷ b ∷ l) h = refl
two_at (suc n) (a ∷ b ∷ []) h = absurd (omega arith)
two_at (suc n) (a ∷ b ∷ c ∷ l) h = two_at n (b ∷ c ∷ l) (omega arith)

pub ends_short : (n : ℕ) (l : List ℕ) → n < 2 → ends_with_two_feeds (take n l) ≡ false
unfolding ends_with_two_feeds
ends_short zero l h = refl
ends_short (suc zero) [] h = refl
ends_short (suc zero) (a ∷ l) h = refl
ends_short (suc (suc n)) l h = absurd (omega arith)

pub ends_at : (n : ℕ) (l : List ℕ) → 2 ≤ n → n ≤ length l → ends_with_two_feeds (take n l) ≡ eqb (get_or l (n - 2) 0) 10 && eqb (get_or l (n - 1) 0) 10
ends_at zero l g h = absurd (omega arith)
ends_at (suc zero) l g h = absurd (omega arith)
ends_at (suc (suc n)) l g h =
    let e : suc (suc n) - 2 ≡ n = omega arith in
    let f : suc (suc n) - 1 ≡ suc n = omega arith in
    rw (e, f) (two_at n l (omega arith))
