-- The bytes of a number tell the number, so a report tells its three numbers. Assumes nothing.
use mathlib.Core.List.{List, [], ◌∷◌}
use mathlib.Core.Path.{◌≡◌}
use Prim.Native.Nat.{ℕ, zero, suc, ◌+◌, ◌*◌, ◌/◌, ◌^◌, ◌<◌}
use native.Mathlib.Nat.{pow-suc}
use native.Mathlib.Omega.{arith}
use Rattle.shared.specs.Numbers.{little_endian}

-- what bytes say, the lowest first
unfoldable pub value : List ℕ → ℕ
value [] = 0
value (b ∷ bs) = b + 256 * value bs

pub little_endian_value : (n x : ℕ) → x < 256 ^ n → value (little_endian n x) ≡ x
unfolding little_endian value
little_endian_value zero x h = omega arith
little_endian_value (suc n) x h =
    let p : 256 ^ suc n ≡ 256 ^ n * 256 = pow-suc 256 n in
    let g : x / 256 < 256 ^ n = omega arith in
    let e = little_endian_value n (x / 256) g in
    omega arith
