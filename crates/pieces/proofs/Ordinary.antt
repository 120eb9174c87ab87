-- The test of eight bytes at once for the ordinary bytes of a quote. Assumes nothing.
use mathlib.Core.Bool.{Bool, true, false, not, ◌&&◌, cond}
use mathlib.Core.List.{List}
use mathlib.Core.Path.{◌≡◌, refl}
use Prim.Native.Nat.{ℕ, ◌+◌, ◌*◌, ◌≤◌, ◌<◌}
use native.Mathlib.Nat.{mul-one}
use native.Mathlib.Omega.{arith}
use lib.Bits.{bit_and, bit_xor, and_le_l, and_le_r, xor_lt, xor_self, xor_add_and}
use lib.Dec.{eqb}
use lib.ListN.{length, take, drop}
use borrow.Author.Tests.{eqb-true, eqb-false, ne_eqb}
use Rattle.shared.proofs.Logic.{split}
use Rattle.shared.proofs.Below.{below}
use Rattle.pieces.specs.Sets.{all}
use Rattle.pieces.specs.Eight.{eight_at, eight_ones, bytes_set, bytes_other}
use Rattle.pieces.specs.Ends.{ordinary}
use Rattle.pieces.proofs.Eight.{Bytes, Each, same_each, and_each, or_each, xor_each, add_each, eight_test}

-- ---- one byte

one_set : (v : ℕ) → v < 256 → bytes_set 1 v ≡ cond (eqb v 0) 0 128
one_set v h = eqb-true (bytes_set 1 v) (cond (eqb v 0) 0 128) (below 256 (λ v. eqb (bytes_set 1 v) (cond (eqb v 0) 0 128)) refl v h)

xor_equal : (a b : ℕ) → eqb (bit_xor a b) 0 ≡ eqb a b
xor_equal a b =
    split (eqb a b) (λ e. rw (e, eqb-true a b e, xor_self b))
    (λ e. rw e (ne_eqb (bit_xor a b) 0 (λ z. omega (arith, eqb-false a b e, xor_add_and a b, and_le_l a b, and_le_r a b))))

one_other : (b k : ℕ) → b < 256 → k < 256 → bytes_other 1 b k ≡ cond (eqb b k) 0 128
one_other b k h g = rw (mul-one k, one_set (bit_xor b k) (xor_lt 8 b k h g), xor_equal b k)

-- the code's test
abbrev ordinary_bits : ℕ → ℕ → ℕ → ℕ
ordinary_bits q ones x = bit_and (bytes_other ones x q) (bytes_other ones x 92)

both : (d e : Bool) → eqb (bit_and (cond d 0 128) (cond e 0 128)) 128 ≡ not d && not e
both true true = refl
both true false = refl
both false true = refl
both false false = refl

one_ordinary : (q : ℕ) → q < 256 → (b : ℕ) → b < 256 → eqb (ordinary_bits q 1 b) 128 ≡ ordinary q b
one_ordinary q g b h = rw (one_other b q h g, one_other b 92 h (omega arith)) (both (eqb b q) (eqb b 92))

-- ---- eight

module _ {w : List ℕ} {x : ℕ} (ξ : Each w (λ b. b) x) where
  other_each : (k : ℕ) → k < 256 → Each w (λ b. bytes_other 1 b k) (bytes_other eight_ones x k)
  other_each k h =
      let ν = xor_each ξ (same_each ξ k h) in
      let sum = add_each (and_each ν (same_each ξ 127 (omega arith))) (λ b. and_le_r (bit_xor b (k * 1)) 127) 127 (omega arith) in
      and_each (or_each sum ν) (same_each ξ 128 (omega arith))

  ordinary_each : (q : ℕ) → q < 256 → Each w (ordinary_bits q 1) (ordinary_bits q eight_ones x)
  ordinary_each q h = and_each (other_each q h) (other_each 92 (omega arith))

module _ (s : List ℕ) (at : ℕ) (h : at + 8 ≤ length s) (bytes : Bytes s) (q : ℕ) (byte : q < 256) where
  pub eight_ordinary : {x : ℕ} → x ≡ eight_at s at → eqb (ordinary_bits q eight_ones x) (128 * eight_ones) ≡ all (ordinary q) (take 8 (drop at s))
  eight_ordinary e = eight_test s at h bytes (ordinary_bits q 1) (ordinary q) (one_ordinary q byte) e (λ ξ. ordinary_each ξ q byte)
