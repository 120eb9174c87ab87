-- Eight bytes in one number: how they are read, that an operation acts on each, and that they are tested at once. Assumes nothing.
use mathlib.Core.Bool.{Bool, ◌&&◌}
use mathlib.Core.List.{List, [], ◌∷◌}
use mathlib.Core.Path.{◌≡◌, refl, ◌∙◌}
use Prim.Native.Nat.{ℕ, zero, suc, ◌+◌, ◌*◌, ◌^◌, ◌≤◌, ◌<◌}
use native.Mathlib.Nat.{add-zero}
use native.Mathlib.Omega.{arith}
use lib.Bits.{bit_and, bit_or, bit_xor, and_block, or_block, xor_block, and_lt, or_lt, xor_lt}
use lib.Dec.{eqb}
use lib.ListN.{length, get_or, take, drop, length-drop}
use lib.Seq.{get_or-drop, length-take-le}
use borrow.Author.Tests.{eqb-true, eqb-false, eq-eqb, ne_eqb}
use Rattle.shared.proofs.Logic.{split}
use Rattle.pieces.specs.Sets.{all}
use Rattle.pieces.specs.Eight.{eight_at, eight_ones}

-- ---- read

-- the number whose bytes, the low one first, are f of each
abbrev joined : (ℕ → ℕ) → List ℕ → ℕ
joined f [] = 0
joined f (b ∷ w) = joined f w * 256 + f b

from_drop : (s : List ℕ) (at : ℕ) → eight_at s at ≡ eight_at (drop at s) 0
from_drop s at = simp (get_or-drop, add-zero)

first_eight : (t : List ℕ) → 8 ≤ length t → eight_at t 0 ≡ joined (λ b. b) (take 8 t)
first_eight [] h = absurd (omega arith)
first_eight (a ∷ []) h = absurd (omega arith)
first_eight (a ∷ b ∷ []) h = absurd (omega arith)
first_eight (a ∷ b ∷ c ∷ []) h = absurd (omega arith)
first_eight (a ∷ b ∷ c ∷ d ∷ []) h = absurd (omega arith)
first_eight (a ∷ b ∷ c ∷ d ∷ e ∷ []) h = absurd (omega arith)
first_eight (a ∷ b ∷ c ∷ d ∷ e ∷ f ∷ []) h = absurd (omega arith)
first_eight (a ∷ b ∷ c ∷ d ∷ e ∷ f ∷ g ∷ []) h = absurd (omega arith)
first_eight (a ∷ b ∷ c ∷ d ∷ e ∷ f ∷ g ∷ k ∷ t) h = omega arith

eight_read : (s : List ℕ) (at : ℕ) → at + 8 ≤ length s → eight_at s at ≡ joined (λ b. b) (take 8 (drop at s))
eight_read s at h = from_drop s at ∙ first_eight (drop at s) (rw length-drop (omega arith))

-- ---- an operation acts on each byte

-- takes bytes to bytes
abbrev Bytewise : (ℕ → ℕ) → Type 0
Bytewise f = (b : ℕ) → b < 256 → f b < 256

-- has bytes alone
abbrev pub Bytes : List ℕ → Type 0
Bytes w = (j : ℕ) → get_or w j 0 < 256

-- of the eight bytes w: the bytes of x are f of each
pub record Each (w : List ℕ) (f : ℕ → ℕ) (x : ℕ) : Type 0 where
  size : length w ≡ 8
  bytes : Bytes w
  value : x ≡ joined f w
  small : Bytewise f

module _ (op : ℕ → ℕ → ℕ) (none : op 0 0 ≡ 0)
    (block : (k a b r s : ℕ) → r < 2 ^ k → s < 2 ^ k → op (a * 2 ^ k + r) (b * 2 ^ k + s) ≡ op a b * 2 ^ k + op r s)
    (bound : (k a b : ℕ) → a < 2 ^ k → b < 2 ^ k → op a b < 2 ^ k) where
  op_joined : (w : List ℕ) → Bytes w → (f g : ℕ → ℕ) → Bytewise f → Bytewise g → op (joined f w) (joined g w) ≡ joined (λ b. op (f b) (g b)) w
  op_joined [] bytes f g hf hg = none
  op_joined (b ∷ w) bytes f g hf hg =
      block 8 (joined f w) (joined g w) (f b) (g b) (hf b (bytes 0)) (hg b (bytes 0)) ∙ rw (op_joined w (λ j. bytes (suc j)) f g hf hg)

  op_each : {w : List ℕ} {f g : ℕ → ℕ} {x y : ℕ} → Each w f x → Each w g y → Each w (λ b. op (f b) (g b)) (op x y)
  op_each {w} {f} {g} φ γ = record {
    size = φ.size;
    bytes = φ.bytes;
    value = rw (φ.value, γ.value) (op_joined w φ.bytes f g φ.small γ.small);
    small = λ b h. bound 8 (f b) (g b) (φ.small b h) (γ.small b h);
  }

add_joined : (f g : ℕ → ℕ) (w : List ℕ) → joined f w + joined g w ≡ joined (λ b. f b + g b) w
add_joined f g [] = refl
add_joined f g (b ∷ w) = omega (arith, add_joined f g w)

-- the byte k, n times
abbrev times : ℕ → ℕ → ℕ
times zero k = 0
times (suc n) k = times n k * 256 + k

times_joined : (k : ℕ) (w : List ℕ) → times (length w) k ≡ joined (λ b. k) w
times_joined k [] = refl
times_joined k (b ∷ w) = rw (times_joined k w)

-- ---- numbers are equal where each byte is

eqb-bytes : (a b x y : ℕ) → x < 256 → y < 256 → eqb (a * 256 + x) (b * 256 + y) ≡ eqb x y && eqb a b
eqb-bytes a b x y hx hy =
    split (eqb x y)
    (λ p. split (eqb a b)
    (λ q. rw (p, q) (eq-eqb (a * 256 + x) (b * 256 + y) (omega (arith, eqb-true x y p, eqb-true a b q))))
    (λ q. rw (p, q) (ne_eqb (a * 256 + x) (b * 256 + y) (λ z. omega (arith, eqb-true x y p, eqb-false a b q)))))
    (λ p. rw p (ne_eqb (a * 256 + x) (b * 256 + y) (λ z. omega (arith, eqb-false x y p))))

module _ (k : ℕ) (h : k < 256) (f : ℕ → ℕ) (small : Bytewise f) (p : ℕ → Bool) (test : (b : ℕ) → b < 256 → eqb (f b) k ≡ p b) where
  all_equal : (w : List ℕ) → Bytes w → eqb (joined f w) (joined (λ b. k) w) ≡ all p w
  all_equal [] bytes = refl
  all_equal (b ∷ w) bytes =
      eqb-bytes (joined f w) (joined (λ b. k) w) (f b) k (small b (bytes 0)) h ∙ rw (test b (bytes 0), all_equal w (λ j. bytes (suc j)))

-- ---- what the tests are made of

module _ {w : List ℕ} {f : ℕ → ℕ} {x : ℕ} (φ : Each w f x) where
  -- the same byte eight times
  pub same_each : (k : ℕ) → k < 256 → Each w (λ b. k * 1) (k * eight_ones)
  same_each k h =
      let e : k * eight_ones ≡ times 8 (k * 1) = omega arith in
      record { size = φ.size; bytes = φ.bytes; value = e ∙ rw φ.size at (times_joined (k * 1) w); small = λ b g. omega arith }

  -- no sum is above 255
  pub add_each : ((b : ℕ) → f b ≤ 127) → (k : ℕ) → k ≤ 128 → Each w (λ b. f b + k * 1) (x + k * eight_ones)
  add_each low k h = record {
    size = φ.size;
    bytes = φ.bytes;
    value = rw (φ.value, (same_each k (omega arith)).value) (add_joined f (λ b. k * 1) w);
    small = λ b g. omega (arith, low b);
  }

  module _ {g : ℕ → ℕ} {y : ℕ} (γ : Each w g y) where
    pub and_each : Each w (λ b. bit_and (f b) (g b)) (bit_and x y)
    and_each = op_each bit_and refl and_block and_lt φ γ

    pub or_each : Each w (λ b. bit_or (f b) (g b)) (bit_or x y)
    or_each = op_each bit_or refl or_block or_lt φ γ

    pub xor_each : Each w (λ b. bit_xor (f b) (g b)) (bit_xor x y)
    xor_each = op_each bit_xor refl xor_block xor_lt φ γ

-- ---- a test of eight bytes

bytes_take : (n : ℕ) (t : List ℕ) → Bytes t → Bytes (take n t)
bytes_take zero t bytes j = omega arith
bytes_take (suc n) [] bytes j = omega arith
bytes_take (suc n) (b ∷ t) bytes zero = bytes 0
bytes_take (suc n) (b ∷ t) bytes (suc j) = bytes_take n t (λ k. bytes (suc k)) j

-- its answer for each, 128 for yes, is that of p
module _ (s : List ℕ) (at : ℕ) (h : at + 8 ≤ length s) (bytes : Bytes s) (f : ℕ → ℕ) (p : ℕ → Bool) (one : (b : ℕ) → b < 256 → eqb (f b) 128 ≡ p b) where
  abbrev part : List ℕ
  part = take 8 (drop at s)

  pub eight_test : {x y : ℕ} → x ≡ eight_at s at → (Each part (λ b. b) x → Each part f y) → eqb y (128 * eight_ones) ≡ all p part
  eight_test e bits =
      let ξ : Each part (λ b. b) _ = record {
        size = length-take-le 8 (drop at s) (rw length-drop (omega arith));
        bytes = bytes_take 8 (drop at s) (λ j. rw get_or-drop (bytes (at + j)));
        value = e ∙ eight_read s at h;
        small = λ b h. h;
      } in
      let τ = bits ξ in
      rw (τ.value, (same_each ξ 128 (omega arith)).value) (all_equal 128 (omega arith) f τ.small p one part ξ.bytes)
