-- A list in blocks of n bytes, and the last n. Assumes nothing.
use mathlib.Core.Bool.{Bool, true, false}
use mathlib.Core.List.{List}
use mathlib.Core.Path.{◌≡◌, sym, ◌∙◌}
use Prim.Native.Nat.{ℕ, zero, suc, ◌+◌, ◌-◌, ◌*◌, ◌/◌, ◌≤◌, ◌<◌}
use native.Mathlib.Nat.{suc-mul, mul-le-mul_right, div-add-mod', mod-lt}
use native.Mathlib.Omega.{arith}
use lib.ListN.{length, get_or, take, drop}
use lib.Seq.{drop-drop}
use Rattle.std.specs.Simd.{first_chunks}
use Rattle.pieces.specs.Sets.{all}
use Rattle.plain.proofs.Runs.{all_parts, last_part}

block_at : (n m k : ℕ) (s d : List ℕ) → k < m → get_or (first_chunks n m s) k d ≡ take n (drop (k * n) s)
block_at n zero k s d h = absurd (omega arith)
block_at n (suc m) zero s d h = let e : 0 * n ≡ 0 = omega arith in rw e
block_at n (suc m) (suc k) s d h =
    let e : n + k * n ≡ suc k * n = omega (arith, suc-mul k n) in
    block_at n m k (drop n s) d (omega arith) ∙ rw (drop-drop, e)

module _ (f : ℕ → Bool) (n : ℕ) (s : List ℕ) where
  -- the blocks before the block k are in the set
  module _ (k : ℕ) (e : all f s ≡ all f (drop (k * n) s)) {blocks : List (List ℕ)} {block : List ℕ} (front : blocks ≡ first_chunks n (length s / n) s)
      (count : length blocks ≡ length s / n) (h : k < length blocks) (b : block ≡ get_or blocks k block) where
    is : block ≡ take n (drop (k * n) s)
    is = b ∙ rw front (block_at n (length s / n) k s block (omega arith))

    pub block-out : all f block ≡ false → false ≡ all f s
    block-out t = sym (e ∙ all_parts f n (drop (k * n) s) ∙ rw (← is, t))

    pub block-in : all f block ≡ true → all f s ≡ all f (drop ((k + 1) * n) s)
    block-in t =
        let o : k * n + n ≡ (k + 1) * n = omega (arith, suc-mul k n) in
        e ∙ all_parts f n (drop (k * n) s) ∙ rw (← is, t, drop-drop, o)

  -- all blocks are in the set, and `last` is the last one
  pub blocks_last : (k : ℕ) → all f s ≡ all f (drop (k * n) s) → 0 < n → n ≤ length s → {m : ℕ} → m ≡ length s / n → m ≤ k →
      {last : List ℕ} → last ≡ drop (length s - n) s → all f last ≡ all f s
  blocks_last k e p h count c {last} b =
      let m : length s / n * n ≤ k * n = mul-le-mul_right n (omega arith) in
      let l : length s ≤ k * n + n = omega (arith, div-add-mod' (length s) n, mod-lt (length s) p, m) in
      rw b (last_part n f s h (k * n) e l)
