-- The tests and the step that the measures share. Assumes nothing.
use mathlib.Core.Bool.{Bool, true, false, cond, or-true, or-false}
use mathlib.Core.Path.{◌≡◌}
use Prim.Native.Nat.{ℕ, ◌+◌, ◌≤◌, ◌<◌}
use native.Mathlib.Omega.{arith}
use lib.Dec.{eqb, ltb}
use borrow.Author.Tests.{eq-eqb, ne_eqb, ltb-false}
use Rattle.shared.proofs.Logic.{split}
use Rattle.rows.specs.Kinds.{Eof, Comma}
use Rattle.lookahead.specs.Measure.{depth_after}
use Rattle.lookahead.specs.Scan.{is_last, ends_group}

-- ---- where a group ends, by the tests that the code makes

module _ (c k own other : ℕ) where
  pub ends_eof : k ≡ Eof → true ≡ ends_group c k own other
  ends_eof e = rw (eq-eqb k Eof e, or-true)

  module _ (n : k ≡ Eof → ⊥) where
    pub ends_other : (k ≡ c → ⊥) → false ≡ ends_group c k own other
    ends_other m = rw (ne_eqb k c m, ne_eqb k Eof n)

    pub ends-closer : k ≡ c → is_last own other ≡ ends_group c k own other
    ends-closer e = rw (eq-eqb k c e, ne_eqb k Eof n, or-false)

  -- no kind from Comma on ends one
  pub ends_above : c < Comma → Comma ≤ k → ends_group c k own other ≡ false
  ends_above l h = rw (ne_eqb k c (λ q. omega arith), ne_eqb k Eof (λ q. omega arith))

-- ---- what a step adds

-- one more comma where the test holds
abbrev pub more : Bool → ℕ → ℕ
more b n = cond b (n + 1) n

pub depth_after-none : (o c k d : ℕ) → (k ≡ o → ⊥) → (k ≡ c → ⊥) → depth_after o c k d ≡ d
depth_after-none o c k d n m = rw (ne_eqb k o n, ne_eqb k c m)

pub depth_after-most : (o c k d : ℕ) → depth_after o c k d ≤ d + 1
depth_after-most o c k d = split (eqb k o) (λ e. rw e (omega arith)) (λ e. rw e (split (eqb k c) (λ f. rw f (omega arith)) (λ f. rw f (omega arith))))

pub more-most : (b : Bool) (n : ℕ) → more b n ≤ n + 1
more-most true n = omega arith
more-most false n = omega arith

pub more_least : (b : Bool) (n : ℕ) → n ≤ more b n
more_least true n = omega arith
more_least false n = omega arith

pub positive : (n : ℕ) → (n ≡ 0 → ⊥) → ltb 0 n ≡ true
positive n h = split (ltb 0 n) (λ e. e) (λ e. absurd (h (let l = ltb-false 0 n e in omega arith)))
