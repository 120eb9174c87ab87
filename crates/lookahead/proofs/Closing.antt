-- Rows that are too few to close what is open: no scan finds there what it looks for. Assumes nothing.
use mathlib.Core.Bool.{false, ◌&&◌, ◌||◌}
use mathlib.Core.List.{List, [], ◌∷◌}
use mathlib.Core.Path.{◌≡◌, refl, sym, ◌∙◌}
use Prim.Native.Nat.{ℕ, ◌+◌, ◌-◌, ◌≤◌, ◌<◌}
use native.Mathlib.Omega.{arith}
use lib.Dec.{eqb}
use lib.ListN.{length}
use borrow.Author.Tests.{eqb-true, eqb-false, ne_eqb}
use Rattle.shared.proofs.Logic.{split, and_left, and_right}
use Rattle.rows.specs.Kinds.{Leading, TokenRow, LeftBrace, RightBrace, Comma}
use Rattle.rows.specs.Row.{Row}
use Rattle.lookahead.specs.Measure.{depth_after}
use Rattle.lookahead.specs.Scan.{is_top, ends_group, token_kind, comma_ahead, trails}
use Rattle.lookahead.proofs.Tokens.{ends_line, closes_block, single_line_rows}

-- ---- a token closes one at most

depth_after_least : (o c k d : ℕ) → d ≤ depth_after o c k d + 1
depth_after_least o c k d = split (eqb k o) (λ e. rw e (omega arith)) (λ e. rw e (split (eqb k c) (λ f. rw f (omega arith)) (λ f. rw f (omega arith))))

-- what does not close leaves no less open
depth_after-stays : (o c k d : ℕ) → (k ≡ c → ⊥) → d ≤ depth_after o c k d
depth_after-stays o c k d n = split (eqb k o) (λ e. rw e (omega arith)) (λ e. rw (e, ne_eqb k c n) (omega arith))

depths_least : (o c o' c' k own other : ℕ) → (c ≡ c' → ⊥) → own + other ≤ depth_after o c k own + depth_after o' c' k other + 1
depths_least o c o' c' k own other n =
    split (eqb k c)
    (λ e. let l = depth_after_least o c k own in
    let s = depth_after-stays o' c' k other (λ q. n (sym (eqb-true k c e) ∙ q)) in
    omega (arith, l, s))
    (λ e. let l = depth_after_least o' c' k other in
    let s = depth_after-stays o c k own (eqb-false k c e) in
    omega (arith, l, s))

-- ---- the two scans

-- the rows that a scan needs at least: one for each level that is open, and one where none is
abbrev pub least_rows : ℕ → ℕ
least_rows depth = depth - 1 + 1

module _ (o c o' c' : ℕ) (apart : c ≡ c' → ⊥) where
  pub comma-deep : (rs : List Row) (own other : ℕ) → length rs < least_rows (own + other) → comma_ahead o c o' c' own other rs ≡ false
  unfolding comma_ahead
  comma-deep [] own other h = refl
  comma-deep (r ∷ rs) own other h =
      split (ends_group c (token_kind r) own other) (λ e. rw e)
      (λ e. rw e (split (eqb (token_kind r) Comma && is_top own other)
      (λ f. let t = and_right (eqb (token_kind r) Comma) (is_top own other) f in
      let a = eqb-true own 1 (and_left (eqb own 1) (eqb other 0) t) in
      let b = eqb-true other 0 (and_right (eqb own 1) (eqb other 0) t) in
      absurd (omega (arith, a, b, h)))
      (λ f. rw f (let l = depths_least o c o' c' (token_kind r) own other apart in
      comma-deep rs _ _ (omega (arith, l, h))))))

pub block_deep : (rs : List Row) (depth : ℕ) → length rs < least_rows depth → single_line_rows depth rs ≡ false
unfolding single_line_rows
block_deep [] depth h = refl
block_deep (r ∷ rs) depth h =
    split (eqb r.what Leading) (λ e. rw e)
    (λ e. rw e (split (eqb r.what TokenRow)
    (λ f. rw f (split (trails rs || ends_line r.kind) (λ g. rw g)
    (λ g. rw g (split (closes_block r.kind depth)
    (λ w. let z = eqb-true (depth - 1) 0 (and_right (eqb r.kind RightBrace) (eqb (depth - 1) 0) w) in absurd (omega (arith, z, h)))
    (λ w. rw w (let l = depth_after_least LeftBrace RightBrace r.kind depth in block_deep rs _ (omega (arith, l, h))))))))
    (λ f. rw f (block_deep rs depth (omega (arith, h))))))
