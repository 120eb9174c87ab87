-- Rows without a token of a kind: no list breaks without a comma, no block closes without a `}`; `after_last` finds where they begin. Assumes nothing.
use mathlib.Core.Bool.{Bool, true, false, cond, not, ◌&&◌, ◌||◌, and-false}
use mathlib.Core.List.{List, [], ◌∷◌, ◌++◌}
use mathlib.Core.Path.{◌≡◌, refl, ◌∙◌}
use Prim.Native.Nat.{ℕ, zero, suc, ◌+◌, ◌*◌, ◌≤◌}
use native.Mathlib.Omega.{arith}
use lib.Dec.{eqb}
use lib.ListN.{length, drop}
use borrow.Author.Tests.{eqb-true, eq-eqb, ne_eqb, not-true}
use Rattle.shared.proofs.Logic.{split, and_left, and_right}
use Rattle.rows.specs.Kinds.{Leading, TokenRow, Eof, LeftBrace, RightBrace, Comma}
use Rattle.rows.specs.Row.{Row, rows_of}
use Rattle.rows.specs.Token.{Trivia, token_of, tokens_from, tokens_of}
use Rattle.rows.proofs.RowList.{part_none, rows_drop, rows_length}
use Rattle.lookahead.specs.Measure.{Measure, start, sized, sizes, counted, measure_from, opens_paren, group_stops, top_level, should_break_list, block_is_single_line}
use Rattle.lookahead.specs.Scan.{up_to_last, after_last, lacks, trails}
use Rattle.lookahead.proofs.Tokens.{ends_line, single_line_rows, single_rows}

-- ---- the first row and the rest

module _ (k : ℕ) (r : Row) (rs : List Row) (e : lacks k (r ∷ rs) ≡ true) where
  first-lacks : eqb r.what TokenRow ≡ true → eqb r.kind k ≡ false
  unfolding lacks
  first-lacks t = rw t at (not-true (eqb r.what TokenRow && eqb r.kind k) (and_left _ (lacks k rs) e))

  rest-lacks : lacks k rs ≡ true
  unfolding lacks
  rest-lacks = and_right (not (eqb r.what TokenRow && eqb r.kind k)) (lacks k rs) e

-- no row is left where the rows end
pub none_left : (k : ℕ) (rows : List ℕ) (at : ℕ) → length rows ≤ at → lacks k (rows_of (drop at rows)) ≡ true
unfolding lacks
none_left k rows at h = rw (part_none rows at (omega arith))

-- ---- no comma: no list breaks

commas_stay : (stops : Measure → ℕ → Bool) (top : Measure → Bool) (text : List ℕ) (m : Measure) (l : List Trivia) (rs : List Row) → lacks Comma rs ≡ true → (measure_from stops top m (sizes (tokens_from text l rs))).commas ≡ m.commas
unfolding tokens_from measure_from
commas_stay stops top text m l [] e = refl
commas_stay stops top text m l (r ∷ rs) e =
    split (eqb r.what TokenRow)
    (λ t. let n = counted (top m) m (sized (token_of text l r rs)) in
    rw t (split (stops n r.kind || eqb r.kind Eof) (λ s. rw s)
    (λ s. rw s (commas_stay stops top text n _ rs (rest-lacks Comma r rs e) ∙ rw (first-lacks Comma r rs e t)))))
    (λ t. rw t (commas_stay stops top text m _ rs (rest-lacks Comma r rs e)))

pub no_comma : (w : ℕ) (rows text : List ℕ) → lacks Comma (rows_of rows) ≡ true → should_break_list w (tokens_of rows text) ≡ false
unfolding should_break_list tokens_of
no_comma w rows text e = let p = opens_paren (sizes (tokens_of rows text)) in rw (commas_stay (group_stops p) (top_level p) text start [] (rows_of rows) e)

-- ---- no `}`: no block closes

never_closes : (depth : ℕ) (rs : List Row) → lacks RightBrace rs ≡ true → single_line_rows depth rs ≡ false
unfolding single_line_rows
never_closes depth [] e = refl
never_closes depth (r ∷ rs) e =
    split (eqb r.what Leading) (λ l. rw l)
    (λ l. split (eqb r.what TokenRow)
    (λ t. rw (l, t) (split (trails rs || ends_line r.kind) (λ s. rw s)
    (λ s. rw (s, first-lacks RightBrace r rs e t) (never_closes (cond (eqb r.kind LeftBrace) (depth + 1) depth) rs (rest-lacks RightBrace r rs e)))))
    (λ t. rw (l, t) (never_closes depth rs (rest-lacks RightBrace r rs e))))

pub no_brace : (rows text : List ℕ) → lacks RightBrace (rows_of rows) ≡ true → block_is_single_line (tokens_of rows text) ≡ false
unfolding tokens_of
no_brace rows text e = single_rows text 0 (rows_of rows) ∙ never_closes 0 (rows_of rows) e

-- ---- behind the last row of a kind

-- no row of the kind
none-lacks : (k : ℕ) (rs : List Row) → up_to_last k rs ≡ 0 → lacks k rs ≡ true
unfolding up_to_last lacks
none-lacks k [] e = refl
none-lacks k (r ∷ rs) e =
    split (eqb (up_to_last k rs) 0)
    (λ z. split (eqb r.kind k)
    (λ y. absurd (let f : 1 ≡ 0 = rw (z, y) at e in omega arith))
    (λ y. rw (y, and-false (eqb r.what TokenRow), none-lacks k rs (eqb-true (up_to_last k rs) 0 z))))
    (λ z. absurd (let f : up_to_last k rs + 1 ≡ 0 = rw z at e in omega arith))

up_to_drop : (k n : ℕ) (rs : List Row) → up_to_last k rs ≤ n → up_to_last k (drop n rs) ≡ 0
unfolding up_to_last
up_to_drop k zero rs h = omega arith
up_to_drop k (suc n) [] h = refl
up_to_drop k (suc n) (r ∷ rs) h =
    up_to_drop k n rs
    (split (eqb (up_to_last k rs) 0)
    (λ z. let e = eqb-true (up_to_last k rs) 0 z in omega arith)
    (λ z. let l : up_to_last k rs + 1 ≤ suc n = rw z at h in omega arith))

-- from `after_last` on the rows lack the kind
pub none_after : (k : ℕ) (rows : List ℕ) {r : ℕ} → r ≡ after_last k rows → (j : ℕ) → r ≤ 16 * j → lacks k (rows_of (drop (16 * j) rows)) ≡ true
none_after k rows e j h = rw (rows_drop j rows) (none-lacks k (drop j (rows_of rows)) (up_to_drop k j (rows_of rows) (omega arith)))

-- ---- the loop of `after_last`

-- the last row is of another kind, or of the kind
pub up_to_other : (k : ℕ) (rs : List Row) (r : Row) → (r.kind ≡ k → ⊥) → up_to_last k (rs ++ r ∷ []) ≡ up_to_last k rs
unfolding up_to_last
up_to_other k [] r n = rw (ne_eqb _ k n) refl
up_to_other k (x ∷ rs) r n = rw (up_to_other k rs r n) refl

pub up_to_found : (k : ℕ) (rs : List Row) (r : Row) → r.kind ≡ k → up_to_last k (rs ++ r ∷ []) ≡ length rs + 1
unfolding up_to_last
up_to_found k [] r e = rw (eq-eqb _ k e) refl
up_to_found k (x ∷ rs) r e = rw (up_to_found k rs r e) (let n = ne_eqb (length rs + 1) 0 (λ z. omega arith) in rw n (omega arith))

pub up_to_none : (k : ℕ) → up_to_last k [] ≡ 0
unfolding up_to_last
up_to_none k = refl

pub ruleset by_last = (up_to_other, up_to_found, up_to_none, rows_length)
