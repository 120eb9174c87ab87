-- The loops of `next_has_comment`, `block_is_single_line` and `comma_ahead`. Assumes nothing.
use mathlib.Core.Bool.{Bool, true, false, cond, not, ◌&&◌, ◌||◌, or-false, or-true, and-false, and_comm}
use mathlib.Core.List.{List, [], ◌∷◌}
use mathlib.Core.Logic.{◌⊎◌, inl, inr}
use mathlib.Core.Path.{◌≡◌, refl, sym, ap, ◌∙◌}
use Prim.Native.Nat.{ℕ, ◌+◌, ◌-◌, ◌≤◌, ◌<◌}
use native.Mathlib.Omega.{arith}
use lib.Dec.{eqb}
use lib.ListN.{length}
use borrow.Author.Tests.{eqb-true, eqb-false, eq-eqb, ne_eqb}
use Rattle.std.specs.Prelude.{min}
use Rattle.shared.proofs.Logic.{split, and_left, and_right, or_cases, or_left, or_right}
use Rattle.rows.specs.Kinds.{Leading, TokenRow, Trailing, Eof, Newline, LeftBrace, RightBrace, Comma, Other}
use Rattle.rows.specs.Row.{Row, rows_of}
use Rattle.rows.specs.Token.{tokens_of}
use Rattle.rows.specs.declared.kind.Kind.{Kind}
use Rattle.rows.specs.declared.kind.Kind.TheVariants as code
use Rattle.rows.specs.KindNumber.{kind_number}
use Rattle.rows.proofs.KindNumbers.{min_kind, tag_is}
use Rattle.rows.specs.contracts.kind.Kind.{the_type}
use denote.Enum.Declared.{tag_of}
use Rattle.lookahead.specs.Measure.{next_has_comment, block_is_single_line, any_comment, depth_after}
use Rattle.lookahead.specs.Scan.{token_kind, GroupKinds, is_last, is_top, ends_group, comma_ahead, is_trivia, trails}
use Rattle.lookahead.proofs.Steps.{ends_eof, ends_other, ends-closer, ends_above, depth_after-none, depth_after-most}
use Rattle.lookahead.proofs.Tokens.{ends_line, comment_ahead, comment_rows, closes_block, single_line_rows, single_rows}
use Rattle.lookahead.proofs.Closing.{least_rows, comma-deep, block_deep}

-- ---- `next_has_comment`

pub comment_said : (rows text : List ℕ) {x : Bool} → x ≡ comment_ahead false (rows_of rows) → x ≡ next_has_comment (tokens_of rows text)
unfolding tokens_of any_comment
comment_said rows text e = e ∙ sym (comment_rows text [] (rows_of rows))

-- ---- `block_is_single_line`

-- what is left to say, at a depth: behind a token's row a trailing row is that token's
abbrev pub rest_of_block : Bool → ℕ → List Row → Bool
rest_of_block behind depth rs = cond (behind && trails rs) false (single_line_rows depth rs)

pub ends_either : {k : Kind} → (k ≡ code.Newline) ⊎ (k ≡ code.Eof) → ends_line (kind_number k) ≡ true
ends_either (inl e) = rw e
ends_either (inr e) = rw e

module _ {answer : Bool} (behind : Bool) (depth : ℕ) (left : List Row) (α : answer ≡ rest_of_block behind depth left) where
  module _ {r : Row} {rs : List Row} (e : left ≡ r ∷ rs) where
    -- a row that is no token's
    module _ (n : eqb r.what TokenRow ≡ false) {trivia : Bool} (i : trivia ≡ is_trivia r.what behind) where
      pub block_trivia : trivia ≡ true → false ≡ answer
      unfolding single_line_rows
      block_trivia y =
          sym (α ∙ rw e
          (or_cases (eqb r.what Leading) (eqb r.what Trailing && behind) (sym i ∙ y)
          (λ l. rw (eqb-true r.what Leading l, and-false))
          (λ t. rw (and_left (eqb r.what Trailing) behind t, and_right (eqb r.what Trailing) behind t))))

      pub block_passed : trivia ≡ false → answer ≡ rest_of_block false depth rs
      unfolding single_line_rows
      block_passed y =
          α ∙ rw (e, and_comm behind (eqb r.what Trailing), or_right (eqb r.what Leading) (eqb r.what Trailing && behind) (sym i ∙ y), or_left (eqb r.what Leading) (eqb r.what Trailing && behind) (sym i ∙ y), n)

      pub block_skipped : trivia ≡ false → {follows : Bool} → follows ≡ eqb r.what TokenRow → {d : ℕ} → d ≡ depth → answer ≡ rest_of_block follows d rs
      block_skipped y f x = block_passed y ∙ rw (f, x, n)

    -- a token's row, whose kind counts as k
    module _ (t : r.what ≡ TokenRow) {k : ℕ} (q : k ≡ min r.kind Other) where
      pub at_token : answer ≡ cond (trails rs || ends_line k) false (cond (closes_block k depth) true (single_line_rows (depth_after LeftBrace RightBrace k depth) rs))
      unfolding single_line_rows
      at_token =
          α ∙ rw (e, t, and-false, q, min_kind r.kind Newline (omega arith), min_kind r.kind Eof (omega arith), min_kind r.kind RightBrace (omega arith), min_kind r.kind LeftBrace (omega arith))

      pub block_goes : {d : ℕ} → ends_line k ≡ false → closes_block k depth ≡ false → d ≡ depth_after LeftBrace RightBrace k depth → answer ≡ rest_of_block true d rs
      block_goes f g d = at_token ∙ rw (f, g, or-false, d)

      pub block_ended : ends_line k ≡ true → false ≡ answer
      block_ended f = sym (at_token ∙ rw (f, or-true))

      pub block_stopped : (r.kind ≡ LeftBrace → ⊥) → r.kind ≤ RightBrace → (k ≡ RightBrace → ⊥) → false ≡ answer
      block_stopped n h m =
          block_ended (split (eqb k Newline) (λ y. rw y) (λ y. rw (y, eq-eqb k Eof (let z = eqb-false k Newline y in omega (arith, z, n, m, q, h)))))

      pub block_closed : k ≡ RightBrace → depth ≤ 1 → {trailed : Bool} → trailed ≡ trails rs → not trailed ≡ answer
      block_closed z d f = ap not f ∙ sym (at_token ∙ rw (z, or-false, eq-eqb (depth - 1) 0 (omega arith)) (go (trails rs)))
        where
          go : (b : Bool) → cond b false true ≡ not b
          go true = refl
          go false = refl

      module _ {follows : Bool} (f : follows ≡ eqb r.what TokenRow) {d : ℕ} where
        goes : ends_line k ≡ false → closes_block k depth ≡ false → d ≡ depth_after LeftBrace RightBrace k depth → answer ≡ rest_of_block follows d rs
        goes y z x = block_goes y z x ∙ rw (f, t)

        pub block_opened : r.kind ≡ LeftBrace → d ≡ depth + 1 → answer ≡ rest_of_block follows d rs
        block_opened z x = let y : k ≡ LeftBrace = omega arith in goes (rw y) (rw y) (x ∙ rw y)

        pub block_less : k ≡ RightBrace → 1 < depth → d ≡ depth - 1 → answer ≡ rest_of_block follows d rs
        block_less z l x = goes (rw z) (rw (z, ne_eqb (depth - 1) 0 (λ y. omega arith))) (x ∙ rw z)

        pub block_other : RightBrace < r.kind → d ≡ depth → answer ≡ rest_of_block follows d rs
        block_other h x =
            let g : (j : ℕ) → j ≤ RightBrace → eqb k j ≡ false = λ j l. ne_eqb k j (λ y. omega arith) in
            goes (rw (g Newline (omega arith), g Eof (omega arith))) (rw (g RightBrace (omega arith))) (x ∙ rw (g LeftBrace (omega arith), g RightBrace (omega arith)))

  pub block_over : length left < least_rows depth → false ≡ answer
  block_over h = sym (α ∙ rw (block_deep left depth h) (go (behind && trails left)))
    where
      go : (b : Bool) → cond b false false ≡ false
      go true = refl
      go false = refl

  pub block_none : left ≡ [] → false ≡ answer
  unfolding single_line_rows
  block_none e = sym (α ∙ rw (e, and-false))

pub block_said : (rows text : List ℕ) {x : Bool} → x ≡ single_line_rows 0 (rows_of rows) → x ≡ block_is_single_line (tokens_of rows text)
unfolding tokens_of
block_said rows text e = e ∙ sym (single_rows text 0 (rows_of rows))

-- ---- `comma_ahead`

-- the number of a kind, as `as u32` gives it
pub numbered : {k : ℕ} (a : Kind) → k ≡ tag_of the_type a → k ≡ kind_number a
numbered a e = e ∙ tag_is a

pub not_numbered : {k : ℕ} (a : Kind) → (k ≡ tag_of the_type a → ⊥) → k ≡ kind_number a → ⊥
not_numbered a n e = n (e ∙ sym (tag_is a))

module _ {o c o' c' : ℕ} (κ : GroupKinds o c o' c') {answer : Bool} (own other : ℕ) (left : List Row) (α : answer ≡ comma_ahead o c o' c' own other left) where
  -- the depths that a turn leaves, and what is left to say
  pub record Turned (own' other' : ℕ) (rs : List Row) : Type 0 where
    pub said : answer ≡ comma_ahead o c o' c' own' other' rs
    pub own_most : own' ≤ own + 1
    pub other_most : other' ≤ other + 1

  module _ {r : Row} {rs : List Row} (e : left ≡ r ∷ rs) {k : ℕ} (i : k ≡ token_kind r) where
    at_kind : answer ≡ cond (ends_group c k own other) false (cond (eqb k Comma && is_top own other) true (comma_ahead o c o' c' (depth_after o c k own) (depth_after o' c' k other) rs))
    unfolding comma_ahead
    at_kind = α ∙ rw (e, i)

    turn_ended : true ≡ ends_group c k own other → false ≡ answer
    turn_ended f = sym (at_kind ∙ rw (sym f))

    turn_passed : false ≡ ends_group c k own other → false ≡ eqb k Comma && is_top own other → {d d' : ℕ} → d ≡ depth_after o c k own → d' ≡ depth_after o' c' k other → Turned d d' rs
    turn_passed f g x x' =
        let l = depth_after-most o c k own in
        let l' = depth_after-most o' c' k other in
        record { said = at_kind ∙ rw (sym f, sym g, sym x, sym x'); own_most = omega (arith, l, x); other_most = omega (arith, l', x') }

    at_closer : k ≡ c → is_last own other ≡ ends_group c k own other
    at_closer q = ends-closer c k own other (λ z. omega (arith, κ.closer.0)) q

    module _ {d d' : ℕ} where
      -- the group's own opener
      pub turn_opened : k ≡ o → d ≡ own + 1 → d' ≡ other → Turned d d' rs
      turn_opened q x x' =
          turn_passed (ends_other c k own other (λ z. omega (arith, κ.opener.0)) (λ z. κ.own (sym q ∙ z))) (rw (ne_eqb k Comma (λ z. omega (arith, κ.opener.1)))) (x ∙ rw (eq-eqb k o q))
          (x' ∙ sym (depth_after-none o' c' k other (λ z. κ.openers (sym q ∙ z)) (λ z. κ.opened (sym q ∙ z))))

      -- its closer
      turn_inner : k ≡ c → false ≡ is_last own other → d ≡ own - 1 → d' ≡ other → Turned d d' rs
      turn_inner q y x x' =
          turn_passed (y ∙ at_closer q) (rw (ne_eqb k Comma (λ z. omega (arith, κ.closer.1)))) (x ∙ rw (ne_eqb k o (λ z. κ.own (sym z ∙ q)), eq-eqb k c q))
          (x' ∙ sym (depth_after-none o' c' k other (λ z. κ.closed (sym q ∙ z)) (λ z. κ.closers (sym q ∙ z))))

      pub turn_less : k ≡ c → (own ≤ 1 → other ≡ 0 → ⊥) → d ≡ own - 1 → d' ≡ other → Turned d d' rs
      turn_less q n = turn_inner q (last (eqb other 0) refl)
        where
          last : (b : Bool) → b ≡ eqb other 0 → false ≡ is_last own other
          last true y = rw (ne_eqb (own - 1) 0 (λ z. n (omega arith) (eqb-true other 0 (sym y))))
          last false y = rw (sym y, and-false)

    pub turn_closed : k ≡ c → own ≤ 1 → other ≡ 0 → false ≡ answer
    turn_closed q l z =
        let y : true ≡ is_last own other = rw (eq-eqb (own - 1) 0 (omega arith), eq-eqb other 0 z) refl in
        turn_ended (y ∙ at_closer q)

    -- another kind
    module _ (n : k ≡ o → ⊥) (m : k ≡ c → ⊥) where
      turn_other : (k ≡ Eof → ⊥) → false ≡ eqb k Comma && is_top own other → {d d' : ℕ} → d ≡ own → d' ≡ depth_after o' c' k other → Turned d d' rs
      turn_other z g x x' = turn_passed (ends_other c k own other z m) g (x ∙ sym (depth_after-none o c k own n m)) x'

      module _ {d d' : ℕ} (x : d ≡ own) where
        pub turn_above : Comma < k → d' ≡ other → Turned d d' rs
        turn_above l x' =
            turn_passed (sym (ends_above c k own other κ.closer.1 (omega arith))) (rw (ne_eqb k Comma (λ z. omega arith))) (x ∙ sym (depth_after-none o c k own n m))
            (x' ∙ sym (depth_after-none o' c' k other (λ z. omega (arith, κ.other_opener.1)) (λ z. omega (arith, κ.other_closer.1))))

      -- up to Comma it is that of a kind of the code
      module _ (h : k ≤ Comma) {j : ℕ} (q : j ≡ min k Other) where
        same : j ≡ k
        same = omega arith

        pub turn_eof : j ≡ Eof → false ≡ answer
        turn_eof z = turn_ended (ends_eof c k own other (sym same ∙ z))

        module _ (z : j ≡ Eof → ⊥) where
          ends-not : false ≡ ends_group c k own other
          ends-not = ends_other c k own other (λ y. z (same ∙ y)) m

          pub turn_found : true ≡ eqb j Comma && is_top own other → true ≡ answer
          turn_found g = sym (at_kind ∙ rw (sym ends-not, ← same, sym g))

          pub turn_more : false ≡ eqb j Comma && is_top own other → {d d' : ℕ} → d ≡ own → {b : ℕ} → b ≡ depth_after o' c' j other → d' ≡ b → Turned d d' rs
          turn_more g x y x' = turn_other (λ z'. z (same ∙ z')) (g ∙ rw same) x (x' ∙ y ∙ rw same)

  -- The same, of the number k that the row's kind counts as, and said of `answer` itself.
  module _ {r : Row} {rs : List Row} (e : left ≡ r ∷ rs) {k : ℕ} (i : k ≡ min (token_kind r) Other) where
    -- what is said of a kind up to Comma is said of its number
    known : (j : ℕ) → j ≤ Comma → k ≡ j → token_kind r ≡ j
    known j l q = omega arith

    pub top_opened : k ≡ o → answer ≡ comma_ahead o c o' c' (own + 1) other rs
    top_opened q = (turn_opened e refl (known o (omega (arith, κ.opener.1)) q) refl refl).said

    -- its closer
    module _ (q : k ≡ c) {last : Bool} (l : last ≡ is_last own other) where
      closer : token_kind r ≡ c
      closer = known c (omega (arith, κ.closer.1)) q

      pub top_closed : last ≡ true → false ≡ answer
      top_closed y = turn_ended e refl (sym y ∙ l ∙ at_closer e refl closer)

      pub top_less : last ≡ false → answer ≡ comma_ahead o c o' c' (own - 1) other rs
      top_less y = (turn_inner e refl closer (sym y ∙ l) refl refl).said

    -- another kind
    module _ (n : k ≡ o → ⊥) (m : k ≡ c → ⊥) where
      no_opener : token_kind r ≡ o → ⊥
      no_opener z = n (omega (arith, i, z, κ.opener.1))

      no_closer : token_kind r ≡ c → ⊥
      no_closer z = m (omega (arith, i, z, κ.closer.1))

      pub top_above : Comma < k → answer ≡ comma_ahead o c o' c' own other rs
      top_above a = (turn_above e refl no_opener no_closer refl (omega arith) refl).said

      pub top_eof : k ≡ Eof → false ≡ answer
      top_eof z = turn_eof e refl no_opener no_closer (omega arith) i z

      module _ (z : k ≡ Eof → ⊥) where
        pub top_found : true ≡ eqb k Comma && is_top own other → true ≡ answer
        top_found g =
            let y = eqb-true k Comma (and_left (eqb k Comma) (is_top own other) (sym g)) in
            turn_found e refl no_opener no_closer (omega arith) i z g

        pub top_more : false ≡ eqb k Comma && is_top own other → {d : ℕ} → d ≡ depth_after o' c' k other → answer ≡ comma_ahead o c o' c' own d rs
        top_more g x =
            let t = token_kind r in
            (turn_other e refl no_opener no_closer (λ y. z (omega (arith, i, y))) (g ∙ rw (i, min_kind t Comma (omega arith))) refl
            (x ∙ rw (i, min_kind t o' (omega (arith, κ.other_opener.1)), min_kind t c' (omega (arith, κ.other_closer.1))))).said

  pub top_over : length left < least_rows (own + other) → false ≡ answer
  top_over h = sym (α ∙ comma-deep o c o' c' κ.closers left own other h)

  pub top_none : left ≡ [] → false ≡ answer
  unfolding comma_ahead
  top_none e = sym (α ∙ rw e)
