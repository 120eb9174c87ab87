-- What `decide` comes to: commas and width only grow, and the commas do not depend on the width. Assumes nothing.
use mathlib.Core.Bool.{true, ◌&&◌, or-true, and-true}
use mathlib.Core.List.{List, [], ◌∷◌}
use mathlib.Core.Path.{◌≡◌, refl, sym, ap, ◌∙◌}
use Prim.Native.Nat.{ℕ, ◌+◌, ◌-◌, ◌≤◌, ◌<◌}
use native.Mathlib.Omega.{arith}
use lib.Dec.{eqb, ltb}
use borrow.Author.Tests.{lt-ltb}
use Rattle.shared.proofs.Logic.{split}
use Rattle.rows.specs.Kinds.{TokenRow, LeftParen, RightParen, LeftBracket, RightBracket, Comma, Other}
use Rattle.rows.specs.Row.{Row, rows_of}
use Rattle.lookahead.specs.declared.measure.Span.{Span}
use Rattle.lookahead.specs.declared.measure.Span.TheVariants.{Signature, Paren, Bracket}
use Rattle.lookahead.specs.Measure.{Measure, start, depth_after}
use Rattle.lookahead.specs.Scan.{is_top, ends_group, stops_at, top_in, counts, measure_rows, measure_of, comma_ahead, breaks, breaks_at}
use Rattle.lookahead.proofs.Steps.{ends_above, depth_after-none, more, more_least}
use Rattle.lookahead.specs.declared.measure.Measure

-- the numbers behind a token's row
abbrev behind : Span → Measure → Row → Measure
behind span m r = counts span m r.kind (r.end - r.start)

-- ---- commas and width only grow

record Grown (m n : Measure) : Type 0 where
  pub commas : m.commas ≤ n.commas
  pub width : m.width ≤ n.width

grows : (span : Span) (m : Measure) (rs : List Row) → Grown m (measure_rows span m rs)
unfolding measure_rows
grows span m [] = record { commas = omega arith; width = omega arith }
grows span m (r ∷ rs) =
    split (eqb r.what TokenRow)
    (λ e. rw e (split (stops_at span m.paren_depth m.bracket_depth r.kind) (λ f. rw f (record { commas = omega arith; width = omega arith }))
    (λ f. rw f (let γ = grows span (behind span m r) rs in
    let l = more_least (eqb r.kind Comma && top_in span m.paren_depth m.bracket_depth) m.commas in
    record { commas = omega (arith, γ.commas); width = omega (arith, γ.width) }))))
    (λ e. rw e (grows span m rs))

-- ---- a comma at the top, by the depths alone

comma-stays : (span : Span) (m : Measure) (r : Row) (rs : List Row) → eqb r.kind Comma && top_in span m.paren_depth m.bracket_depth ≡ true → ltb 0 (measure_rows span (behind span m r) rs).commas ≡ true
comma-stays span m r rs h =
    let γ = grows span (behind span m r) rs in
    let e : (behind span m r).commas ≡ m.commas + 1 = ap (λ b. more b m.commas) h in
    lt-ltb 0 (measure_rows span (behind span m r) rs).commas (omega (arith, γ.commas))

-- a group whose own depth and the other are `own` and `other` of a measure, with the kinds that change them
module _ (span : Span) (own other : Measure → ℕ) (o c o' c' : ℕ) (lo : o ≤ Comma) (lc : c < Comma) (lo' : o' ≤ Comma) (lc' : c' ≤ Comma)
    (stops : (m : Measure) (k : ℕ) → stops_at span m.paren_depth m.bracket_depth k ≡ ends_group c k (own m) (other m))
    (top : (m : Measure) → top_in span m.paren_depth m.bracket_depth ≡ is_top (own m) (other m))
    (own_after : (m : Measure) (k n : ℕ) → own (counts span m k n) ≡ depth_after o c k (own m))
    (other_after : (m : Measure) (k n : ℕ) → other (counts span m k n) ≡ depth_after o' c' k (other m)) where
  comma_rows : (m : Measure) (rs : List Row) → m.commas ≡ 0 → comma_ahead o c o' c' (own m) (other m) rs ≡ ltb 0 (measure_rows span m rs).commas
  unfolding comma_ahead measure_rows
  comma_rows m [] z = rw z
  comma_rows m (r ∷ rs) z =
      split (eqb r.what TokenRow)
      (λ e. rw (e, stops m r.kind) (split (ends_group c r.kind (own m) (other m)) (λ g. rw (g, z))
      (λ g. rw (g, ← top m) (split (eqb r.kind Comma && top_in span m.paren_depth m.bracket_depth)
      (λ h. rw (comma-stays span m r rs h, h))
      (λ h. rw (← own_after m r.kind (r.end - r.start), ← other_after m r.kind (r.end - r.start), h)
      (rw h at (comma_rows (behind span m r) rs (ap (λ b. more b m.commas) h ∙ z))))))))
      (λ e. rw (e, ends_above c Other (own m) (other m) lc (omega arith), depth_after-none o c Other (own m) (λ q. omega arith) (λ q. omega arith), depth_after-none o' c' Other (other m) (λ q. omega arith) (λ q. omega arith))
      (comma_rows m rs z))

-- ---- the decision

-- the measure m is what `until_wide` reached, with the rows rs left
module _ (rows : List ℕ) (limit : ℕ) (m : Measure.Measure) (rs : List Row) where
  module _ (h : limit < m.width) where
    pub wide_signature : measure_rows Signature start (rows_of rows) ≡ measure_rows Signature (measure_of m) rs → true ≡ breaks_at Signature limit (measure_rows Signature start (rows_of rows))
    wide_signature left =
        let γ = grows Signature (measure_of m) rs in
        rw (left, lt-ltb limit (measure_rows Signature (measure_of m) rs).width (omega (arith, γ.width)), or-true)

    module _ (span : Span) (left : measure_rows span start (rows_of rows) ≡ measure_rows span (measure_of m) rs) where
      pub wide_comma : 0 < m.commas → true ≡ breaks_at span limit (measure_rows span start (rows_of rows))
      wide_comma c = let γ = grows span (measure_of m) rs in rw left (sym (go span _ _ (omega (arith, γ.commas)) (omega (arith, γ.width))))
        where
          go : (span : Span) (c w : ℕ) → 0 < c → limit < w → breaks span limit c w ≡ true
          go Signature c w g h = rw (lt-ltb limit w h) (or-true (ltb 2 c))
          go Paren c w g h = rw (lt-ltb 0 c g, lt-ltb limit w h)
          go Bracket c w g h = rw (lt-ltb 0 c g, lt-ltb limit w h)

      -- a wide list breaks exactly if it has a comma
      wide_list : ltb 0 (measure_rows span (measure_of m) rs).commas ≡ ltb 0 (measure_rows span start (rows_of rows)).commas && ltb limit (measure_rows span start (rows_of rows)).width
      wide_list =
          let γ = grows span (measure_of m) rs in
          rw (left, lt-ltb limit (measure_rows span (measure_of m) rs).width (omega (arith, γ.width)), and-true)

    module _ (z : m.commas ≤ 0) where
      pub wide_paren : measure_rows Paren start (rows_of rows) ≡ measure_rows Paren (measure_of m) rs → comma_ahead LeftParen RightParen LeftBracket RightBracket m.parens m.brackets rs ≡ breaks_at Paren limit (measure_rows Paren start (rows_of rows))
      wide_paren left =
          comma_rows Paren (λ x. x.paren_depth) (λ x. x.bracket_depth) LeftParen RightParen LeftBracket RightBracket (omega arith) (omega arith) (omega arith) (omega arith)
          (λ x k. refl) (λ x. refl) (λ x k n. refl) (λ x k n. refl) (measure_of m) rs (omega arith)
          ∙ wide_list Paren left

      pub wide_bracket : measure_rows Bracket start (rows_of rows) ≡ measure_rows Bracket (measure_of m) rs → comma_ahead LeftBracket RightBracket LeftParen RightParen m.brackets m.parens rs ≡ breaks_at Bracket limit (measure_rows Bracket start (rows_of rows))
      wide_bracket left =
          comma_rows Bracket (λ x. x.bracket_depth) (λ x. x.paren_depth) LeftBracket RightBracket LeftParen RightParen (omega arith) (omega arith) (omega arith) (omega arith)
          (λ x k. refl) (λ x. refl) (λ x k n. refl) (λ x k n. refl) (measure_of m) rs (omega arith)
          ∙ wide_list Bracket left
