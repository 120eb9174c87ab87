-- The loop of `until_wide`: the rows that are left complete the measure. Assumes nothing.
use mathlib.Core.Bool.{Bool, true, false, ◌&&◌}
use mathlib.Core.List.{List, [], ◌∷◌}
use mathlib.Core.Path.{◌≡◌, refl, sym, ap, ◌∙◌}
use Prim.Native.Nat.{ℕ, ◌+◌, ◌-◌, ◌≤◌, ◌<◌}
use native.Mathlib.Omega.{arith}
use lib.Dec.{eqb}
use lib.ListN.{length}
use borrow.Author.Tests.{ne_eqb}
use Rattle.std.specs.Prelude.{min}
use Rattle.rows.specs.Kinds.{TokenRow, Eof, LeftParen, RightParen, LeftBracket, RightBracket, Comma, Other}
use Rattle.rows.specs.Row.{Row, rows_of}
use Rattle.rows.proofs.KindNumbers.{min_kind}
use Rattle.rows.proofs.RowList.{rows_length}
use Rattle.lookahead.specs.declared.measure.Span.{Span}
use Rattle.lookahead.specs.declared.measure.Span.TheVariants.{Signature, Paren, Bracket}
use Rattle.lookahead.specs.Measure.{Measure, start}
use Rattle.lookahead.specs.Scan.{stops_at, top_in, counts, measure_rows, measure_of, Room, FewIn}
use Rattle.lookahead.proofs.Steps.{depth_after-most, more-most, ends_above, positive}
use Rattle.lookahead.specs.declared.measure.Measure.{Measure as CodeMeasure}

-- ---- a kind above 34 counts as one of 34

stops_min : (span : Span) (p b k : ℕ) → stops_at span p b (min k Other) ≡ stops_at span p b k
stops_min Signature p b k = rw (min_kind k RightParen (omega arith), min_kind k Eof (omega arith))
stops_min Paren p b k = rw (min_kind k RightParen (omega arith), min_kind k Eof (omega arith))
stops_min Bracket p b k = rw (min_kind k RightBracket (omega arith), min_kind k Eof (omega arith))

counts_min : (span : Span) (m : Measure) (k n : ℕ) → counts span m (min k Other) n ≡ counts span m k n
counts_min span m k n =
    rw (min_kind k LeftParen (omega arith), min_kind k RightParen (omega arith), min_kind k LeftBracket (omega arith), min_kind k RightBracket (omega arith), min_kind k Comma (omega arith))

-- ---- a kind behind Comma adds its size alone

stops_above : (span : Span) (p b k : ℕ) → Comma < k → stops_at span p b k ≡ false
stops_above Signature p b k h = ends_above RightParen k p 0 (omega arith) (omega arith)
stops_above Paren p b k h = ends_above RightParen k p b (omega arith) (omega arith)
stops_above Bracket p b k h = ends_above RightBracket k b p (omega arith) (omega arith)

counts_above : (span : Span) (m : CodeMeasure) (k n : ℕ) → Comma < k → measure_of (record { parens = m.parens; brackets = m.brackets; commas = m.commas; width = m.width + (n + 1) }) ≡ counts span (measure_of m) k n
counts_above span m k n h =
    let none : (j : ℕ) → j ≤ Comma → eqb k j ≡ false = λ j l. ne_eqb k j (λ q. omega arith) in
    rw (positive (m.width + (n + 1)) (λ q. omega arith), none LeftParen (omega arith), none RightParen (omega arith), none LeftBracket (omega arith), none RightBracket (omega arith), none Comma (omega arith))

-- ---- the loop

-- the code's numbers m, where the rows `left` are left
pub record Measuring (rows : List ℕ) (span : Span) (m : CodeMeasure) (left : List Row) : Type 0 where
  pub few : FewIn m left (rows_of rows)
  pub said : measure_rows span start (rows_of rows) ≡ measure_rows span (measure_of m) left

module _ {rows : List ℕ} {span : Span} {m : CodeMeasure} {left : List Row} (σ : Measuring rows span m left) where
  pub room : (n : ℕ) → length rows < 9223372036854775808 → m.width + n < 9223372036854775808 → Room m n
  room n h l =
      let f = σ.few in
      let k = rows_length rows in
      record { parens = omega (arith, f.parens); brackets = omega (arith, f.brackets); commas = omega (arith, f.commas); width = l }

  pub ended : left ≡ [] → measure_rows span start (rows_of rows) ≡ measure_of m
  unfolding measure_rows
  ended e = σ.said ∙ rw e

  module _ {r : Row} {rs : List Row} (e : left ≡ r ∷ rs) where
    one_less : length left ≡ length rs + 1
    one_less = rw e (omega arith)

    pub fewer : FewIn m rs (rows_of rows)
    fewer =
        let f = σ.few in
        let l = one_less in
        record { parens = omega (arith, f.parens); brackets = omega (arith, f.brackets); commas = omega (arith, f.commas); width = omega (arith, f.width) }

    pub passed_over : eqb r.what TokenRow ≡ false → Measuring rows span m rs
    unfolding measure_rows
    passed_over n = record { few = fewer; said = σ.said ∙ rw (e, n) }

    module _ (t : eqb r.what TokenRow ≡ true) {k : ℕ} (q : k ≡ min r.kind Other) {stops : Bool} (s : stops ≡ stops_at span m.parens m.brackets k) where
      stops_is : stops_at span m.parens m.brackets r.kind ≡ stops
      stops_is = sym (s ∙ rw q (stops_min span m.parens m.brackets r.kind))

      pub stopped : stops ≡ true → measure_rows span start (rows_of rows) ≡ measure_of m
      unfolding measure_rows
      stopped y = σ.said ∙ rw (e, t, stops_is ∙ y)

      pub counted : stops ≡ false → {n : ℕ} {m' : CodeMeasure} → n ≡ r.end - r.start → n < 4294967296 → measure_of m' ≡ counts span (measure_of m) k n → Measuring rows span m' rs
      unfolding measure_rows
      counted y {n} {m'} z small c =
          let f = σ.few in
          let l = one_less in
          record {
            few = record {
              parens = omega (arith, f.parens, ap (λ x. x.paren_depth) c, depth_after-most LeftParen RightParen k m.parens);
              brackets = omega (arith, f.brackets, ap (λ x. x.bracket_depth) c, depth_after-most LeftBracket RightBracket k m.brackets);
              commas = omega (arith, f.commas, ap (λ x. x.commas) c, more-most (eqb k Comma && top_in span m.parens m.brackets) m.commas);
              width = omega (arith, f.width, ap (λ x. x.width) c);
            };
            said = σ.said ∙ rw (e, t, stops_is ∙ y, ← z, ← counts_min span (measure_of m) r.kind n, ← q, c);
          }

    -- of a kind behind Comma
    pub grown : eqb r.what TokenRow ≡ true → Comma < r.kind → {n : ℕ} {m' : CodeMeasure} → n ≡ r.end - r.start → n < 4294967296 → m' ≡ (record { parens = m.parens; brackets = m.brackets; commas = m.commas; width = m.width + (n + 1) }) → Measuring rows span m' rs
    grown t h {n} z small x =
        let k = min r.kind Other in
        let l : Comma < k = omega arith in
        counted t refl refl (stops_above span m.parens m.brackets k l) z small (ap measure_of x ∙ counts_above span m k n l)
