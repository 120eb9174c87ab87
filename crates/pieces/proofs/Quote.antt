-- An open quote: its ordinary bytes, and the byte after them. Assumes nothing.
use mathlib.Core.Bool.{false}
use mathlib.Core.List.{List, [], ◌∷◌}
use mathlib.Core.Path.{◌≡◌, refl, sym, ◌∙◌}
use Prim.Native.Nat.{ℕ, suc, ◌+◌, ◌≤◌, ◌<◌}
use native.Mathlib.Nat.{add-zero, add-suc, suc-add}
use native.Mathlib.Numerals.{one-add}
use native.Mathlib.Omega.{arith}
use lib.Dec.{eqb, ltb}
use lib.ListN.{length, get_or, drop}
use lib.Seq.{drop-drop}
use borrow.Author.Tests.{eq-eqb, ne_eqb, eqb-true, ltb-true, ltb-false}
use Rattle.shared.proofs.Logic.{split, impossible}
use Rattle.pieces.specs.Reading.{refused, closed, quoted, escaped, inside, read}
use Rattle.pieces.specs.Sets.{run_length}
use Rattle.pieces.specs.Ends.{EndsAt, ordinary}
use Rattle.pieces.proofs.Scan.{Reaches, reaches_more, reaches_end, ends_here, at-end, run_stops}

-- ---- the loop's invariant

-- the quote that stood at `from` is still open at i, where no ordinary byte stands
pub record Stops (text : List ℕ) (q from i : ℕ) : Type 0 where
  pub reached : Reaches text (quoted q) from (quoted q) i
  pub stop : i < length text → ordinary q (get_or text i 0) ≡ false

ordinary-run : (q : ℕ) (t : List ℕ) (s i : ℕ) → let n = run_length (ordinary q) t in read t (inside (quoted q)) s i ≡ read (drop n t) (inside (quoted q)) s (i + n)
unfolding read
ordinary-run q [] s i = refl
ordinary-run q (b ∷ t) s i =
    split (eqb b q) (λ e. rw (e, add-zero) (rw e))
    (λ e. split (eqb b 92) (λ f. rw (e, f, add-zero) (rw (e, f))) (λ f. rw (e, f, one-add, add-suc, ← suc-add) (ordinary-run q t s (suc i))))

module _ {text : List ℕ} {q from i : ℕ} (ρ : Reaches text (quoted q) from (quoted q) i) where
  -- after the ordinary bytes
  pub stops : {e : ℕ} → e ≡ i + run_length (ordinary q) (drop i text) → Stops text q from e
  stops h = rw h (record {
    reached = record { reads = λ s. ρ.reads s ∙ ordinary-run q (drop i text) s i ∙ rw drop-drop };
    stop = run_stops (ordinary q) text i;
  })

-- no ordinary byte, and not the quote: a backslash
backslash : (q b : ℕ) → ordinary q b ≡ false → (b ≡ q → ⊥) → b ≡ 92
backslash q b e n = split (eqb b 92) (eqb-true b 92) (λ f. impossible (rw (ne_eqb b q n, f) at e))

-- ---- the byte there

module _ {text : List ℕ} {q from i : ℕ} (σ : Stops text q from i) where
  ρ : Reaches text (quoted q) from (quoted q) i
  ρ = σ.reached

  pub quote_closed : i < length text → get_or text i 0 ≡ q → EndsAt text (quoted q) from (i + 1)
  quote_closed h e = reaches_end (reaches_more ρ h (rw (eq-eqb (get_or text i 0) q e))) (ends_here text closed (i + 1) (λ s r. refl) refl)

  -- a backslash takes the byte after it along, if there is one
  pub quote_escaped : i < length text → (get_or text i 0 ≡ q → ⊥) → Reaches text (quoted q) from (quoted q) (i + 2)
  quote_escaped h n =
      let m = backslash q (get_or text i 0) (σ.stop h) n in
      let two : i + 1 + 1 ≡ i + 2 = omega arith in
      let ρ' : Reaches text (quoted q) from (escaped q) (i + 1) = reaches_more ρ h (rw (ne_eqb (get_or text i 0) q n, eq-eqb (get_or text i 0) 92 m)) in
      rw (← two)
      (split (ltb (i + 1) (length text)) (λ x. reaches_more ρ' (ltb-true _ _ x) refl)
      (λ x. record { reads = λ s. ρ'.reads s ∙ at-end text (inside (escaped q)) s (i + 1) (ltb-false _ _ x) ∙ sym (at-end text (inside (quoted q)) s (i + 1 + 1) (let y : length text ≤ i + 1 = ltb-false _ _ x in omega arith)) }))

  pub quote_never : length text ≤ i → (s : ℕ) → read (drop from text) (inside (quoted q)) s from ≡ refused s
  quote_never h s = ρ.reads s ∙ at-end text (inside (quoted q)) s i h

-- what `quote_end` goes by
pub ruleset quote_stops = (quote_closed, quote_never)
