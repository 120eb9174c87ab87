-- The lines that keep the form of specs/Line.antt are those written here, with what 0–2 and kind 0–34, and each reads as its row.
-- Assumes nothing.
use mathlib.Core.Bool.{Bool, true, false, cond}
use mathlib.Core.List.{List, [], ◌∷◌, ◌++◌}
use mathlib.Core.Option.{Option, none, some}
use mathlib.Core.Path.{◌≡◌, refl, ap, ◌∙◌}
use Prim.Native.Nat.{ℕ, ◌+◌, ◌-◌, ◌*◌, ◌/◌, ◌%◌, ◌≤◌, ◌<◌}
use native.Mathlib.Omega.{arith}
use lib.Dec.{eqb, leb, ltb}
use borrow.Author.Tests.{eqb-true, ne_eqb, le-leb, leb-true, lt-ltb, le-ltb, ltb-true, ltb-false}
use Rattle.shared.specs.Bytes.{byte, bytes, line_feed, space, digit}
use Rattle.shared.specs.Lines.{first_line}
use Rattle.shared.proofs.Lines.{line_cons}
use Rattle.shared.proofs.Logic.{split}
use Rattle.shared.proofs.Below.{below}
use Rattle.sheet.specs.Line.{bad, row, with_byte, text_of, row_of, space_and_text, is_second, kind_from, kind_and_text, space_and_kind, what_of, line_of}
use Rattle.sheet.proofs.Cut.{no_line}
use Rattle.sheet.proofs.Form.{digit_low, digit_high, second-digit, second_some, second-small, digit-solid, what-solid}

-- ---- a row as a line of a sheet (specification, 'The sheet')

-- what 0, 1, 2 as `L`, `T`, `R`
abbrev pub what_byte : ℕ → ℕ
what_byte what = cond (eqb what 0) (byte "L") (cond (eqb what 1) (byte "T") (byte "R"))

-- a number below 100 in decimal without leading zeros
abbrev pub decimal : ℕ → List ℕ
decimal k = cond (ltb k 10) ((byte "0" + k) ∷ []) ((byte "0" + k / 10) ∷ (byte "0" + k % 10) ∷ [])

-- byte 10 as `\n`, a backslash as `\\`
abbrev pub escaped : List ℕ → List ℕ
escaped [] = []
escaped (b ∷ t) = cond (eqb b (byte "\n")) (bytes "\\n" ++ escaped t) (cond (eqb b (byte "\\")) (bytes "\\\\" ++ escaped t) (b ∷ escaped t))

-- The line of a row.
abbrev pub written : ℕ → ℕ → List ℕ → List ℕ
written what kind bs = what_byte what ∷ space ++ (decimal kind ++ (space ++ (escaped bs ++ line_feed)))

-- ---- a written line reads as its row

text-read : (bs : List ℕ) → text_of false (escaped bs ++ (10 ∷ [])) ≡ some bs
unfolding text_of
text-read [] = refl
text-read (b ∷ t) =
    split (eqb b 10) (λ e. rw (e, text-read t, eqb-true b 10 e))
    (λ n. split (eqb b 92) (λ e. rw (n, e, text-read t, eqb-true b 92 e)) (λ m. rw (n, m, n, m, text-read t)))

one_digit : (what k : ℕ) (t : List ℕ) → k < 10 → kind_and_text what ((48 + k) ∷ 32 ∷ t) ≡ row_of what k (text_of false t)
one_digit what k t h =
    let same : 48 + k - 48 ≡ k = omega arith in
    rw (le-leb 48 (48 + k) (omega arith), le-leb (48 + k) 57 (omega arith), same)

two_digits : (what k : ℕ) (t : List ℕ) → 10 ≤ k → k ≤ 34 → kind_and_text what ((48 + k / 10) ∷ (48 + k % 10) ∷ 32 ∷ t) ≡ row_of what k (text_of false t)
two_digits what k t g h =
    let first : 48 + k / 10 - 48 ≡ k / 10 = omega arith in
    let whole : 10 * (k / 10) + (48 + k % 10 - 48) ≡ k = omega arith in
    rw (le-leb 48 (48 + k / 10) (omega arith), le-leb (48 + k / 10) 57 (omega arith), first, le-leb 48 (48 + k % 10) (omega arith), le-leb (48 + k % 10) 57 (omega arith), lt-ltb 0 (k / 10) (omega arith), whole, le-leb k 34 h)

kind-read : (what k : ℕ) (t : List ℕ) → k ≤ 34 → kind_and_text what (decimal k ++ 32 ∷ t) ≡ row_of what k (text_of false t)
kind-read what k t h = split (ltb k 10) (λ e. rw e (one_digit what k t (ltb-true _ _ e))) (λ e. rw e (two_digits what k t (ltb-false _ _ e) h))

what-read : (what : ℕ) → what ≤ 2 → what_of (what_byte what) ≡ what
what-read what h = eqb-true _ _ (below 3 (λ w. eqb (what_of (what_byte w)) w) refl what (omega arith))

pub written-reads : (what kind : ℕ) (bs : List ℕ) → what ≤ 2 → kind ≤ 34 → line_of (written what kind bs) ≡ row what kind bs
unfolding line_of
written-reads what kind bs g h = rw (what-read what g, le-leb what 2 g) (kind-read what kind (escaped bs ++ (10 ∷ [])) h ∙ rw (text-read bs))

-- ---- a line that keeps its form is that of its row

impossible_row : {C : Type 0} {w k : ℕ} {bs : List ℕ} → bad ≡ row w k bs → C
impossible_row e = let z : ◌≡◌ {A = ℕ} 0 1 = cc in absurd (omega arith)

-- a text of one byte more
record Longer (b : ℕ) (x : Option (List ℕ)) (bs : List ℕ) : Type 0 where
  cs : List ℕ
  rest : x ≡ some cs
  whole : bs ≡ b ∷ cs

longer : (b : ℕ) (x : Option (List ℕ)) {bs : List ℕ} → with_byte b x ≡ some bs → Longer b x bs
longer b none e = let z : ◌≡◌ {A = ℕ} 0 1 = cc in absurd (omega arith)
longer b (some cs) e = record { cs = cs; rest = refl; whole = cc }

abbrev with_backslash : Bool → List ℕ → List ℕ
with_backslash true l = 92 ∷ l
with_backslash false l = l

plain-written : (b : ℕ) (cs : List ℕ) {l bs : List ℕ} → eqb b 10 ≡ false → eqb b 92 ≡ false → bs ≡ b ∷ cs → l ≡ escaped cs ++ (10 ∷ []) → b ∷ l ≡ escaped bs ++ (10 ∷ [])
plain-written b cs q r e h = rw (e, q, r) (ap (λ l. b ∷ l) h)

text-written : (s : List ℕ) (f : Bool) (bs : List ℕ) → text_of f (first_line line_feed s) ≡ some bs → with_backslash f (first_line line_feed s) ≡ escaped bs ++ (10 ∷ [])
unfolding text_of
text-written [] false bs e = let z : ◌≡◌ {A = ℕ} 0 1 = cc (rw no_line at e) in absurd (omega arith)
text-written [] true bs e = let z : ◌≡◌ {A = ℕ} 0 1 = cc (rw no_line at e) in absurd (omega arith)
text-written (b ∷ t) false bs e₀ =
    let e = rw (line_cons b t) at e₀ in
    rw (line_cons b t)
    (split (eqb b 10) (λ q. let z : bs ≡ [] = cc (rw q at e) in rw (q, z, eqb-true b 10 q))
    (λ q.
    split (eqb b 92) (λ r. rw (q, eqb-true b 92 r) (text-written t true bs (rw (q, r) at e)))
    (λ r. let μ = longer b (text_of false (first_line line_feed t)) (rw (q, r) at e) in rw q (plain-written b μ.cs q r μ.whole (text-written t false μ.cs μ.rest)))))
text-written (b ∷ t) true bs e₀ =
    let e = rw (line_cons b t) at e₀ in
    rw (line_cons b t)
    (split (eqb b 110)
    (λ q.
    let μ = longer 10 (text_of false (first_line line_feed t)) (rw (eqb-true b 110 q) at e) in
    rw (eqb-true b 110 q, μ.whole) (ap (λ l. 92 ∷ 110 ∷ l) (text-written t false μ.cs μ.rest)))
    (λ q.
    split (eqb b 92)
    (λ r.
    let μ = longer 92 (text_of false (first_line line_feed t)) (rw (eqb-true b 92 r) at e) in
    rw (eqb-true b 92 r, μ.whole) (ap (λ l. 92 ∷ 92 ∷ l) (text-written t false μ.cs μ.rest)))
    (λ r. let z : ◌≡◌ {A = ℕ} 0 1 = cc (rw (q, r) at e) in absurd (omega arith))))

what-written : (b : ℕ) → what_of b ≤ 2 → b ≡ what_byte (what_of b)
what-written b h =
    split (eqb b 76) (λ q. rw (q, eqb-true b 76 q))
    (λ q. split (eqb b 84) (λ r. rw (q, r, eqb-true b 84 r)) (λ r. split (eqb b 82) (λ s. rw (q, r, s, eqb-true b 82 s)) (λ s. let n : what_of b ≡ 3 = rw (q, r, s) in absurd (omega arith))))

module _ {w k : ℕ} {bs : List ℕ} where
  -- what a row is made of
  row_made : (what kind : ℕ) (x : Option (List ℕ)) → row_of what kind x ≡ row w k bs → (what ≡ w) × (kind ≡ k) × (x ≡ some bs)
  row_made what kind none e = impossible_row e
  row_made what kind (some cs) e = (cc, cc, cc)

  space-written : (what kind : ℕ) (s : List ℕ) → space_and_text what kind (first_line line_feed s) ≡ row w k bs → (what ≡ w) × (kind ≡ k) × (first_line line_feed s ≡ 32 ∷ (escaped bs ++ (10 ∷ [])))
  space-written what kind [] e = impossible_row (rw no_line at e)
  space-written what kind (b ∷ t) e₀ =
      let e = rw (line_cons b t) at e₀ in
      split (eqb b 32)
      (λ q.
      let m = row_made what kind (text_of false (first_line line_feed t)) (rw (eqb-true b 32 q) at e) in
      (m.0, m.1, rw (line_cons b t, eqb-true b 32 q) (ap (λ l. 32 ∷ l) (text-written t false bs m.2))))
      (λ q. impossible_row (rw q at e))

  -- the kind's second byte, where the first is b
  second-written : (what b : ℕ) (s : List ℕ) → digit b ≡ true → kind_from what (b - 48) (first_line line_feed s) ≡ row w k bs → (what ≡ w) × (k ≤ 34) × (b ∷ first_line line_feed s ≡ decimal k ++ 32 ∷ (escaped bs ++ (10 ∷ [])))
  second-written what b [] d e = impossible_row (rw no_line at e)
  second-written what b (c ∷ t) d e₀ =
      let e = rw (line_cons c t) at e₀ in
      let low = digit_low b d in
      let high = digit_high b d in
      split (is_second (b - 48) c)
      (λ q.
      let low' = digit_low c (second-digit (b - 48) c q) in
      let high' = digit_high c (second-digit (b - 48) c q) in
      let some = second_some (b - 48) c q in
      let small = second-small (b - 48) c q in
      let solid = ne_eqb c 10 (digit-solid c (second-digit (b - 48) c q)) in
      let m = space-written what (10 * (b - 48) + (c - 48)) t (rw (q, solid) at e) in
      let is : 10 * (b - 48) + (c - 48) ≡ k = m.1 in
      let tens : 48 + k / 10 ≡ b = omega arith in
      let ones : 48 + k % 10 ≡ c = omega arith in
      (m.0, omega arith, rw (line_cons c t, solid, le-ltb k 10 (omega arith), tens, ones) (ap (λ l. b ∷ c ∷ l) m.2)))
      (λ q.
      let m = space-written what (b - 48) (c ∷ t) (rw (line_cons c t) (rw q at e)) in
      let is : b - 48 ≡ k = m.1 in
      let ones : 48 + k ≡ b = omega arith in
      (m.0, omega arith, rw (lt-ltb k 10 (omega arith), ones) (ap (λ l. b ∷ l) m.2)))

  kind-written : (what : ℕ) (s : List ℕ) → kind_and_text what (first_line line_feed s) ≡ row w k bs → (what ≡ w) × (k ≤ 34) × (first_line line_feed s ≡ decimal k ++ 32 ∷ (escaped bs ++ (10 ∷ [])))
  kind-written what [] e = impossible_row (rw no_line at e)
  kind-written what (b ∷ t) e₀ =
      let e = rw (line_cons b t) at e₀ in
      split (digit b)
      (λ d. let solid = ne_eqb b 10 (digit-solid b d) in let m = second-written what b t d (rw (d, solid) at e) in (m.0, m.1, rw (line_cons b t, solid) m.2))
      (λ d. impossible_row (rw d at e))

  after-what : (what : ℕ) (s : List ℕ) → space_and_kind what (first_line line_feed s) ≡ row w k bs → (what ≡ w) × (k ≤ 34) × (first_line line_feed s ≡ 32 ∷ (decimal k ++ 32 ∷ (escaped bs ++ (10 ∷ []))))
  after-what what [] e = impossible_row (rw no_line at e)
  after-what what (b ∷ t) e₀ =
      let e = rw (line_cons b t) at e₀ in
      split (eqb b 32) (λ q. let m = kind-written what t (rw (eqb-true b 32 q) at e) in (m.0, m.1, rw (line_cons b t, eqb-true b 32 q) (ap (λ l. 32 ∷ l) m.2))) (λ q. impossible_row (rw q at e))

  pub line_written : (s : List ℕ) → line_of (first_line line_feed s) ≡ row w k bs → (w ≤ 2) × (k ≤ 34) × (first_line line_feed s ≡ written w k bs)
  unfolding line_of
  line_written [] e = impossible_row (rw no_line at e)
  line_written (b ∷ t) e₀ =
      let e = rw (line_cons b t) at e₀ in
      split (leb (what_of b) 2)
      (λ q.
      let h : what_of b ≤ 2 = leb-true _ _ q in
      let solid = ne_eqb b 10 (what-solid b h) in
      let m = after-what (what_of b) t (rw (q, solid) at e) in
      let is : what_of b ≡ w = m.0 in
      (omega arith, m.1, rw (line_cons b t, solid, ← is, ← what-written b h) (ap (λ l. b ∷ l) m.2)))
      (λ q. impossible_row (rw q at e))
