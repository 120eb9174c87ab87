-- From the layout on the rest of the output to the layout after a line. Assumes nothing.
use mathlib.Core.Bool.{true, false, cond}
use mathlib.Core.List.{List, [], ◌∷◌, ◌++◌, append-nil}
use mathlib.Core.Path.{◌≡◌, refl, sym, ap, subst, ◌∙◌}
use Prim.Native.Nat.{ℕ, ◌+◌, ◌-◌, ◌≤◌, ◌<◌, min}
use native.Mathlib.Omega.{arith}
use lib.Dec.{eqb, leb, ltb}
use lib.ListN.{length, take, drop, length-append, length-take, length-drop, take-append-drop, drop_of_length-le}
use lib.Seq.{take_all, drop_at}
use borrow.Author.Tests.{eqb-true, leb-true, leb-false, ltb-false}
use Rattle.shared.specs.Bytes.{line_feed}
use Rattle.shared.specs.Lines.{first_line}
use Rattle.shared.specs.Report.{Report, option, ragged_rows, bad_row, deep}
use Rattle.shared.proofs.Logic.{split, or_cases}
use Rattle.rows.specs.Options.{default_style, default_indent_width, default_width}
use Rattle.definition.specs.Layout.{Layout}
use Rattle.definition.proofs.Laid.{layout-size, layout-fits, layout_unchanged}
use Rattle.format_source.specs.Source.{is_shebang, shebang, before_walk, with_line, after_line, default_layout, layout_source}
use Rattle.format_source.proofs.Lines.{line_first_lem}

-- an answer and an output, as a definition has them
pub record Meets (l : Layout) (r : Report) (m : List ℕ) : Type 0 where
  pub answer : r ≡ l.report
  pub output : m ≡ l.out

-- ---- after any line, or none

pub of_checks : (r : Report) → before_walk r ≡ true → (0 < r.refusal) × (r.refusal < deep)
of_checks r e =
    or_cases (eqb r.refusal option) _ e (λ a. let q = eqb-true r.refusal option a in (omega arith, omega arith))
    (λ d. or_cases (eqb r.refusal ragged_rows) _ d (λ a. let q = eqb-true r.refusal ragged_rows a in (omega arith, omega arith))
    (λ a. let q = eqb-true r.refusal bad_row a in (omega arith, omega arith)))

after_nothing : (line : List ℕ) (l : Layout) (out : List ℕ) → length line ≡ 0 → after_line line l out ≡ l
after_nothing [] l out e = refl
after_nothing (b ∷ bs) l out e = absurd (omega arith)

after_line_lem : (line : List ℕ) (l : Layout) (out : List ℕ) → 0 < length line → after_line line l out ≡ cond (before_walk l.report) (record { report = l.report; out = out }) (with_line line l out)
after_line_lem [] l out h = absurd (omega arith)
after_line_lem (b ∷ bs) l out h = refl

module _ (line rows text out : List ℕ) where
  abbrev rest : Layout
  rest = default_layout rows text (drop (length line) out)

  -- once the rest of the output is laid out
  abbrev begun : Layout
  begun = record { report = rest.report; out = take (length line) out ++ rest.out }

  rest-size : length rest.out ≡ length out - length line
  rest-size = layout-size default_style default_indent_width default_width default_width rows text (drop (length line) out) ∙ length-drop (length line) out

  module _ {r : Report} {m : List ℕ} (β : Meets begun r m) where
    size : length m ≡ length out
    size =
        let s = rest-size in
        let t = length-take (length line) out in
        ap length β.output ∙ length-append (take (length line) out) rest.out ∙ omega arith

    put_same : with_line line (record { report = r; out = drop (length line) m }) m ≡ with_line line rest out
    put_same =
        rw (size, β.answer)
        (split (ltb (length out) (length line)) (λ e. rw e)
        (λ e.
        let h = ltb-false (length out) (length line) e in
        let t = length-take (length line) out in
        let d : drop (length line) m ≡ rest.out = ap (drop (length line)) β.output ∙ drop_at (take (length line) out) rest.out (length line) (omega arith) in
        rw (e, d)))

    begun-fits : r.refusal ≡ 0 → r.first ≤ length m - length line
    begun-fits e =
        let f = layout-fits default_style default_indent_width default_width default_width rows text (drop (length line) out) (ap (λ x. x.refusal) (sym β.answer) ∙ e) in
        let s = rest-size in
        rw (β.answer, size) (omega arith)

    begun-nothing : length line ≡ 0 → Meets (after_line line rest out) r m
    begun-nothing e =
        let t : take (length line) out ≡ [] = rw e in
        rw (after_nothing line rest out e) (record { answer = β.answer; output = β.output ∙ rw t })

    begun-refused : 0 < length line → before_walk r ≡ true → Meets (after_line line rest out) r m
    begun-refused h e =
        let w = of_checks rest.report (rw β.answer at e) in
        let u = layout_unchanged default_style default_indent_width default_width default_width rows text (drop (length line) out) w.0 w.1 in
        rw (after_line_lem line rest out h, ← β.answer, e) (record { answer = refl; output = β.output ∙ rw u (take-append-drop (length line) out) })

    begun-put : 0 < length line → before_walk r ≡ false → {r' : Report} {m' : List ℕ}
        → Meets (with_line line (record { report = r; out = drop (length line) m }) m) r' m'
        → Meets (after_line line rest out) r' m'
    begun-put h e {r'} {m'} μ = subst (λ l. Meets l r' m') (put_same ∙ sym (after_line_lem line rest out h ∙ rw (← β.answer, e))) μ

-- ---- the output lent from a on, where the line ends or the output does

module _ (xs : List ℕ) (n a : ℕ) (e : a ≡ min n (length xs)) where
  take_capped : take a xs ≡ take n xs
  take_capped =
      split (leb n (length xs)) (λ h. let w = leb-true n (length xs) h in let q : a ≡ n = omega arith in rw q)
      (λ h. let w = leb-false n (length xs) h in take_all a xs (omega arith) ∙ sym (take_all n xs (omega arith)))

  drop_capped : drop a xs ≡ drop n xs
  drop_capped =
      split (leb n (length xs)) (λ h. let w = leb-true n (length xs) h in let q : a ≡ n = omega arith in rw q)
      (λ h. let w = leb-false n (length xs) h in drop_of_length-le xs {i = a} (omega arith) ∙ sym (drop_of_length-le xs {i = n} (omega arith)))

lent_begun : (line rows text out : List ℕ) {a : ℕ} {r : Report} {ys : List ℕ} → a ≡ min (length line) (length out)
    → Meets (default_layout rows text (take (length out - a) (drop a out))) r ys → Meets (begun line rows text out) r (take a out ++ (ys ++ drop (length out - a) (drop a out)))
lent_begun line rows text out {a} {r} {ys} e μ =
    let d = length-drop a out in
    let lent : take (length out - a) (drop a out) ≡ drop (length line) out = take_all (length out - a) (drop a out) (omega arith) ∙ drop_capped out (length line) a e in
    let none = drop_of_length-le (drop a out) {i = length out - a} (omega arith) in
    let whole : take a out ++ (ys ++ drop (length out - a) (drop a out)) ≡ take (length line) out ++ ys = rw (none, append-nil, take_capped out (length line) a e) in
    record { answer = rw lent at μ.answer; output = whole ∙ rw lent at (ap (λ y. take (length line) out ++ y) μ.output) }

-- ---- the call

-- the shebang line, as the code takes it from the source
module _ (source : List ℕ) {n : ℕ} (e : n ≡ length (shebang source)) (some : n ≡ 0 → ⊥) where
  from_source : take (n - 1) source ++ line_feed ≡ shebang source
  from_source =
      split (is_shebang (first_line [] source))
      (λ t. let q : n - 1 ≡ length (first_line [] source) = let w = rw (t, length-append) at e in omega arith in rw (q, t, line_first_lem source))
      (λ t. absurd (some (rw t at e)))

  length_from_source : length (take (n - 1) source) + 1 ≡ n
  length_from_source = sym (length-append (take (n - 1) source) line_feed) ∙ ap length from_source ∙ sym e

  pub within_source : n - 1 ≤ length source
  within_source = let t = length-take (n - 1) source in let l = length_from_source in omega arith

module _ (source rows text out : List ℕ) {n a : ℕ} (e : n ≡ length (shebang source)) (f : a ≡ min n (length out)) {r : Report} {ys : List ℕ}
    (μ : Meets (default_layout rows text (take (length out - a) (drop a out))) r ys) where
  abbrev after : List ℕ
  after = take a out ++ (ys ++ drop (length out - a) (drop a out))

  begins : Meets (begun (shebang source) rows text out) r after
  begins = lent_begun (shebang source) rows text out (rw e at f) μ

  pub without_line : n ≡ 0 → Meets (layout_source source rows text out) r after
  unfolding layout_source
  without_line z = begun-nothing (shebang source) rows text out begins (sym e ∙ z)

  module _ (some : n ≡ 0 → ⊥) where
    pub rows_refused : before_walk r ≡ true → Meets (layout_source source rows text out) r after
    unfolding layout_source
    rows_refused t = begun-refused (shebang source) rows text out begins (omega arith) t

    pub text-fits : r.refusal ≡ 0 → r.first ≤ length after - (length (take (n - 1) source) + 1)
    text-fits z = rw (length_from_source source e some, e) (begun-fits (shebang source) rows text out begins z)

    pub with_line_lem : {r' : Report} {m : List ℕ} → before_walk r ≡ false
        → Meets (with_line (take (n - 1) source ++ line_feed) (record { report = r; out = drop (length (take (n - 1) source) + 1) after }) after) r' m → Meets (layout_source source rows text out) r' m
    unfolding layout_source
    with_line_lem t κ = begun-put (shebang source) rows text out begins (omega arith) t (rw (from_source source e some, length_from_source source e some, e) at κ)
