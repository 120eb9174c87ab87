-- Demand 3, both halves, over every call of the shebang wrapper. Assumes nothing.
use mathlib.Core.List.{List, [], ◌∷◌}
use mathlib.Core.Path.{◌≡◌, refl, sym, subst, subst₂}
use Prim.Native.Nat.{ℕ}
use native.Mathlib.Omega.{arith}
use lib.Dec.{ltb}
use lib.ListN.{length}
use borrow.Author.Tests.{eqb-false}
use Rattle.shared.specs.Report.{accepted}
use Rattle.shared.proofs.Logic.{split}
use Rattle.pieces.specs.Answer.{read_answer, read_slots}
use Rattle.rows.specs.Options.{default_style, default_indent_width, default_width}
use Rattle.definition.specs.Layout.{Layout, layout}
use Rattle.definition.specs.Demand3.{lexemes, IsPlain, text_of, FirstHalfOf, SecondHalfOf}
use Rattle.definition.proofs.Demand3.{first_half, second_half}
use Rattle.format_source.specs.Source.{shebang, before_walk, with_line, after_line, default_layout, layout_source}
use Rattle.format_source.specs.Demand3.{FirstHalfSource, SecondHalfSource, SecondHalfBeside}
use Rattle.format_source.proofs.AfterLine.{of_checks}

-- a layout after a line bears no plain mark
with_line_marked : (line : List ℕ) (l : Layout) (out : List ℕ) → IsPlain (with_line line l out) → ⊥
with_line_marked line l out p =
    split (ltb (length out) (length line)) (λ e. let q = rw e at p in omega (arith, q.0))
    (λ e.
    split (accepted l.report) (λ f. let q = rw (e, f) at p in omega (arith, q.1))
    (λ f. let q = rw (e, f) at p in eqb-false l.report.refusal 0 f q.0))

no_line : (line : List ℕ) (l : Layout) (out : List ℕ) → IsPlain (after_line line l out) → line ≡ []
no_line [] l out p = refl
no_line (b ∷ bs) l out p =
    split (before_walk l.report) (λ e. let q = rw e at p in let w = of_checks l.report e in absurd (omega (arith, q.0)))
    (λ e. absurd (with_line_marked (b ∷ bs) l out (rw e at p)))

-- a wrapper's call that bears the mark is the layout call
pub plain_source : (source rows text out : List ℕ) → IsPlain (layout_source source rows text out) → layout_source source rows text out ≡ default_layout rows text out
unfolding layout_source
plain_source source rows text out p = let e : shebang source ≡ [] = no_line (shebang source) _ out p in rw e

pub first_half_source : FirstHalfSource
first_half_source source rows text out space p =
    subst (λ l. FirstHalfOf (lexemes rows text) l (read_answer (text_of l) (length space)) space (read_slots (text_of l) space)) (sym (plain_source source rows text out p))
    (first_half default_style default_indent_width default_width default_width rows text out space) p

pub second_half_source : SecondHalfSource
second_half_source source rows text out source' rows' text' out' p p' =
    subst₂ (λ l m. SecondHalfOf (lexemes rows text) l (lexemes rows' text') m) (sym (plain_source source rows text out p)) (sym (plain_source source' rows' text' out' p'))
    (second_half default_style default_indent_width default_width default_width rows text out default_style default_indent_width default_width default_width rows' text' out') p p'

pub second_half_beside : SecondHalfBeside
second_half_beside source rows text out style indent signature list rows' text' out' p =
    subst (λ l. SecondHalfOf (lexemes rows text) l (lexemes rows' text') (layout style indent signature list rows' text' out')) (sym (plain_source source rows text out p))
    (second_half default_style default_indent_width default_width default_width rows text out style indent signature list rows' text' out') p
