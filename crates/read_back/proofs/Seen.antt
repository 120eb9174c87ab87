-- What a caller sees is the layout, and what it reads back. Assumes nothing.
use mathlib.Core.Bool.{false}
use mathlib.Core.List.{List}
use mathlib.Core.Path.{◌≡◌, refl, sym, ap, subst, ◌∙◌}
use Prim.Native.Nat.{ℕ, ◌≤◌}
use lib.ListN.{length}
use Rattle.shared.specs.Report.{Report, accepted}
use Rattle.pieces.specs.Answer.{read_answer, read_slots}
use Rattle.definition.specs.Layout.{Layout, layout}
use Rattle.definition.specs.Demand3.{lexemes, text_of, ReadsBack, FirstHalfOf}
use Rattle.definition.proofs.Laid.{layout-fits}
use Rattle.definition.proofs.Demand3.{first_half}
use Rattle.std.specs.Prelude.{Result, Ok, Err}
use Rattle.format_tokens.specs.declared.Text.{Text}
use Rattle.format_tokens.specs.declared.error.LayoutError.{LayoutError}
use Rattle.format_tokens.specs.declared.error.LayoutError.TheVariants.{BadOption, RaggedRows, BadRow, Deep, Full}
use Rattle.format_tokens.specs.Answer.{reported}
use Rattle.read_back.specs.ReadBack.{seen, read_back_answer, read_back_slots}
use Rattle.read_back.specs.Steps.{Fits}

-- ---- the layout's answer, as the code tells its cases apart

-- an error is a refusal
pub refused : (e : LayoutError) → accepted (reported (Err e)) ≡ false
refused (BadOption position) = refl
refused RaggedRows = refl
refused (BadRow row) = refl
refused (Deep index) = refl
refused (Full index) = refl

pub fits-text : {laid : Result Text LayoutError} {t : Text} (out : List ℕ) → laid ≡ Ok t → Fits (seen laid out) → t.length ≤ length out
fits-text out e φ = (rw e at φ) refl

-- ---- a layout's text read back

module _ (l : Layout) (e : l.report.refusal ≡ 0) where
  text-answer : (size : ℕ) → read_back_answer l size ≡ read_answer (text_of l) size
  text-answer size = rw e

  text_slots : (space : List ℕ) → read_back_slots l space ≡ read_slots (text_of l) space
  text_slots space = rw e

  came_back : {xs : List (List ℕ)} {read : Report} (space : List ℕ) {slots : List ℕ}
      → read ≡ read_back_answer l (length space) → slots ≡ read_back_slots l space
      → ReadsBack xs l (read_answer (text_of l) (length space)) (read_slots (text_of l) space) → ReadsBack xs l read slots
  came_back space a s β = record { answer = a ∙ text-answer (length space) ∙ β.answer; pieces = rw (s ∙ text_slots space) β.pieces }

-- ---- the call: its answer and its output are the layout's

module _ (style indent signature list : ℕ) (rows text out : List ℕ) (laid : Result Text LayoutError) {after : List ℕ}
    (e : reported laid ≡ (layout style indent signature list rows text out).report) (f : after ≡ (layout style indent signature list rows text out).out) where
  seen_is : seen laid after ≡ layout style indent signature list rows text out
  seen_is = rw (e, f)

  pub seen-fits : Fits (seen laid after)
  seen-fits = subst (λ l. Fits l) (sym seen_is) (layout-fits style indent signature list rows text out)

  module _ {read : Report} (space : List ℕ) {slots : List ℕ} (a : read ≡ read_back_answer (seen laid after) (length space)) (s : slots ≡ read_back_slots (seen laid after) space) where
    read_is : read ≡ read_back_answer (layout style indent signature list rows text out) (length space)
    read_is = a ∙ ap (λ l. read_back_answer l (length space)) seen_is

    slots_is : slots ≡ read_back_slots (layout style indent signature list rows text out) space
    slots_is = s ∙ ap (λ l. read_back_slots l space) seen_is

    pub returned : FirstHalfOf (lexemes rows text) (seen laid after) read space slots
    returned =
        subst (λ l. FirstHalfOf (lexemes rows text) l read space slots) (sym seen_is)
        (λ p small room. came_back _ p.0 space read_is slots_is (first_half style indent signature list rows text out space p small room))

pub ruleset laid_texts = (refused, fits-text)

pub ruleset seen_layout = (seen-fits)
