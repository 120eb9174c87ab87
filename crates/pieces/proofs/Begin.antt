-- What stands at an index, by the class of the byte there. Assumes nothing.
use mathlib.Core.List.{List}
use mathlib.Core.Path.{◌≡◌, refl, ◌∙◌}
use Prim.Native.Nat.{ℕ, ◌+◌, ◌≤◌, ◌<◌}
use lib.ListN.{length, get_or, drop}
use Rattle.pieces.specs.declared.bytes.Class.TheVariants.{Single, Quote, Unclassed}
use Rattle.std.specs.Prelude.{Option, None, Some, Result, Ok, Err}
use Rattle.pieces.specs.declared.Piece.{Piece}
use Rattle.pieces.specs.declared.Unreadable.{Unreadable}
use Rattle.pieces.specs.Class.{class}
use Rattle.pieces.specs.Reading.{Kind, closed, quoted, between, opens, begin, read_from}
use Rattle.pieces.specs.Next.{next}
use Rattle.pieces.specs.Sets.{run_length, is_gap}
use Rattle.pieces.specs.Ends.{EndsAt, QuoteEnds}
use Rattle.pieces.specs.Steps.{Begins}
use Rattle.pieces.proofs.Scan.{begins, at-end, ends_here, gaps_passed, run_stops, starts_nothing}

module _ (text : List ℕ) (i : ℕ) (β : Begins text i) where
  -- a run that goes on after the byte
  pub begin_run : {k : Kind} {e : ℕ} → begin (class (get_or text i 0)) (get_or text i 0) ≡ opens k → EndsAt text k (i + 1) e → Ok (Some (record { start = i; end = e })) ≡ next (read_from text i)
  begin_run b ε = rw (begins text i β.inside b, ε.reads i)

  pub begin_single : class (get_or text i 0) ≡ Single → Ok (Some (record { start = i; end = i + 1 })) ≡ next (read_from text i)
  begin_single e = begin_run (rw e) (ends_here text closed (i + 1) (λ s r. refl) refl)

  -- a quote that is closed, and one that never is
  pub begin_quote : (e : ℕ) → class (get_or text i 0) ≡ Quote → QuoteEnds text (get_or text i 0) (i + 1) (Some e) → Ok (Some (record { start = i; end = e })) ≡ next (read_from text i)
  begin_quote e c ε = begin_run (rw c) ε

  pub begin_open : class (get_or text i 0) ≡ Quote → QuoteEnds text (get_or text i 0) (i + 1) None → Err (record { index = i }) ≡ next (read_from text i)
  begin_open c ε = rw (begins text i β.inside {k = quoted (get_or text i 0)} (rw c), ε i)

  pub begin_none : class (get_or text i 0) ≡ Unclassed → Err (record { index = i }) ≡ next (read_from text i)
  begin_none e = rw (starts_nothing text i β.inside (rw e))

-- after the gaps, at j
module _ (text : List ℕ) (i : ℕ) {j : ℕ} (g : j ≡ i + run_length (λ b. is_gap (class b)) (drop i text)) where
  passes_gaps : read_from text i ≡ read_from text j
  passes_gaps = gaps_passed text i ∙ rw g

  pub begins_after : j < length text → Begins text j
  begins_after h = record { inside = h; solid = rw g (run_stops (λ b. is_gap (class b)) text i (rw (← g) h)) }

  pub next_after : {r : Result (Option Piece) Unreadable} → r ≡ next (read_from text j) → r ≡ next (read_from text i)
  next_after e = e ∙ rw passes_gaps

  pub next_end : length text ≤ j → Ok None ≡ next (read_from text i)
  next_end h = rw (passes_gaps, at-end text between j j h)

-- ---- what `next_piece` and `piece_at` go by

pub ruleset after_gaps = (begins_after, next_after, next_end)

pub ruleset by_class = (begin_run, begin_single, begin_quote, begin_open, begin_none)
