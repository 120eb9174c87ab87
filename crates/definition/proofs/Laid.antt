-- What every layout call keeps to: its output's length, a text that fits, and which refusals leave the output unchanged. Assumes nothing.
use Rattle.std.proofs.Common.{◌≡◌, ℕ, ◌+◌, ◌<◌, ◌≤◌, Bool, true, ◌||◌, eqb, ltb, leb, List, [], ◌∷◌, length, refl, arith, length-append, length-drop, ltb-false, eqb-true, le-leb, leb-true}
use lib.ListN.{length-replicate}
use borrow.Author.Tests.{eqb-false}
use Rattle.shared.specs.Report.{Report, accepted, deep, full}
use Rattle.shared.proofs.Logic.{split, or_cases}
use Rattle.rows.specs.Options.{Options, options_of}
use Rattle.rows.specs.Answer.{check_report}
use Rattle.rows.specs.Token.{Token, tokens_of}
use Rattle.definition.specs.Act.{State, run}
use Rattle.definition.specs.Emit.{is_some}
use Rattle.definition.specs.PushToken.{turn, begun}
use Rattle.definition.specs.Plain.{plain}
use Rattle.definition.specs.Layout.{Ended, finished, stopped, checked, and_then, lay_from, lay, Layout, laid_out, after_checks, layout}
use Rattle.definition.specs.Demand3.{length_of}

-- ---- the walk ends with a text that fits, or with refusal 4 or 5

abbrev pub sane : ℕ → Ended → Bool
sane size (finished s) = leb (length s.out) size
sane size (stopped n i) = eqb n deep || eqb n full

sane_then : (size : ℕ) (e : Ended) (f : State → Ended) → ((s : State) → sane size (f s) ≡ true) → sane size e ≡ true → sane size (and_then e f) ≡ true
sane_then size (finished s) f g h = g s
sane_then size (stopped n i) f g h = h

sane_checked : (size i : ℕ) (s : State) → sane size (checked size i s) ≡ true
sane_checked size i s =
    split (ltb size (length s.out))
    (λ e. rw e)
    (λ e. split (is_some s.formatter.too_deep) (λ d. rw (e, d)) (λ d. rw (e, d) (le-leb _ _ (ltb-false size _ e))))

sane_lay : (o : Options) (size : ℕ) (e : Ended) (i : ℕ) (ts : List Token) → sane size e ≡ true → sane size (lay_from o size e i ts) ≡ true
unfolding lay_from
sane_lay o size e i [] h = h
sane_lay o size e i (t ∷ ts) h =
    sane_lay o size (and_then e (λ s. checked size i (run (turn o i t ts) s))) (i + 1) ts
    (sane_then size e (λ s. checked size i (run (turn o i t ts) s)) (λ s. sane_checked size i (run (turn o i t ts) s)) h)

pub lay_sane : (o : Options) (size : ℕ) (ts : List Token) → sane size (lay o size ts) ≡ true
lay_sane o size ts = sane_lay o size (finished begun) 0 ts (le-leb 0 size (omega arith))

-- ---- the call

record Kept (l : Layout) (out : List ℕ) : Type 0 where
  size : length l.out ≡ length out
  fits : l.report.refusal ≡ 0 → length_of l ≤ length out
  unchanged : 0 < l.report.refusal → l.report.refusal < deep → l.out ≡ out

laid_kept : (e : Ended) (mark : Bool) (out : List ℕ) → sane (length out) e ≡ true → Kept (laid_out e mark out) out
laid_kept (finished s) mark out h =
    let w = leb-true (length s.out) (length out) h in
    record { size = simp (length-append, length-drop) (omega arith); fits = λ e. w; unchanged = λ a b. absurd (omega arith) }
laid_kept (stopped n i) mark out h =
    or_cases (eqb n deep) (eqb n full) h (λ e. let q = eqb-true n deep e in of_walk (omega arith)) (λ e. let q = eqb-true n full e in of_walk (omega arith))
  where
    of_walk : deep ≤ n → Kept (laid_out (stopped n i) mark out) out
    of_walk w = record { size = length-replicate (length out) 0; fits = λ e. absurd (omega arith); unchanged = λ a b. absurd (omega arith) }

checks_kept : (r : Report) (out : List ℕ) (l : Layout) → Kept l out → Kept (after_checks r out l) out
checks_kept r out l κ =
    split (accepted r)
    (λ e. rw e κ)
    (λ e. rw e (record { size = refl; fits = λ z. absurd (eqb-false r.refusal 0 e z); unchanged = λ a b. refl }))

module _ (style indent signature list : ℕ) (rows text out : List ℕ) where
  kept : Kept (layout style indent signature list rows text out) out
  unfolding layout
  kept =
      checks_kept (check_report style indent signature list rows (length text)) out _
      (laid_kept (lay (options_of style indent signature list) (length out) (tokens_of rows text)) (plain (tokens_of rows text)) out
      (lay_sane (options_of style indent signature list) (length out) (tokens_of rows text)))

  pub layout-size : length (layout style indent signature list rows text out).out ≡ length out
  layout-size = kept.size

  -- without a refusal, the text is no longer than the output
  pub layout-fits : (layout style indent signature list rows text out).report.refusal ≡ 0 → length_of (layout style indent signature list rows text out) ≤ length (layout style indent signature list rows text out).out
  layout-fits e = rw layout-size (kept.fits e)

  -- after refusals 1, 2 and 3 the output is unchanged
  pub layout_unchanged : 0 < (layout style indent signature list rows text out).report.refusal → (layout style indent signature list rows text out).report.refusal < deep → (layout style indent signature list rows text out).out ≡ out
  layout_unchanged a b = kept.unchanged a b
