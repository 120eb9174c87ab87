-- Demand 3, both halves, over every layout call. Assumes nothing.
use Rattle.std.proofs.Common.{◌≡◌, ℕ, Bool, true, false, List, length, drop, refl, arith, take_at}
use borrow.Author.Tests.{eqb-false}
use Rattle.shared.specs.Report.{Report, accepted, bit}
use Rattle.shared.proofs.Logic.{split}
use Rattle.rows.specs.Options.{Options, options_of}
use Rattle.rows.specs.Answer.{check_report}
use Rattle.rows.specs.Token.{Token, tokens_of}
use Rattle.pieces.specs.Commas.{struck}
use Rattle.pieces.proofs.Whole.{Left}
use Rattle.pieces.proofs.Written.{Written, written-answer, written-pieces, written_same}
use Rattle.definition.specs.Plain.{plain}
use Rattle.definition.specs.Layout.{Ended, finished, stopped, lay, Layout, laid_out, after_checks, layout}
use Rattle.definition.specs.Demand3.{lexemes_of, lexemes, commas_of, IsPlain, text_of, FirstHalf, SecondHalf}
use Rattle.definition.proofs.Walk.{lay_holds}

-- the text of a layout holds the lexemes xs with the answer's commas
record Shows (l : Layout) (xs : List (List ℕ)) : Type 0 where
  left : Left
  written : Written (text_of l) left xs (commas_of l)

one : (b : Bool) → bit b ≡ 1 → b ≡ true
one true e = refl
one false e = absurd (omega arith)

laid_shows : (o : Options) (ts : List Token) (size : ℕ) (out : List ℕ) (e : Ended) → lay o size ts ≡ e → IsPlain (laid_out e (plain ts) out) → Shows (laid_out e (plain ts) out) (lexemes_of ts)
laid_shows o ts size out (finished s) q p =
    let h = lay_holds o size ts s (one (plain ts) p.1) q in
    record { left = h.left; written = rw (take_at s.out (drop (length s.out) out) (length s.out) refl) h.written }
laid_shows o ts size out (stopped n i) q p = absurd (omega (arith, p.1))

-- a refusal bears no mark
checks_show : (r : Report) (out : List ℕ) (l : Layout) (xs : List (List ℕ)) → (IsPlain l → Shows l xs) → IsPlain (after_checks r out l) → Shows (after_checks r out l) xs
checks_show r out l xs f p =
    split (accepted r) (λ e. rw e (f (rw e at p))) (λ e. let q = rw e at p in absurd (eqb-false r.refusal 0 e q.0))

module _ (style indent signature list : ℕ) (rows text out : List ℕ) where
  layout_shows : IsPlain (layout style indent signature list rows text out) → Shows (layout style indent signature list rows text out) (lexemes rows text)
  unfolding layout
  layout_shows =
      checks_show (check_report style indent signature list rows (length text)) out _ (lexemes rows text)
      (laid_shows (options_of style indent signature list) (tokens_of rows text) (length out) out _ refl)

pub first_half : FirstHalf
first_half style indent signature list rows text out space p small room =
    let σ = layout_shows style indent signature list rows text out p in
    record { answer = written-answer σ.written space room small; pieces = written-pieces σ.written space room small }

same_text : {l l' : Layout} {xs ys : List (List ℕ)} → Shows l xs → Shows l' ys → text_of l ≡ text_of l' → struck xs ≡ struck ys
same_text {l} {l'} {xs} {ys} σ τ e =
    let w : Written (text_of l) τ.left ys (commas_of l') = rw e τ.written in
    written_same σ.written w

pub second_half : SecondHalf
second_half style indent signature list rows text out style' indent' signature' list' rows' text' out' p p' e =
    same_text (layout_shows style indent signature list rows text out p) (layout_shows style' indent' signature' list' rows' text' out' p') e
