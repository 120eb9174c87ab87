-- A sheet's line from an index on, a byte at a time. Assumes nothing.
use mathlib.Core.Bool.{cond}
use mathlib.Core.List.{List, [], ◌∷◌}
use mathlib.Core.Path.{◌≡◌, refl, ap, ◌∙◌}
use Prim.Native.Nat.{ℕ, ◌+◌, ◌≤◌, ◌<◌}
use native.Mathlib.Numerals.{add-one}
use lib.Dec.{eqb}
use lib.ListN.{length, get_or, drop, drop_of_length-le}
use lib.Seq.{drop-cons}
use borrow.Author.Tests.{ne_eqb}
use Rattle.shared.specs.Bytes.{byte, line_feed}
use Rattle.shared.specs.Lines.{first_line}
use Rattle.shared.proofs.Lines.{line_cons}
use Rattle.shared.proofs.Logic.{split}
use Rattle.sheet.specs.Line.{put_before, lines}
use Rattle.sheet.specs.Steps.{after_line, line_at, after_at}

pub no_line : first_line line_feed [] ≡ []
unfolding first_line
no_line = refl

-- the lines of a sheet that has a byte
lines-first : (b : ℕ) (t : List ℕ) → lines (b ∷ t) ≡ first_line line_feed (b ∷ t) ∷ lines (after_line (b ∷ t))
unfolding lines
lines-first b [] = rw (line_cons b [], no_line) (split (eqb b (byte "\n")) (λ e. rw e) (λ e. rw e))
lines-first b (c ∷ t) =
    rw (line_cons b (c ∷ t)) (split (eqb b (byte "\n")) (λ e. rw e) (λ e. rw e (ap (put_before b) (lines-first c t))))

module _ (sheet : List ℕ) (i : ℕ) where
  pub line_none : length sheet ≤ i → line_at sheet i ≡ []
  line_none h = rw (drop_of_length-le sheet h) no_line

  module _ (h : i < length sheet) where
    pub here : drop i sheet ≡ get_or sheet i 0 ∷ drop (i + 1) sheet
    here = rw (add-one i) (drop-cons sheet i 0 h)

    pub lines_at : lines (drop i sheet) ≡ line_at sheet i ∷ lines (after_at sheet i)
    lines_at = rw here (lines-first (get_or sheet i 0) (drop (i + 1) sheet))

    pub line_here : line_at sheet i ≡ get_or sheet i 0 ∷ cond (eqb (get_or sheet i 0) (byte "\n")) [] (line_at sheet (i + 1))
    line_here = ap (first_line line_feed) here ∙ line_cons (get_or sheet i 0) (drop (i + 1) sheet)

    pub line_more : (get_or sheet i 0 ≡ 10 → ⊥) → line_at sheet i ≡ get_or sheet i 0 ∷ line_at sheet (i + 1)
    line_more n = line_here ∙ rw (ne_eqb (get_or sheet i 0) 10 n)

    pub rest_more : (get_or sheet i 0 ≡ 10 → ⊥) → after_at sheet i ≡ after_at sheet (i + 1)
    rest_more n = rw (here, ne_eqb (get_or sheet i 0) 10 n)

    pub rest_feed : get_or sheet i 0 ≡ 10 → after_at sheet i ≡ drop (i + 1) sheet
    rest_feed e = rw (here, e)
