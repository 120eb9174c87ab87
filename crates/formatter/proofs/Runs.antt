-- The rows of one token: leading rows, its own row, trailing rows. Assumes nothing.
use mathlib.Core.Bool.{true, false}
use mathlib.Core.List.{List, [], ◌∷◌, ◌++◌, map, append-nil, append_assoc}
use mathlib.Core.Option.{none}
use mathlib.Core.Path.{◌≡◌, refl, ◌∙◌}
use Prim.Native.Nat.{ℕ, zero, suc, ◌+◌, ◌≤◌, ◌<◌}
use native.Mathlib.Omega.{arith}
use lib.Dec.{eqb}
use lib.ListN.{length, get_or, take, drop}
use borrow.Author.Tests.{eqb-true, eqb-false}
use Rattle.shared.proofs.Logic.{split, impossible, and_left, and_right}
use Rattle.rows.specs.Kinds.{Leading, TokenRow, Trailing}
use Rattle.rows.specs.Row.{Row}
use Rattle.rows.specs.Checks.{Before, after, may_trail, bad_from}
use Rattle.rows.specs.Token.{Trivia, trivia_of, trailing_of, token_of, tokens_from}
use Rattle.rows.proofs.Sound.{first_sound, rest-good}
use Rattle.formatter.specs.Format.{CheckedFrom, only_tokens, run_rows}

-- ---- after a token: trailing rows

module _ (text : List ℕ) where
  pub trailing-run : (rs : List Row) → trailing_of text rs ≡ map (trivia_of text) (take (run_rows Trailing rs) rs)
  unfolding trailing_of run_rows
  trailing-run [] = refl
  trailing-run (r ∷ rs) = split (eqb r.what Trailing) (λ e. rw (e, trailing-run rs)) (λ e. rw e)

  pub tokens_after_lem : (rs : List Row) → tokens_from text [] rs ≡ tokens_from text [] (drop (run_rows Trailing rs) rs)
  unfolding tokens_from run_rows
  tokens_after_lem [] = refl
  tokens_after_lem (r ∷ rs) =
      split (eqb r.what Trailing)
      (λ e. let w : r.what ≡ 2 = eqb-true r.what Trailing e in rw w (tokens_after_lem rs))
      (λ e. rw e)

pub run_ends : (what : ℕ) (rs : List Row) → run_rows what (drop (run_rows what rs) rs) ≡ 0
unfolding run_rows
run_ends what [] = refl
run_ends what (r ∷ rs) = split (eqb r.what what) (λ e. rw e (run_ends what rs)) (λ e. rw (e, e))

-- Where there is no trivia, no run of trivia rows starts anywhere.
pub only_none : (what : ℕ) → eqb TokenRow what ≡ false → (k : ℕ) (rs : List Row) → only_tokens rs ≡ true → run_rows what (drop k rs) ≡ 0
unfolding run_rows only_tokens
only_none what n zero [] e = refl
only_none what n zero (r ∷ rs) e =
    let w : r.what ≡ TokenRow = eqb-true r.what TokenRow (and_left _ (only_tokens rs) e) in
    rw (w, n)
only_none what n (suc k) [] e = refl
only_none what n (suc k) (r ∷ rs) e = only_none what n k rs (and_right (eqb r.what TokenRow) (only_tokens rs) e)

pub run-most : (what : ℕ) (rs : List Row) → run_rows what rs ≤ length rs
unfolding run_rows
run-most what [] = omega arith
run-most what (r ∷ rs) = split (eqb r.what what) (λ e. rw e (let h = run-most what rs in omega arith)) (λ e. rw e (omega arith))

pub checked-after : (size : ℕ) (before : Before) (i : ℕ) (rs : List Row) → bad_from size before i rs ≡ none → (n : ℕ) → n ≤ length rs → CheckedFrom size (drop n rs)
checked-after size before i rs e zero h = record { before = before; number = i; good = e }
checked-after size before i [] e (suc n) h = absurd (omega arith)
checked-after size before i (r ∷ rs) e (suc n) h = checked-after size (after r.what) (i + 1) rs (rest-good size before i r rs e) n (omega arith)

-- ---- before a token: leading rows

pub record TokenFirst (text : List ℕ) (lead : List Trivia) (d : Row) (rs : List Row) : Type 0 where
  pub short : run_rows Leading rs < length rs
  pub what : (get_or rs (run_rows Leading rs) d).what ≡ TokenRow
  pub tokens :
      tokens_from text lead rs
      ≡ token_of text (lead ++ map (trivia_of text) (take (run_rows Leading rs) rs)) (get_or rs (run_rows Leading rs) d) (drop (suc (run_rows Leading rs)) rs) ∷ tokens_from text [] (drop (suc (run_rows Leading rs)) rs)

-- Rows after none that may have trailing ones.
pub no_trail : (size i : ℕ) (before : Before) (rs : List Row) → may_trail before ≡ false → bad_from size before i rs ≡ none → run_rows Trailing rs ≡ 0
unfolding run_rows
no_trail size i before [] m e = refl
no_trail size i before (r ∷ rs) m e =
    split (eqb r.what Trailing)
    (λ t. impossible (rw (t, m) at (first_sound size before i r rs e).trails))
    (λ t. rw t)

orphaned : {C : Type 0} (size i : ℕ) → bad_from size (after Leading) (i + 1) [] ≡ none → C
unfolding bad_from
orphaned size i e = let y : ◌≡◌ {A = ℕ} 0 1 = cc in absurd (omega arith)

module _ (size : ℕ) (text : List ℕ) (d : Row) where
  token_here_lem : (lead : List Trivia) (before : Before) (i : ℕ) (r : Row) (rs : List Row)
      → bad_from size before i (r ∷ rs) ≡ none → run_rows Trailing (r ∷ rs) ≡ 0 → eqb r.what Leading ≡ false → TokenFirst text lead d (r ∷ rs)
  unfolding run_rows tokens_from
  token_here_lem lead before i r rs e z l =
      let most = (first_sound size before i r rs e).known_what in
      let t : eqb r.what Trailing ≡ false = split (eqb r.what Trailing) (λ t. let y : suc (run_rows Trailing rs) ≡ 0 = rw t at z in absurd (omega arith)) (λ t. t) in
      let w : r.what ≡ 1 = let a = eqb-false r.what 0 l in let b = eqb-false r.what 2 t in omega arith in
      record { short = rw l (omega arith); what = rw l w; tokens = rw (w, append-nil) }

  pub token_first : (lead : List Trivia) (before : Before) (i : ℕ) (r : Row) (rs : List Row)
      → bad_from size before i (r ∷ rs) ≡ none → run_rows Trailing (r ∷ rs) ≡ 0 → TokenFirst text lead d (r ∷ rs)
  unfolding run_rows tokens_from
  token_first lead before i r [] e z =
      split (eqb r.what Leading)
      (λ l. let w : r.what ≡ 0 = eqb-true r.what Leading l in orphaned size i (rw w at (rest-good size before i r [] e)))
      (λ l. token_here_lem lead before i r [] e z l)
  token_first lead before i r (q ∷ rs) e z =
      split (eqb r.what Leading)
      (λ l. let w : r.what ≡ 0 = eqb-true r.what Leading l in
      let g : bad_from size (after Leading) (i + 1) (q ∷ rs) ≡ none = rw w at (rest-good size before i r (q ∷ rs) e) in
      let rec = token_first (lead ++ (trivia_of text r ∷ [])) (after Leading) (i + 1) q rs g (no_trail size (i + 1) (after Leading) (q ∷ rs) refl g) in
      record {
        short = rw l (let h = rec.short in omega arith);
        what = rw l rec.what;
        tokens = rw w (rec.tokens ∙ rw (append_assoc lead (trivia_of text r ∷ [])));
      })
      (λ l. token_here_lem lead before i r (q ∷ rs) e z l)
