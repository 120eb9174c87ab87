-- A token's rows in the lent slice: what the walk knows where a token's rows begin. Assumes nothing.
use mathlib.Core.Bool.{Bool, true, false}
use mathlib.Core.List.{List, [], ◌∷◌}
use mathlib.Core.Path.{◌≡◌, refl, sym, ap, subst, ◌∙◌}
use Prim.Native.Nat.{ℕ, zero, suc, ◌+◌, ◌-◌, ◌*◌, ◌/◌, ◌≤◌, ◌<◌}
use native.Mathlib.Omega.{arith}
use lib.Dec.{eqb}
use lib.ListN.{length, get_or, take, drop, length-drop}
use lib.Seq.{drop-drop}
use Rattle.rows.specs.Kinds.{Leading, TokenRow, Trailing, Other}
use Rattle.rows.specs.Row.{Row, row_at, first_rows, rows_of}
use Rattle.rows.specs.Bounds.{Inside, InBounds}
use Rattle.rows.specs.Checks.{at_start}
use Rattle.rows.specs.Token.{Token, bytes_of, tokens_of}
use Rattle.rows.proofs.RowList.{rows_cons, part_cons, rows_drop, rows_length, row_drop, row-index}
use Rattle.rows.proofs.Sound.{in_bounds, known_kinds}
use Rattle.formatter.specs.declared.Ends.{Ends}
use Rattle.formatter.specs.declared.TokenAt.{TokenAt}
use Rattle.formatter.specs.Token.{Ahead, InRows, StandsFor}
use Rattle.formatter.specs.Trivia.{WholeRows, trivia_in}
use Rattle.formatter.specs.Format.{CheckedFrom, TokenBoundary, Ending, NextToken, TokenRows, CheckedRows, next_row, only_tokens, own_row, run_rows}
use Rattle.formatter.proofs.Runs.{only_none, checked-after, trailing-run, tokens_after_lem, run_ends, run-most, no_trail, TokenFirst, token_first}

-- ---- rows by number

first-take : (n : ℕ) (b : List ℕ) → n ≤ length b / 16 → first_rows n b ≡ take n (rows_of b)
unfolding first_rows
first-take zero b h = refl
first-take (suc n) b h =
    let z = length-drop 16 b in
    rw (rows_cons b (omega arith)) (ap (λ rs. row_at b 0 ∷ rs) (first-take n (drop 16 b) (omega arith)))

bounds-take : (text : List ℕ) (n : ℕ) (rs : List Row) → InBounds text rs → InBounds text (take n rs)
unfolding InBounds
bounds-take text zero rs β = tt
bounds-take text (suc n) [] β = tt
bounds-take text (suc n) (r ∷ rs) β = (β.0, bounds-take text n rs β.1)

bounds-get : (text : List ℕ) (n : ℕ) (d : Row) (rs : List Row) → n < length rs → InBounds text rs → Inside text (get_or rs n d)
unfolding InBounds
bounds-get text n d [] h β = absurd (omega arith)
bounds-get text zero d (r ∷ rs) h β = β.0
bounds-get text (suc n) d (r ∷ rs) h β = bounds-get text n d rs (omega arith) β.1

module _ (rows : List ℕ) (at : ℕ) where
  part_drop : (k : ℕ) → rows_of (drop (at + 16 * k) rows) ≡ drop k (rows_of (drop at rows))
  part_drop k = ap rows_of (sym (drop-drop (16 * k) at rows)) ∙ rows_drop k (drop at rows)

  part_length : length (rows_of (drop at rows)) ≡ (length rows - at) / 16
  part_length = rows_length (drop at rows) ∙ ap (λ n. n / 16) (length-drop at rows)

  part_row : (k : ℕ) (d : Row) → k < length (rows_of (drop at rows)) → get_or (rows_of (drop at rows)) k d ≡ row_at rows (at + 16 * k)
  part_row k d h = row-index (drop at rows) k d (let l = part_length in let z = length-drop at rows in omega arith) ∙ row_drop at rows (16 * k)

-- ---- where a token's rows begin

pub head_first : {rows text : List ℕ} → CheckedRows rows text → TokenBoundary rows text 0
head_first {rows} {text} ω =
    record {
      within = omega arith;
      whole = refl;
      checked = record { before = at_start; number = 0; good = ω.good };
      bare = no_trail (length text) 0 at_start (rows_of rows) refl ω.good;
    }

pub bare-run : (rows : List ℕ) (at what : ℕ) → eqb TokenRow what ≡ false → at ≡ 16 * (at / 16) → only_tokens (rows_of rows) ≡ true → run_rows what (rows_of (drop at rows)) ≡ 0
bare-run rows at what n w e =
    subst (λ k. run_rows what (rows_of (drop k rows)) ≡ 0) (sym w) (rw (rows_drop (at / 16) rows) (only_none what n (at / 16) (rows_of rows) e))

-- The definition's token there, and those after it.
abbrev pub token_here : List ℕ → List ℕ → ℕ → Token
token_here rows text at =
    record {
      kind = (row_at rows (own_row rows at)).kind;
      lexeme = bytes_of text (row_at rows (own_row rows at));
      leading = trivia_in rows text at (own_row rows at);
      trailing = trivia_in rows text (own_row rows at + 16) (next_row rows (own_row rows at));
    }

abbrev pub tokens_next : List ℕ → List ℕ → ℕ → List Token
tokens_next rows text at = tokens_of (drop (own_row rows at + 16) rows) text

module _ {rows text : List ℕ} {at : ℕ} (ω : CheckedRows rows text) (η : TokenBoundary rows text at) (h : at < length rows) where
  abbrev nothing : Row
  nothing = row_at [] 0

  abbrev n : ℕ
  n = run_rows Leading (rows_of (drop at rows))

  bounds : InBounds text (rows_of (drop at rows))
  bounds = in_bounds text η.checked.before η.checked.number (rows_of (drop at rows)) η.checked.good

  sixteen : at + 16 ≤ length rows
  sixteen = let a = η.whole in let b = ω.whole in omega arith

  first : TokenFirst text [] nothing (rows_of (drop at rows))
  first =
      let e = part_cons rows at sixteen in
      rw e (token_first (length text) text nothing [] η.checked.before η.checked.number (row_at rows at) (rows_of (drop (at + 16) rows)) (rw e at η.checked.good) (rw e at η.bare))

  pub row_inside : own_row rows at + 16 ≤ length rows
  row_inside = let s = first.short in let l = part_length rows at in omega arith

  row_here : get_or (rows_of (drop at rows)) n nothing ≡ row_at rows (own_row rows at)
  row_here = part_row rows at n nothing first.short

  rows_after : drop (suc n) (rows_of (drop at rows)) ≡ rows_of (drop (own_row rows at + 16) rows)
  rows_after = let m : at + 16 * suc n ≡ own_row rows at + 16 = omega arith in sym (part_drop rows at (suc n)) ∙ ap (λ k. rows_of (drop k rows)) m

  leads_are : first_rows n (drop at rows) ≡ take n (rows_of (drop at rows))
  leads_are = first-take n (drop at rows) (let s = first.short in let l = part_length rows at in let z = length-drop at rows in omega arith)

  abbrev m : ℕ
  m = run_rows Trailing (rows_of (drop (own_row rows at + 16) rows))

  m_most : m ≤ (length rows - (own_row rows at + 16)) / 16
  m_most = let l = part_length rows (own_row rows at + 16) in let s = run-most Trailing (rows_of (drop (own_row rows at + 16) rows)) in omega arith

  trails_are : first_rows m (drop (own_row rows at + 16) rows) ≡ take m (rows_of (drop (own_row rows at + 16) rows))
  trails_are = first-take m (drop (own_row rows at + 16) rows) (let s = m_most in let z = length-drop (own_row rows at + 16) rows in omega arith)

  lead-count : (own_row rows at - at) / 16 ≡ n
  lead-count = omega arith

  trail_count : (next_row rows (own_row rows at) - (own_row rows at + 16)) / 16 ≡ m
  trail_count = omega arith

  pub tokens_here : tokens_of (drop at rows) text ≡ token_here rows text at ∷ tokens_next rows text at
  unfolding tokens_of
  tokens_here = first.tokens ∙ rw (row_here, rows_after, ← leads_are, trailing-run, ← trails_are, lead-count, trail_count)

  pub next-within : next_row rows (own_row rows at) ≤ length rows
  next-within = let s = m_most in let r = row_inside in omega arith

  behind : CheckedFrom (length text) (rows_of (drop (own_row rows at + 16) rows))
  behind = rw (← rows_after) (checked-after (length text) η.checked.before η.checked.number (rows_of (drop at rows)) η.checked.good (suc n) (let s = first.short in omega arith))

  rows_next : drop m (rows_of (drop (own_row rows at + 16) rows)) ≡ rows_of (drop (next_row rows (own_row rows at)) rows)
  rows_next = sym (part_drop rows (own_row rows at + 16) m)

  pub head-next : TokenBoundary rows text (next_row rows (own_row rows at))
  head-next =
      record {
        within = next-within;
        whole = let a = η.whole in omega arith;
        checked = rw (← rows_next) (checked-after (length text) behind.before behind.number (rows_of (drop (own_row rows at + 16) rows)) behind.good m (run-most Trailing (rows_of (drop (own_row rows at + 16) rows))));
        bare = rw (← rows_next) (run_ends Trailing (rows_of (drop (own_row rows at + 16) rows)));
      }

  pub tokens_next_lem : tokens_of (drop (next_row rows (own_row rows at)) rows) text ≡ tokens_next rows text at
  unfolding tokens_of
  tokens_next_lem = rw (← rows_next) (sym (tokens_after_lem text (rows_of (drop (own_row rows at + 16) rows))))

  -- What is known at each whole row is known here.
  known : (P : ℕ → Type 0) → ((j : ℕ) → P (16 * j)) → P at
  known P all = subst P (sym η.whole) (all (at / 16))

  pub next_token : {bare : Bool} → (bare ≡ true → only_tokens (rows_of rows) ≡ true) → NextToken rows at bare
  next_token o =
      record {
        inside = row_inside;
        leads = λ b. bare-run rows at Leading refl η.whole (o b);
        trails = λ b. bare-run rows (at + 16) Trailing refl (let w = η.whole in omega arith) (o b);
      }

  -- The token's own row has a known kind, and lies in the text.

  pub kind_here : (row_at rows (own_row rows at)).kind ≤ Other
  kind_here = rw row_here at (known_kinds (length text) η.checked.before η.checked.number (rows_of (drop at rows)) η.checked.good n nothing first.short first.what)

  pub row_in : Inside text (row_at rows (own_row rows at))
  row_in = rw row_here at (bounds-get text n nothing (rows_of (drop at rows)) first.short bounds)

  -- ---- what the code's token stands for

  module _ {i : ℕ} {token : TokenAt} (τ : TokenRows rows at i token) where
    pub stands : StandsFor token rows text (token_here rows text at) (tokens_next rows text at)
    stands =
        record {
          kind = sym (rw τ.own at τ.kind);
          lexeme = rw τ.own;
          ahead = rw τ.lead tokens_here;
          after = rw τ.own;
          bounds = rw τ.lead bounds;
        }

    pub leading_is : (token_here rows text at).leading ≡ trivia_in rows text token.lead token.own
    leading_is = rw (τ.lead, τ.own)

    pub trailing_is : (token_here rows text at).trailing ≡ trivia_in rows text (token.own + 16) token.next
    trailing_is = rw (τ.next, τ.own)

    pub in_rows : i < 4294967295 → InRows token rows text
    in_rows few =
        let r = row_inside in
        let x = next-within in
        record {
          lead = rw (τ.lead, τ.own) (omega arith);
          own = rw (τ.next, τ.own) (omega arith);
          next = rw (τ.next, τ.own) x;
          inside = rw τ.own row_in;
          kind = rw (τ.kind, τ.own) kind_here;
          index = rw τ.index few;
        }

    pub ahead : {ends : Ends} → Ending rows ends → Ahead ends token.lead rows
    ahead {ends} ε = rw τ.lead (known (λ k. Ahead ends k rows) ε.ahead)

    pub leads : WholeRows rows text token.lead token.own
    leads =
        let r = row_inside in
        let a = lead-count in
        rw (τ.lead, τ.own)
        (record { ordered = omega arith; within = omega arith; whole = rw a (omega arith); bounds = rw (a, leads_are) (bounds-take text n (rows_of (drop at rows)) bounds) })

    pub trails : WholeRows rows text (token.own + 16) token.next
    trails =
        let x = next-within in
        let b = trail_count in
        rw (τ.next, τ.own)
        (record { ordered = omega arith; within = x; whole = rw b refl; bounds = rw (b, trails_are) (bounds-take text m (rows_of (drop (own_row rows at + 16) rows)) (in_bounds text behind.before behind.number (rows_of (drop (own_row rows at + 16) rows)) behind.good)) })
