-- A token's row where there is no trivia, and the token's turn of the definition's loop. Assumes nothing.
use mathlib.Core.Bool.{true}
use mathlib.Core.List.{List, [], ◌∷◌}
use mathlib.Core.Option.{none}
use mathlib.Core.Path.{◌≡◌, refl, ap, ◌∙◌}
use Prim.Native.Nat.{ℕ, ◌+◌, ◌≤◌}
use borrow.Author.Tests.{eqb-true, le-ltb}
use lib.Dec.{eqb}
use lib.ListN.{length, drop}
use Rattle.shared.proofs.Logic.{and_left, and_right}
use Rattle.rows.specs.Kinds.{TokenRow}
use Rattle.rows.specs.Row.{Row, row_at, rows_of}
use Rattle.rows.specs.Options.{Options}
use Rattle.rows.specs.Token.{Token, bytes_of, trailing_of, tokens_from, tokens_of}
use Rattle.rows.proofs.RowList.{part_cons}
use Rattle.definition.specs.Act.{State, run}
use Rattle.definition.specs.PushToken.{turn}
use Rattle.definition.specs.Layout.{finished, checked, lay_from}
use Rattle.formatter.specs.Token.{bare_token}
use Rattle.formatter.specs.Format.{only_tokens}

-- The definition's token of a row without trivia.
abbrev pub row_token : List ℕ → Row → Token
row_token text r = bare_token r.kind (bytes_of text r)

no_trail : (text : List ℕ) (rs : List Row) → only_tokens rs ≡ true → trailing_of text rs ≡ []
unfolding trailing_of only_tokens
no_trail text [] e = refl
no_trail text (r ∷ rs) e = let w : r.what ≡ TokenRow = eqb-true r.what TokenRow (and_left _ (only_tokens rs) e) in rw w

row_token_lem : (text : List ℕ) (r : Row) (rs : List Row) → only_tokens (r ∷ rs) ≡ true → tokens_from text [] (r ∷ rs) ≡ row_token text r ∷ tokens_from text [] rs
unfolding tokens_from only_tokens
row_token_lem text r rs e =
    let w : r.what ≡ TokenRow = eqb-true r.what TokenRow (and_left _ (only_tokens rs) e) in
    let n : trailing_of text rs ≡ [] = no_trail text rs (and_right (eqb r.what TokenRow) (only_tokens rs) e) in
    rw (w, n)

goes_on : (size i : ℕ) (s : State) → length s.out ≤ size → s.formatter.too_deep ≡ none → checked size i s ≡ finished s
goes_on size i s h e = rw (le-ltb size (length s.out) h, e)

-- One turn of the definition's loop.
pub lay-more :
    (o : Options) (size : ℕ) (s : State) (i : ℕ) (t : Token) (ts : List Token)
    → lay_from o size (finished s) i (t ∷ ts) ≡ lay_from o size (checked size i (run (turn o i t ts) s)) (i + 1) ts
unfolding lay_from
lay-more o size s i t ts = refl

-- The definition's loop goes on by what the first token's turn does, if that fits.
pub lay-first :
    (o : Options) (size i : ℕ) (s : State) {s' : State} {t : Token} {all ts : List Token} → all ≡ t ∷ ts → run (turn o i t ts) s ≡ s'
    → length s'.out ≤ size → s'.formatter.too_deep ≡ none
    → lay_from o size (finished s) i all ≡ lay_from o size (finished s') (i + 1) ts
lay-first o size i s {s'} {t} {ts = ts} a e f d =
    ap (λ x. lay_from o size (finished s) i x) a
    ∙ lay-more o size s i t ts
    ∙ ap (λ x. lay_from o size (checked size i x) (i + 1) ts) e
    ∙ ap (λ x. lay_from o size x (i + 1) ts) (goes_on size i s' f d)

module _ (rows : List ℕ) (at : ℕ) (only : only_tokens (rows_of (drop at rows)) ≡ true) (h : at + 16 ≤ length rows) where
  pub only_after : only_tokens (rows_of (drop (at + 16) rows)) ≡ true
  unfolding only_tokens
  only_after = and_right (eqb (row_at rows at).what TokenRow) (only_tokens (rows_of (drop (at + 16) rows))) (rw (part_cons rows at h) at only)

  module _ (text : List ℕ) where
    abbrev pub token_here : Token
    token_here = row_token text (row_at rows at)

    abbrev pub tokens_after : List Token
    tokens_after = tokens_of (drop (at + 16) rows) text

    token_here_lem : tokens_of (drop at rows) text ≡ token_here ∷ tokens_after
    unfolding tokens_of
    token_here_lem = rw (part_cons rows at h) (row_token_lem text (row_at rows at) (rows_of (drop (at + 16) rows)) (rw (part_cons rows at h) at only))

    -- The definition's loop goes on after it.
    pub lay-turn :
        (o : Options) (size i : ℕ) (s : State) {s' : State} → run (turn o i token_here tokens_after) s ≡ s' → length s'.out ≤ size
        → s'.formatter.too_deep ≡ none
        → lay_from o size (finished s) i (tokens_of (drop at rows) text) ≡ lay_from o size (finished s') (i + 1) tokens_after
    lay-turn o size i s e f d = lay-first o size i s token_here_lem e f d
