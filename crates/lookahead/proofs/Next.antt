-- The first row that is a token's says which token comes next. Assumes nothing.
use mathlib.Core.Bool.{Bool, false, cond}
use mathlib.Core.List.{List, [], ◌∷◌, ◌++◌}
use mathlib.Core.Path.{◌≡◌, refl, sym, ap, ◌∙◌}
use Prim.Native.Nat.{ℕ}
use lib.Dec.{eqb}
use Rattle.std.specs.Prelude.{Option, None, Some, find}
use Rattle.shared.proofs.Logic.{split}
use Rattle.rows.specs.Kinds.{Leading, TokenRow, LeftParen}
use Rattle.rows.specs.Row.{Row, rows_of}
use Rattle.rows.specs.Token.{Trivia, trivia_of, tokens_from, tokens_of}
use Rattle.lookahead.specs.Measure.{next_is, row_sizes, opens_paren}

abbrev is_token : Row → Bool
is_token r = eqb r.what TokenRow

-- the kind of the row, if there is one, is k
abbrev pub has_kind : ℕ → Option Row → Bool
has_kind k None = false
has_kind k (Some r) = eqb r.kind k

next_found : (text : List ℕ) (k : ℕ) (l : List Trivia) (rs : List Row) → next_is k (tokens_from text l rs) ≡ has_kind k (find is_token rs)
unfolding tokens_from
next_found text k l [] = refl
next_found text k l (r ∷ rs) =
    split (eqb r.what TokenRow) (λ e. rw e) (λ e. rw e (next_found text k (cond (eqb r.what Leading) (l ++ (trivia_of text r ∷ [])) l) rs))

pub next_said : (rows text : List ℕ) (k : ℕ) {o : Option Row} → o ≡ find is_token (rows_of rows) → has_kind k o ≡ next_is k (tokens_of rows text)
unfolding tokens_of
next_said rows text k e = ap (has_kind k) e ∙ sym (next_found text k [] (rows_of rows))

opens_found : (rs : List Row) → opens_paren (row_sizes rs) ≡ has_kind LeftParen (find is_token rs)
unfolding row_sizes
opens_found [] = refl
opens_found (r ∷ rs) = split (eqb r.what TokenRow) (λ e. rw e) (λ e. rw e (opens_found rs))

pub opens_said : (rows : List ℕ) {o : Option Row} → o ≡ find is_token (rows_of rows) → opens_paren (row_sizes (rows_of rows)) ≡ has_kind LeftParen o
opens_said rows e = opens_found (rows_of rows) ∙ sym (ap (has_kind LeftParen) e)
