-- What a lookahead on a part of the rows says of the token and of those after it. Assumes nothing.
use mathlib.Core.Bool.{Bool}
use mathlib.Core.List.{List, ◌∷◌}
use mathlib.Core.Path.{◌≡◌, ap, ◌∙◌}
use Prim.Native.Nat.{ℕ, ◌+◌, ◌-◌}
use native.Mathlib.Omega.{arith}
use lib.ListN.{length, take, drop, length-drop}
use lib.Seq.{take_all}
use Rattle.rows.specs.Row.{rows_of}
use Rattle.rows.specs.Token.{Token, tokens_of}
use Rattle.rows.specs.Bounds.{InBounds}
use Rattle.formatter.specs.declared.TokenAt.{TokenAt}
use Rattle.formatter.specs.Token.{StandsFor}

-- A part that goes to the end of the rows.
pub part_is : (n : ℕ) (rows : List ℕ) → take (length rows - n) (drop n rows) ≡ drop n rows
part_is n rows = take_all (length rows - n) (drop n rows) (omega (arith, length-drop n rows))

module _ {token : TokenAt} {rows text : List ℕ} {t : Token} {ts : List Token} (σ : StandsFor token rows text t ts) where
  -- A lookahead on the part from the token's first row says it of the token and those after it.
  pub looked : (f : List Token → Bool) {part : List ℕ} {r : Bool} → part ≡ drop token.lead rows → (InBounds text (rows_of part) → r ≡ f (tokens_of part text)) → r ≡ f (t ∷ ts)
  looked f e k = k (rw e σ.bounds) ∙ ap (λ l. f (tokens_of l text)) e ∙ ap f σ.ahead

  -- A lookahead on the part after the token's own row says it of those after it.
  pub looked_after : (f : List Token → Bool) {part : List ℕ} {r : Bool} → part ≡ drop (token.own + 16) rows → r ≡ f (tokens_of part text) → r ≡ f ts
  looked_after f e k = k ∙ ap (λ l. f (tokens_of l text)) e ∙ ap f σ.after
