-- Commas directly before a `]` or `}` in a list of lexemes or pieces (specification, 'What the mark
-- promises'). Assumes nothing.
use Rattle.std.specs.Prelude.{Bool, false, cond, ◌||◌, ◌&&◌, List, [], ◌∷◌, ℕ, suc, T}
use Rattle.shared.specs.Bytes.{bytes, same_bytes}

-- The lexeme is a comma. The comma, `]` and `}` are known by their bytes.
abbrev pub comma : List ℕ → Bool
comma w = same_bytes w (bytes ",")

-- The lexeme is `]` or `}`.
abbrev pub closer : List ℕ → Bool
closer w = same_bytes w (bytes "]") || same_bytes w (bytes "}")

-- `Inserted xs ys n`: ys is xs with n commas inserted, at most one for each `]` or `}`, directly before it.
pub data Inserted : List (List ℕ) → List (List ℕ) → ℕ → Type 0 where
  none : Inserted [] [] 0
  same : {w : List ℕ} {xs ys : List (List ℕ)} {n : ℕ} → Inserted xs ys n → Inserted (w ∷ xs) (w ∷ ys) n
  more : {w : List ℕ} {xs ys : List (List ℕ)} {n : ℕ} → T (closer w) → Inserted xs ys n →
      Inserted (w ∷ xs) (bytes "," ∷ w ∷ ys) (suc n)

-- Only commas, or nothing, stand before a first `]` or `}`.
abbrev pub closes : List (List ℕ) → Bool
closes [] = false
closes (w ∷ ws) = cond (comma w) (closes ws) (closer w)

-- The list with each run of commas directly before a `]` or `}` struck out.
abbrev pub struck : List (List ℕ) → List (List ℕ)
struck [] = []
struck (w ∷ ws) = cond (comma w && closes ws) (struck ws) (w ∷ struck ws)
