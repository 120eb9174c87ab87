-- A comment's marks, where its kind is known. Assumes nothing.
use mathlib.Core.Bool.{true, false}
use mathlib.Core.List.{List, [], ◌∷◌, ◌++◌, append-nil}
use mathlib.Core.Path.{◌≡◌, refl, sym, ◌∙◌}
use Prim.Native.Nat.{ℕ, ◌<◌, min}
use native.Mathlib.Nat.{min-eq_left}
use native.Mathlib.Omega.{arith}
use lib.Dec.{eqb}
use denote.Enum.Bare.{sameb}
use Rattle.rows.specs.contracts.kind.Trivia.{the_type}
use Rattle.rows.specs.declared.kind.Trivia.{Trivia}
use Rattle.rows.specs.declared.kind.Trivia.TheVariants as trivia
use Rattle.rows.specs.KindNumber.{trivia_number}
use Rattle.rows.specs.Kinds.{BlockComment}
use Rattle.row_writers.specs.Comment.{comment_head, lead_tail, trail_head, trail_tail}

module _ (t : Trivia) (k : ℕ) (read : trivia_number t ≡ min k 3) (small : k < 3) where
  -- a row's kind of trivia is its number
  pub numbered : trivia_number t ≡ k
  numbered = read ∙ min-eq_left (omega arith)

  pub is_block : sameb the_type t trivia.BlockComment ≡ eqb k BlockComment
  is_block = same t ∙ rw numbered
    where
      same : (t : Trivia) → sameb the_type t trivia.BlockComment ≡ eqb (trivia_number t) BlockComment
      same trivia.LineComment = refl
      same trivia.DocComment = refl
      same trivia.BlockComment = refl
      same trivia.BlankLine = refl

module _ (k : ℕ) (h : eqb k BlockComment ≡ true) where
  pub lead_tail_block : 32 ∷ 42 ∷ 47 ∷ 10 ∷ [] ≡ lead_tail k
  lead_tail_block = rw h

  pub trail_head_block : comment_head k ≡ trail_head k
  trail_head_block = rw h

  pub trail_tail_block : 42 ∷ 47 ∷ [] ≡ trail_tail k
  trail_tail_block = rw h

module _ (k : ℕ) (h : eqb k BlockComment ≡ false) where
  pub lead_tail_line : 10 ∷ [] ≡ lead_tail k
  lead_tail_line = rw h

  pub trail_head_line : comment_head k ++ (32 ∷ []) ≡ trail_head k
  trail_head_line = rw h

  pub trail_tail_line : (xs : List ℕ) → xs ≡ xs ++ trail_tail k
  trail_tail_line xs = rw h (sym (append-nil xs))
