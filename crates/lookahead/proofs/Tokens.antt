-- A comment ahead and a block of one line, over rows: they say the same as those over the tokens that the rows name. Assumes nothing.
use mathlib.Core.Bool.{Bool, true, false, cond, not, ◌&&◌, ◌||◌, or-false}
use mathlib.Core.List.{List, [], ◌∷◌, ◌++◌}
use mathlib.Core.Path.{◌≡◌, refl, ◌∙◌}
use Prim.Native.Nat.{ℕ, ◌+◌, ◌-◌}
use native.Mathlib.Omega.{arith}
use lib.Dec.{eqb, ltb}
use borrow.Author.Tests.{eqb-true, eqb-false, le-ltb}
use Rattle.shared.proofs.Logic.{split}
use Rattle.rows.specs.Kinds.{Leading, TokenRow, Trailing, LineComment, DocComment, BlockComment, BlankLine, Eof, Newline, LeftBrace, RightBrace}
use Rattle.rows.specs.Row.{Row}
use Rattle.rows.specs.Token.{Trivia, line_comment, doc_comment, block_comment, blank_line, trivia_of, trailing_of, tokens_from}
use Rattle.lookahead.specs.Measure.{any_comment, next_has_comment, is_empty, single_line_from, depth_after}
use Rattle.lookahead.specs.Scan.{is_comment, trails}

-- ---- `next_has_comment`

-- the first token row, and whether a leading comment was seen before it
unfoldable pub comment_ahead : Bool → List Row → Bool
comment_ahead seen [] = false
comment_ahead seen (r ∷ rs) = cond (eqb r.what TokenRow) seen (comment_ahead (seen || is_comment r) rs)

any_append : (l : List Trivia) (t : Trivia) → any_comment (l ++ (t ∷ [])) ≡ any_comment l || any_comment (t ∷ [])
unfolding any_comment
any_append [] t = refl
any_append (line_comment c ∷ l) t = refl
any_append (doc_comment c ∷ l) t = refl
any_append (block_comment c ∷ l) t = refl
any_append (blank_line ∷ l) t = any_append l t

comment-kind : (text : List ℕ) (r : Row) → any_comment (trivia_of text r ∷ []) ≡ ltb r.kind BlankLine
unfolding any_comment
comment-kind text r =
    split (eqb r.kind LineComment) (λ e. rw (eqb-true r.kind LineComment e))
    (λ e. split (eqb r.kind DocComment) (λ f. rw (eqb-true r.kind DocComment f))
    (λ f. split (eqb r.kind BlockComment) (λ g. rw (eqb-true r.kind BlockComment g))
    (λ g. let a = eqb-false r.kind LineComment e in let b = eqb-false r.kind DocComment f in let c = eqb-false r.kind BlockComment g in
    rw (e, f, g, le-ltb r.kind BlankLine (omega arith)))))

pub comment_rows : (text : List ℕ) (l : List Trivia) (rs : List Row) → next_has_comment (tokens_from text l rs) ≡ comment_ahead (any_comment l) rs
unfolding tokens_from comment_ahead
comment_rows text l [] = refl
comment_rows text l (r ∷ rs) =
    split (eqb r.what TokenRow) (λ e. rw e)
    (λ e. split (eqb r.what Leading)
    (λ f. rw (e, f, ← comment-kind text r, ← any_append) (comment_rows text (l ++ (trivia_of text r ∷ [])) rs))
    (λ f. rw (e, f, or-false) (comment_rows text l rs)))

-- ---- `block_is_single_line`

abbrev pub ends_line : ℕ → Bool
ends_line k = eqb k Newline || eqb k Eof

abbrev pub closes_block : ℕ → ℕ → Bool
closes_block k depth = eqb k RightBrace && eqb (depth - 1) 0

unfoldable pub single_line_rows : ℕ → List Row → Bool
single_line_rows depth [] = false
single_line_rows depth (r ∷ rs) =
    cond (eqb r.what Leading) false
    (cond (eqb r.what TokenRow)
    (cond (trails rs || ends_line r.kind) false
    (cond (closes_block r.kind depth) true (single_line_rows (depth_after LeftBrace RightBrace r.kind depth) rs)))
    (single_line_rows depth rs))

-- a token with leading trivia, or none, is ahead
leading-breaks : (text : List ℕ) (x : Trivia) (xs : List Trivia) (depth : ℕ) (rs : List Row) → single_line_from depth (tokens_from text (x ∷ xs) rs) ≡ false
unfolding tokens_from single_line_from
leading-breaks text x xs depth [] = refl
leading-breaks text x xs depth (r ∷ rs) =
    split (eqb r.what TokenRow) (λ e. rw e)
    (λ e. split (eqb r.what Leading)
    (λ f. rw (e, f) (leading-breaks text x (xs ++ (trivia_of text r ∷ [])) depth rs))
    (λ f. rw (e, f) (leading-breaks text x xs depth rs)))

pub no_trailing : (text : List ℕ) (rs : List Row) → is_empty (trailing_of text rs) ≡ not (trails rs)
unfolding trailing_of
no_trailing text [] = refl
no_trailing text (r ∷ rs) = split (eqb r.what Trailing) (λ e. rw e) (λ e. rw e)

-- a bare token of the kind k, where f goes on at a depth
brace_step : (k depth : ℕ) (f : ℕ → Bool) →
    cond (eqb k LeftBrace) (f (depth + 1)) (cond (eqb k RightBrace) (cond (eqb (depth - 1) 0) true (f (depth - 1))) (cond (eqb k Newline) false (cond (eqb k Eof) false (f depth))))
    ≡ cond (ends_line k) false (cond (closes_block k depth) true (f (depth_after LeftBrace RightBrace k depth)))
brace_step k depth f =
    split (eqb k LeftBrace) (λ e. rw (eqb-true k LeftBrace e))
    (λ e. split (eqb k RightBrace) (λ g. rw (eqb-true k RightBrace g))
    (λ g. split (eqb k Newline) (λ h. rw (eqb-true k Newline h))
    (λ h. split (eqb k Eof) (λ i. rw (eqb-true k Eof i)) (λ i. rw (e, g, h, i)))))

pub single_rows : (text : List ℕ) (depth : ℕ) (rs : List Row) → single_line_from depth (tokens_from text [] rs) ≡ single_line_rows depth rs
unfolding tokens_from single_line_from single_line_rows
single_rows text depth [] = refl
single_rows text depth (r ∷ rs) =
    split (eqb r.what Leading)
    (λ e. rw (eqb-true r.what Leading e) (leading-breaks text (trivia_of text r) [] depth rs))
    (λ e. split (eqb r.what TokenRow)
    (λ f. rw (e, f, no_trailing text rs)
    (split (trails rs) (λ g. rw g)
    (λ g. rw g (brace_step r.kind depth (λ d. single_line_from d (tokens_from text [] rs)) ∙ rw (single_rows text (depth_after LeftBrace RightBrace r.kind depth) rs)))))
    (λ f. rw (e, f) (single_rows text depth rs)))
