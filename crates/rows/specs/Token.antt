-- Tokens with their trivia, as checked rows name them (specification, 'Rows').
-- Assumes nothing.
use Rattle.std.specs.Prelude.{cond, List, [], ◌∷◌, ◌++◌, ℕ, eqb}
use Rattle.std.proofs.Math.Seq.{slice}
use Rattle.rows.specs.Kinds.{Leading, TokenRow, Trailing, LineComment, DocComment, BlockComment}
use Rattle.rows.specs.Row.{Row, rows_of}

pub data Trivia : Type 0 where
  line_comment doc_comment block_comment : List ℕ → Trivia
  blank_line : Trivia

pub record Token : Type 0 where
  pub kind : ℕ
  pub lexeme : List ℕ
  pub leading : List Trivia
  pub trailing : List Trivia

-- the bytes that a row names
abbrev pub bytes_of : List ℕ → Row → List ℕ
bytes_of text r = slice r.start r.end text

abbrev pub trivia_of : List ℕ → Row → Trivia
trivia_of text r =
    cond (eqb r.kind LineComment) (line_comment (bytes_of text r))
    (cond (eqb r.kind DocComment) (doc_comment (bytes_of text r))
    (cond (eqb r.kind BlockComment) (block_comment (bytes_of text r)) blank_line))

-- the trailing rows that stand first
unfoldable pub trailing_of : List ℕ → List Row → List Trivia
trailing_of text [] = []
trailing_of text (r ∷ rs) = cond (eqb r.what Trailing) (trivia_of text r ∷ trailing_of text rs) []

abbrev pub token_of : List ℕ → List Trivia → Row → List Row → Token
token_of text leading r rs = record { kind = r.kind; lexeme = bytes_of text r; leading = leading; trailing = trailing_of text rs }

-- the tokens of the rows, where the leading rows given stood before them
unfoldable pub tokens_from : List ℕ → List Trivia → List Row → List Token
tokens_from text leading [] = []
tokens_from text leading (r ∷ rs) =
    cond (eqb r.what TokenRow) (token_of text leading r rs ∷ tokens_from text [] rs)
    (tokens_from text (cond (eqb r.what Leading) (leading ++ (trivia_of text r ∷ [])) leading) rs)

-- The tokens that the rows name in the text.
unfoldable pub tokens_of : List ℕ → List ℕ → List Token
tokens_of rows text = tokens_from text [] (rows_of rows)
