-- Trivia rows, one after the other: what the loops over them do.
-- Assumes nothing.
use Rattle.std.specs.Prelude.{List, [], ◌++◌, map, ◌≡◌, ℕ, ◌+◌, ◌-◌, ◌*◌, ◌/◌, ◌≤◌, length, drop}
use Rattle.rows.specs.Row.{row_size, first_rows}
use Rattle.rows.specs.Bounds.{InBounds}
use Rattle.rows.specs.Options.{Options}
use Rattle.shared.specs.Bytes.{space, slashes, doc_slashes, slash_star, star_slash}
use Rattle.rows.specs.Token.{Trivia, line_comment, doc_comment, block_comment, blank_line, trivia_of}
use Rattle.lookahead.specs.Measure.{is_empty}
use Rattle.definition.specs.Act.{Act, update, ◌⨾◌}
use Rattle.definition.specs.Emit.{leading_trivia}
use Rattle.definition.specs.PushToken.{take_inline_close}

-- The trivia of the rows from an index to another.
abbrev pub trivia_in : List ℕ → List ℕ → ℕ → ℕ → List Trivia
trivia_in rows text from to = map (trivia_of text) (first_rows ((to - from) / row_size) (drop from rows))

-- From an index to another stand whole rows, and their bytes lie in the text.
pub record WholeRows (rows text : List ℕ) (from to : ℕ) : Type 0 where
  pub ordered : from ≤ to
  pub within : to ≤ length rows
  pub whole : to ≡ from + row_size * ((to - from) / row_size)
  pub bounds : InBounds text (first_rows ((to - from) / row_size) (drop from rows))

-- The bytes that trailing trivia write.
abbrev pub trail_bytes : Trivia → List ℕ
trail_bytes (line_comment c) = slashes ++ space ++ c
trail_bytes (doc_comment c) = doc_slashes ++ space ++ c
trail_bytes (block_comment c) = slash_star ++ c ++ star_slash
trail_bytes blank_line = []

-- The act of the leading trivia, and after them of `just_closed_inline`, which trivia leave as it is and a token without any
-- clears.
abbrev pub lead_token : Options → List Trivia → Act
lead_token o leading = leading_trivia o leading ⨾ update (take_inline_close (is_empty leading))
