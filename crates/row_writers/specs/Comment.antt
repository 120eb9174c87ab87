-- A comment's marks, by its kind.
-- Assumes nothing.
use Rattle.std.specs.Prelude.{cond, List, [], ◌++◌, ℕ, eqb}
use Rattle.shared.specs.Bytes.{line_feed, space, slashes, doc_slashes, slash_star, star_slash}
use Rattle.rows.specs.Kinds.{DocComment, BlockComment}

abbrev pub comment_head : ℕ → List ℕ
comment_head k = cond (eqb k BlockComment) slash_star (cond (eqb k DocComment) doc_slashes slashes)

abbrev pub lead_tail : ℕ → List ℕ
lead_tail k = cond (eqb k BlockComment) (space ++ star_slash ++ line_feed) line_feed

abbrev pub trail_head : ℕ → List ℕ
trail_head k = comment_head k ++ cond (eqb k BlockComment) [] space

abbrev pub trail_tail : ℕ → List ℕ
trail_tail k = cond (eqb k BlockComment) star_slash []
