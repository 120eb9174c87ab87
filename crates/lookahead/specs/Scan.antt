-- What the code computes over rows. The measures here say the same as those of Measure.antt (proofs/Sizes.antt).
-- Assumes nothing.
use Rattle.std.specs.Prelude.{Bool, true, false, cond, not, ◌&&◌, ◌||◌, List, [], ◌∷◌, ◌≡◌, ℕ, ◌+◌, ◌-◌, ◌*◌, ◌^◌, ◌≤◌, ◌<◌, eqb, ltb, length}
use Rattle.rows.specs.Kinds.{Leading, TokenRow, Trailing, BlankLine, Eof, RightParen, RightBracket, Comma, Other}
use Rattle.rows.specs.Row.{Row, row_size, rows_of}
use Rattle.lookahead.specs.declared.measure.Span.{Span}
use Rattle.lookahead.specs.declared.measure.Span.TheVariants.{Signature, Paren, Bracket}
use Rattle.lookahead.specs.declared.measure.Measure
use Rattle.lookahead.specs.Measure.{Measure, depth_after, counted}

-- ---- `after_last`

-- how many rows there are up to the last one of the kind k, which is counted; 0 if there is none
unfoldable pub up_to_last : ℕ → List Row → ℕ
up_to_last k [] = 0
up_to_last k (r ∷ rs) = cond (eqb (up_to_last k rs) 0) (cond (eqb r.kind k) 1 0) (up_to_last k rs + 1)

-- the index after that row
abbrev pub after_last : ℕ → List ℕ → ℕ
after_last k rows = row_size * up_to_last k (rows_of rows)

-- no row is a token of the kind k
unfoldable pub lacks : ℕ → List Row → Bool
lacks k [] = true
lacks k (r ∷ rs) = not (eqb r.what TokenRow && eqb r.kind k) && lacks k rs

-- ---- `total_width`

-- all token rows together, each as it adds to the width of a measure
unfoldable pub width_rows : List Row → ℕ
width_rows [] = 0
width_rows (r ∷ rs) = cond (eqb r.what TokenRow) (r.end - r.start + 1 + width_rows rs) (width_rows rs)

-- ---- `next_has_comment`

abbrev pub is_comment : Row → Bool
is_comment r = eqb r.what Leading && ltb r.kind BlankLine

-- ---- `block_is_single_line`

-- a row that is no token's is trivia of a token: it leads, or trails and follows a token's row
abbrev pub is_trivia : ℕ → Bool → Bool
is_trivia what follows = eqb what Leading || (eqb what Trailing && follows)

-- a trailing row stands first
abbrev pub trails : List Row → Bool
trails [] = false
trails (r ∷ rs) = eqb r.what Trailing

-- ---- `sig_measure` and `group_measure`

-- the group that a kind opens
abbrev pub group_of : Bool → Span
group_of is_paren = cond is_paren Paren Bracket

-- no more than one of the opening kind is open, and none of the other
abbrev pub is_last : ℕ → ℕ → Bool
is_last own other = eqb (own - 1) 0 && eqb other 0

-- one of the opening kind is open, and none of the other
abbrev pub is_top : ℕ → ℕ → Bool
is_top own other = eqb own 1 && eqb other 0

-- a group ends before a token of the kind k, at these depths
abbrev pub ends_group : ℕ → ℕ → ℕ → ℕ → Bool
ends_group closer k own other = (eqb k closer && is_last own other) || eqb k Eof

-- the measure stops before a token of the kind k, at these depths; a signature does not look at brackets
abbrev pub stops_at : Span → ℕ → ℕ → ℕ → Bool
stops_at Signature parens brackets k = ends_group RightParen k parens 0
stops_at Paren parens brackets k = ends_group RightParen k parens brackets
stops_at Bracket parens brackets k = ends_group RightBracket k brackets parens

-- directly inside what is measured
abbrev pub top_in : Span → ℕ → ℕ → Bool
top_in Signature parens brackets = is_top parens brackets
top_in Paren parens brackets = is_top parens brackets
top_in Bracket parens brackets = is_top brackets parens

-- a token of the kind k and of n bytes is counted
abbrev pub counts : Span → Measure → ℕ → ℕ → Measure
counts span m k n = counted (top_in span m.paren_depth m.bracket_depth) m (record { kind = k; size = n })

unfoldable pub measure_rows : Span → Measure → List Row → Measure
measure_rows span m [] = m
measure_rows span m (r ∷ rs) =
    cond (eqb r.what TokenRow)
    (cond (stops_at span m.paren_depth m.bracket_depth r.kind) m
    (measure_rows span (counts span m r.kind (r.end - r.start)) rs))
    (measure_rows span m rs)

-- the numbers of the code: a token was seen where they have a width
abbrev pub measure_of : Measure.Measure → Measure
measure_of m = record {
  paren_depth = m.parens;
  bracket_depth = m.brackets;
  commas = m.commas;
  width = m.width;
  saw_token = ltb 0 m.width;
}

-- ---- a comma at the top of a group

-- the kind of a token; a row that is no token's counts as one of the kind Other, which matters to no depth
abbrev pub token_kind : Row → ℕ
token_kind r = cond (eqb r.what TokenRow) r.kind Other

-- the kinds that open and close a group, and those of the other: four between Eof and Comma
pub record GroupKinds (o c o' c' : ℕ) : Type 0 where
  pub opener : (Eof < o) × (o < Comma)
  pub closer : (Eof < c) × (c < Comma)
  pub other_opener : (Eof < o') × (o' < Comma)
  pub other_closer : (Eof < c') × (c' < Comma)
  pub own : o ≡ c → ⊥
  pub openers : o ≡ o' → ⊥
  pub opened : o ≡ c' → ⊥
  pub closed : c ≡ o' → ⊥
  pub closers : c ≡ c' → ⊥

-- a comma stands directly inside the group, before it ends
unfoldable pub comma_ahead : ℕ → ℕ → ℕ → ℕ → ℕ → ℕ → List Row → Bool
comma_ahead opener closer other_opener other_closer own other [] = false
comma_ahead opener closer other_opener other_closer own other (r ∷ rs) =
    cond (ends_group closer (token_kind r) own other) false
    (cond (eqb (token_kind r) Comma && is_top own other) true
    (comma_ahead opener closer other_opener other_closer
    (depth_after opener closer (token_kind r) own) (depth_after other_opener other_closer (token_kind r) other) rs))

-- ---- the two decisions

-- so many commas and such a width are enough to break
abbrev pub breaks_signature : ℕ → ℕ → ℕ → Bool
breaks_signature limit commas width = ltb 2 commas || ltb limit width

abbrev pub breaks_list : ℕ → ℕ → ℕ → Bool
breaks_list limit commas width = ltb 0 commas && ltb limit width

abbrev pub breaks : Span → ℕ → ℕ → ℕ → Bool
breaks Signature limit commas width = breaks_signature limit commas width
breaks Paren limit commas width = breaks_list limit commas width
breaks Bracket limit commas width = breaks_list limit commas width

abbrev pub breaks_at : Span → ℕ → Measure → Bool
breaks_at span limit m = breaks span limit m.commas m.width

-- room for one more token of n bytes in the code's numbers
pub record Room (m : Measure.Measure) (n : ℕ) : Type 0 where
  pub parens : m.parens < 2 ^ 63
  pub brackets : m.brackets < 2 ^ 63
  pub commas : m.commas < 2 ^ 63
  pub width : m.width + n < 2 ^ 63

-- so many rows of `all` are left behind the measure m that its numbers are few
pub record FewIn (m : Measure.Measure) (left all : List Row) : Type 0 where
  pub parens : m.parens + length left ≤ length all
  pub brackets : m.brackets + length left ≤ length all
  pub commas : m.commas + length left ≤ length all
  pub width : m.width + 2 ^ 32 * length left ≤ 2 ^ 32 * length all
