-- Where an open piece ends: what the scanning functions promise to `next_piece`.
-- Assumes nothing.
use Rattle.std.specs.Prelude.{Bool, true, false, not, ◌&&◌, ◌≡◌, List, ℕ, ◌+◌, eqb, drop, get_or, Option, None, Some}
use Rattle.shared.specs.Bytes.{byte}
use Rattle.pieces.specs.Reading.{Kind, quoted, inside, Joined, ends, takes, join, piece, refused, read, read_from}

-- A piece of the kind k that is open at an index ends at e, wherever it began.
pub record EndsAt (text : List ℕ) (k : Kind) (from e : ℕ) : Type 0 where
  pub reads : (s : ℕ) → read (drop from text) (inside k) s from ≡ piece s e (read_from text e)

-- A quote opened by the byte q, and open at an index, ends there, or is never closed.
abbrev pub QuoteEnds : List ℕ → ℕ → ℕ → Option ℕ → Type 0
QuoteEnds text q from (Some e) = EndsAt text (quoted q) from e
QuoteEnds text q from None = (s : ℕ) → read (drop from text) (inside (quoted q)) s from ≡ refused s

-- A byte that a quote opened by q passes over alone: neither q nor a backslash.
abbrev pub ordinary : ℕ → ℕ → Bool
ordinary q b = not (eqb b q) && not (eqb b (byte "\\"))

-- The open piece takes the byte.
abbrev pub taken : Joined → Bool
taken ends = false
taken (takes k) = true

-- What the byte at an index does to an open piece of the kind k.
abbrev pub join_at : List ℕ → Kind → ℕ → Joined
join_at text k i = join (inside k) (get_or text i 0) (get_or text (i + 1) 0)
