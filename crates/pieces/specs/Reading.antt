-- Reading back (specification, 'Reading back'): a text read into pieces, byte by byte.
-- An open piece takes the next byte in (`join`), or ends before it, and the byte begins anew (`begin`).
-- Assumes nothing.
use Rattle.std.specs.Prelude.{cond, ◌&&◌, ◌||◌, List, [], ◌∷◌, ℕ, suc, eqb, drop}
use Rattle.shared.specs.Bytes.{byte, digit}
use Rattle.pieces.specs.declared.bytes.Class.{Class}
use Rattle.pieces.specs.declared.bytes.Class.TheVariants.{Gap, Single, Quote, Word, Operator, Unclassed}
use Rattle.pieces.specs.Class.{class, is_word, is_operator}

-- What a text reads as: its pieces in order, each from its start to its end (not included), up to the
-- text's end or to refusal 9 at its index.
pub data Reading : Type 0 where
  done : Reading
  refused : ℕ → Reading
  piece : ℕ → ℕ → Reading → Reading

-- How an open piece goes on.
--     closed      a single, or a quote that has been closed: it takes nothing more
--     word        a run of word bytes
--     number      a run of word bytes begun with a digit
--     operator    a run of operator bytes
--     quoted q    in a quote opened by the byte q
--     escaped q   in it, after a backslash
pub data Kind : Type 0 where
  closed word number operator : Kind
  quoted escaped : ℕ → Kind

-- The reader is between pieces, or inside one of a kind.
pub data Mode : Type 0 where
  between : Mode
  inside : Kind → Mode

-- What a byte does to an open piece: the piece ends before it, or takes it and goes on as a kind.
pub data Joined : Type 0 where
  ends : Joined
  takes : Kind → Joined

-- What a byte begins that no piece takes: nothing (it has no class), a gap, or a piece of a kind.
pub data Begun : Type 0 where
  nothing blank : Begun
  opens : Kind → Begun

-- A run begun with a digit, which goes on as k: word bytes, and a `.` that a digit follows.
abbrev pub digits : Kind → ℕ → ℕ → Joined
digits k b after = cond (is_word (class b) || (eqb b (byte ".") && digit after)) (takes k) ends

-- A quote runs to the next equal quote; a backslash takes the byte after it along.
abbrev pub in_quote : ℕ → ℕ → Kind
in_quote q b = cond (eqb b q) closed (cond (eqb b (byte "\\")) (escaped q) (quoted q))

-- What the byte b does to an open piece; after is the byte that follows, or 0 at the text's end.
abbrev pub join : Mode → ℕ → ℕ → Joined
join between b after = ends
join (inside closed) b after = ends
join (inside word) b after = cond (is_word (class b)) (takes word) ends
join (inside number) b after = digits number b after
join (inside operator) b after = cond (is_operator (class b)) (takes operator) ends
join (inside (quoted q)) b after = takes (in_quote q b)
join (inside (escaped q)) b after = takes (quoted q)

-- What the byte b, of the class given, begins where no piece takes it.
abbrev pub begin : Class → ℕ → Begun
begin Gap b = blank
begin Single b = opens closed
begin Quote b = opens (quoted b)
begin Word b = opens (cond (digit b) number word)
begin Operator b = opens operator
begin Unclassed b = nothing

-- What is open from s on ends at i, as a piece or as a quote that is never closed; r is what is read from i on.
abbrev pub flush : Mode → ℕ → ℕ → Reading → Reading
flush between s i r = r
flush (inside closed) s i r = piece s i r
flush (inside word) s i r = piece s i r
flush (inside number) s i r = piece s i r
flush (inside operator) s i r = piece s i r
flush (inside (quoted q)) s i r = refused s
flush (inside (escaped q)) s i r = refused s

-- The first byte, or 0 where there is none.
abbrev pub peek : List ℕ → ℕ
peek [] = 0
peek (b ∷ t) = b

-- The reading goes on by what the byte did to the open piece, or by what it begins.
abbrev pub after_join : Joined → (Kind → Reading) → Reading → Reading
after_join ends more over = over
after_join (takes k) more over = more k

abbrev pub after_begin : Begun → ℕ → (Mode → Reading) → Reading
after_begin nothing i more = refused i
after_begin blank i more = more between
after_begin (opens k) i more = more (inside k)

-- The reading of a text's bytes from index i on, in the mode m, where what is open began at s.
unfoldable pub read : List ℕ → Mode → ℕ → ℕ → Reading
read [] m s i = flush m s i done
read (b ∷ t) m s i =
    after_join (join m b (peek t)) (λ k. read t (inside k) s (suc i))
    (flush m s i (after_begin (begin (class b) b) i (λ n. read t n i (suc i))))

-- The reading of a whole text.
abbrev pub reading : List ℕ → Reading
reading text = read text between 0 0

-- The reading from an index on, where a piece may begin.
abbrev pub read_from : List ℕ → ℕ → Reading
read_from text i = read (drop i text) between i i
