-- A text of gaps and lexemes, each lexeme whole and apart from what stands before it, reads as exactly its lexemes. Assumes nothing.
use mathlib.Core.List.{List, [], ◌∷◌, ◌++◌, append_assoc}
use mathlib.Core.Path.{◌≡◌, refl, sym, ◌∙◌}
use Prim.Native.Nat.{ℕ, suc}
use lib.ListN.{length, length-append}
use lib.Seq.{slice, take_at, drop_at}
use Rattle.pieces.specs.declared.bytes.Class.TheVariants.{Gap}
use Rattle.pieces.specs.Class.{class}
use Rattle.pieces.specs.Reading.{Reading, done, piece, Mode, between, inside, join, flush, peek, read, reading}
use Rattle.pieces.specs.Answer.{numbers, cut}
use Rattle.pieces.proofs.Scan.{any-start}
use Rattle.pieces.proofs.Whole.{Left, clear, left_by, Apart, Rests, ReadsWhole, rests_between, rests_inside, rests_gap, rests_apart, past, past_length, Lexeme, lexeme, parts}

pub data Seg : Type 0 where
  blank lex : List ℕ → Seg

abbrev pub flatten : List Seg → List ℕ
flatten [] = []
flatten (blank g ∷ segs) = g ++ flatten segs
flatten (lex w ∷ segs) = w ++ flatten segs

abbrev pub lexemes : List Seg → List (List ℕ)
lexemes [] = []
lexemes (blank g ∷ segs) = lexemes segs
lexemes (lex w ∷ segs) = w ∷ lexemes segs

abbrev pub Gaps : List ℕ → Type 0
Gaps [] = Unit {0}
Gaps (b ∷ g) = (class b ≡ Gap) × Gaps g

-- what is left open after a gap
abbrev pub after_gap : Left → List ℕ → Left
after_gap l [] = l
after_gap l (b ∷ g) = clear

-- `Separated l segs n`: well separated, after what l says is left open; n is left open at the end
pub data Separated : Left → List Seg → Left → Type 0 where
  end : {l : Left} → Separated l [] l
  gap : {l n : Left} {g : List ℕ} {segs : List Seg} → Gaps g → Separated (after_gap l g) segs n → Separated l (blank g ∷ segs) n
  then : {l n : Left} {w : List ℕ} {segs : List Seg} → ReadsWhole w → Apart l w → Separated (left_by w) segs n → Separated l (lex w ∷ segs) n

-- a piece for each lexeme, the text standing from i on
abbrev pub spans : List Seg → ℕ → Reading
spans [] i = done
spans (blank g ∷ segs) i = spans segs (past i g)
spans (lex w ∷ segs) i = piece i (past i w) (spans segs (past i w))

read_gaps : (g r : List ℕ) (s s' i : ℕ) → Gaps g → read (g ++ r) between s i ≡ read r between s' (past i g)
unfolding read
read_gaps [] r s s' i h = any-start r s s' i
read_gaps (b ∷ g) r s s' i h = rw h.0 (read_gaps g r i s' (suc i) h.1)

solid-end : {w : List ℕ} (λ' : Lexeme w) (s i : ℕ) (r : Reading) → flush (inside λ'.end) s i r ≡ piece s i r
solid-end λ' = go λ'.rests
  where
    go : {l : Left} → Rests (inside λ'.end) l → (s i : ℕ) (r : Reading) → flush (inside λ'.end) s i r ≡ piece s i r
    go (rests_inside d) = d

-- the bytes of a lexeme after what is left open
read-lexeme : {m : Mode} {l : Left} {w : List ℕ} (r : List ℕ) → Rests m l → (λ' : Lexeme w) → Apart l w → (s i : ℕ) → read (w ++ r) m s i ≡ flush m s i (read r (inside λ'.end) i (past i w))
read-lexeme {m} {l} {w} r ρ λ' a s i =
    let ended : join m λ'.head (peek (λ'.tail ++ r)) ≡ _ = rests_apart ρ λ'.head λ'.tail r (rw λ'.bytes at a) in
    let parted : read (w ++ r) m s i ≡ flush m s i (read (w ++ r) between i i) = rw λ'.bytes (parts m λ'.head (λ'.tail ++ r) s i ended) in
    parted ∙ rw (λ'.reads r i i)

read_segs : {m : Mode} {l n : Left} {segs : List Seg} → Separated l segs n → Rests m l → (s i : ℕ) → read (flatten segs) m s i ≡ flush m s i (spans segs i)
unfolding read
read_segs end ρ s i = refl
read_segs (gap {g = []} h r) ρ s i = read_segs r ρ s i
read_segs {m} (gap {g = b ∷ g} {segs = segs} h r) ρ s i =
    rw (rests_gap ρ b _ h.0, h.0, read_gaps g (flatten segs) i i (suc i) h.1, read_segs {m = between} r rests_between i (past (suc i) g))
read_segs {m} (then {w = w} {segs = segs} e a r) ρ s i =
    let λ' = lexeme w e in
    read-lexeme (flatten segs) ρ λ' a s i ∙ rw (read_segs {m = inside λ'.end} r λ'.rests i (past i w), solid-end λ')

pub reading_segs : {n : Left} {segs : List Seg} → Separated clear segs n → reading (flatten segs) ≡ spans segs 0
reading_segs r = read_segs r rests_between 0 0

-- ---- the pieces stand for the lexemes

past_append : (pre w : List ℕ) → past (length pre) w ≡ length (pre ++ w)
past_append pre w = past_length w (length pre) ∙ sym (length-append pre w)

slice_mid : (pre w r : List ℕ) → slice (length pre) (past (length pre) w) (pre ++ (w ++ r)) ≡ w
slice_mid pre w r = rw (← append_assoc pre w r, past_append pre w, take_at (pre ++ w) r _ refl, drop_at pre w _ refl)

cut_segs : (segs : List Seg) (pre zs : List ℕ) → cut (pre ++ flatten segs) (length (lexemes segs)) (numbers (spans segs (length pre)) ++ zs) ≡ lexemes segs
unfolding cut numbers
cut_segs [] pre zs = refl
cut_segs (blank g ∷ segs) pre zs = rw (← append_assoc pre g (flatten segs), past_append pre g, cut_segs segs (pre ++ g) zs)
cut_segs (lex w ∷ segs) pre zs =
    let rest : cut (pre ++ (w ++ flatten segs)) (length (lexemes segs)) (numbers (spans segs (past (length pre) w)) ++ zs) ≡ lexemes segs =
    rw (← append_assoc pre w (flatten segs), past_append pre w, cut_segs segs (pre ++ w) zs) in
    rw (slice_mid pre w (flatten segs), rest)

-- the text reads back as exactly its lexemes
pub reads_back : {n : Left} {segs : List Seg} (zs : List ℕ) → Separated clear segs n → cut (flatten segs) (length (lexemes segs)) (numbers (reading (flatten segs)) ++ zs) ≡ lexemes segs
reads_back {segs = segs} zs r = rw (reading_segs r) (cut_segs segs [] zs)

-- ---- writing goes on at the end, after what is left open

pub separated_append : {l n o : Left} {s t : List Seg} → Separated l s n → Separated n t o → Separated l (s ++ t) o
separated_append end q = q
separated_append (gap h r) q = gap h (separated_append r q)
separated_append (then e a r) q = then e a (separated_append r q)
