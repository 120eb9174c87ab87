-- After its first piece a text reads on as from that piece's end. Assumes nothing.
use mathlib.Core.List.{List, [], ◌∷◌}
use mathlib.Core.Path.{◌≡◌, refl, sym, ap, ◌∙◌}
use Prim.Native.Nat.{ℕ, suc, ◌+◌, ◌≤◌, ◌<◌}
use native.Mathlib.Omega.{arith}
use lib.ListN.{length, drop, length-drop}
use lib.Seq.{drop-drop}
use Rattle.std.specs.Prelude.{None, Some, Ok, Err}
use Rattle.pieces.specs.declared.Piece.{Piece}
use Rattle.pieces.specs.declared.Unreadable.{Unreadable}
use Rattle.pieces.specs.Class.{class}
use Rattle.pieces.specs.Reading.{Reading, done, refused, piece, Kind, closed, word, number, operator, quoted, escaped, between, inside, Joined, ends, takes, join, Begun, nothing, blank, opens, begin, flush, peek, read, read_from}
use Rattle.pieces.specs.Next.{next}

-- the reading r from index e on, of the bytes t that stand from i on
record Rest (t : List ℕ) (i e : ℕ) (r : Reading) : Type 0 where
  count : ℕ
  index : e ≡ i + count
  within : count ≤ length t
  reads : r ≡ read (drop count t) between e e

further : {b : ℕ} {t : List ℕ} {i e : ℕ} {r : Reading} → Rest t (suc i) e r → Rest (b ∷ t) i e r
further ρ = record { count = suc ρ.count; index = omega (arith, ρ.index); within = omega (arith, ρ.within); reads = ρ.reads }

-- an open piece that has ended
pub flushed : (k : Kind) {s i s' e : ℕ} {r r' : Reading} → flush (inside k) s i r ≡ piece s' e r' → (s ≡ s') × (i ≡ e) × (r ≡ r')
flushed closed h = (cc, cc, cc)
flushed word h = (cc, cc, cc)
flushed number h = (cc, cc, cc)
flushed operator h = (cc, cc, cc)
flushed (quoted q) h = (cc, cc, cc)
flushed (escaped q) h = (cc, cc, cc)

rest-inside : (t : List ℕ) (k : Kind) (s i : ℕ) {s' e : ℕ} {r : Reading} → read t (inside k) s i ≡ piece s' e r → (s ≡ s') × Rest t i e r
unfolding read
rest-inside [] k s i h =
    let f = flushed k h in
    (f.0, record { count = 0; index = omega (arith, f.1); within = omega arith; reads = sym f.2 })
rest-inside (b ∷ t) k s i {s'} {e} {r} h = go (join (inside k) b (peek t)) refl (λ l q. rest-inside t l s (suc i) q)
  where
    go : (j : Joined) → join (inside k) b (peek t) ≡ j → ((l : Kind) → read t (inside l) s (suc i) ≡ piece s' e r → (s ≡ s') × Rest t (suc i) e r) → (s ≡ s') × Rest (b ∷ t) i e r
    go ends q more =
        let f = flushed k (rw q at h) in
        (f.0, record { count = 0; index = omega (arith, f.1); within = omega arith; reads = sym f.2 ∙ rw f.1 })
    go (takes l) q more = let m = more l (rw q at h) in (m.0, further m.1)

rest-between : (t : List ℕ) (s i : ℕ) {s' e : ℕ} {r : Reading} → read t between s i ≡ piece s' e r → (i ≤ s') × (s' < e) × Rest t i e r
unfolding read
rest-between [] s i h = let z : ◌≡◌ {A = ℕ} 0 1 = cc in absurd (omega arith)
rest-between (b ∷ t) s i {s'} {e} {r} h = go (begin (class b) b) refl (λ q. rest-between t i (suc i) q)
  where
    go : (j : Begun) → begin (class b) b ≡ j → (read t between i (suc i) ≡ piece s' e r → (suc i ≤ s') × (s' < e) × Rest t (suc i) e r) → (i ≤ s') × (s' < e) × Rest (b ∷ t) i e r
    go nothing q more = let z : ◌≡◌ {A = ℕ} 0 1 = cc (rw q at h) in absurd (omega arith)
    go blank q more = let m = more (rw q at h) in (omega (arith, m.0), m.1, further m.2)
    go (opens k) q more = let m = rest-inside t k i (suc i) (rw q at h) in (omega (arith, m.0), omega (arith, m.0, m.1.index), further m.1)

-- a piece that is open began at s; one that is yet to begin begins no sooner than i
pub starts_after : (t : List ℕ) (s i : ℕ) {s' e : ℕ} {r : Reading} → read t between s i ≡ piece s' e r → i ≤ s'
starts_after t s i h = (rest-between t s i h).0

-- the first piece of the text from an index on, and the reading after it
pub record First (text : List ℕ) (at s e : ℕ) : Type 0 where
  pub reads : read_from text at ≡ piece s e (read_from text e)
  pub after : at ≤ s
  pub some : s < e
  pub within : e ≤ length text

pub first : (text : List ℕ) (at : ℕ) {s e : ℕ} {r : Reading} → read_from text at ≡ piece s e r → First text at s e
first text at {s} {e} {r} h =
    let m = rest-between (drop at text) at at h in
    let ρ = m.2 in
    let same : r ≡ read_from text e = ρ.reads ∙ rw (drop-drop, ← ρ.index) in
    record { reads = h ∙ ap (piece s e) same; after = m.0; some = m.1; within = omega (arith, m.0, m.1, ρ.index, ρ.within, length-drop at text) }

-- what the answer of `next_piece` tells
pub next-first : (text : List ℕ) (at : ℕ) {p : Piece} → Ok (Some p) ≡ next (read_from text at) → First text at p.start p.end
next-first text at {p} h = go (read_from text at) refl
  where
    go : (r : Reading) → read_from text at ≡ r → First text at p.start p.end
    go done q = let z : ◌≡◌ {A = ℕ} 0 1 = cc (rw q at h) in absurd (omega arith)
    go (refused i) q = let z : ◌≡◌ {A = ℕ} 0 1 = cc (rw q at h) in absurd (omega arith)
    go (piece s e r) q = let same : piece s e r ≡ piece p.start p.end r = cc (rw q at h) in first text at (q ∙ same)

pub next-done : (r : Reading) → Ok None ≡ next r → r ≡ done
next-done done h = refl
next-done (refused i) h = cc
next-done (piece s e r) h = cc

pub next-refused : (r : Reading) {u : Unreadable} → Err u ≡ next r → r ≡ refused u.index
next-refused done h = cc
next-refused (refused i) h = cc
next-refused (piece s e r) h = cc
