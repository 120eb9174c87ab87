-- Reading from an index on, a byte or a run at a time. Assumes nothing.
use mathlib.Core.Bool.{Bool, true, false, cond, ◌&&◌}
use mathlib.Core.List.{List, [], ◌∷◌}
use mathlib.Core.Path.{◌≡◌, refl, ◌∙◌}
use Prim.Native.Nat.{ℕ, zero, suc, ◌+◌, ◌≤◌, ◌<◌}
use native.Mathlib.Nat.{add-zero, add-suc, suc-add}
use native.Mathlib.Numerals.{add-one, one-add}
use native.Mathlib.Omega.{arith}
use lib.Dec.{ltb}
use borrow.Author.Tests.{ltb-true, ltb-false}
use lib.ListN.{length, get_or, take, drop, drop_of_length-le, length-drop}
use lib.Seq.{drop-cons, drop-drop, get_or-drop}
use Rattle.std.proofs.lemmas.List.Sums.{prefix_len-drop_yes, prefix_len-drop_no, prefix_len_stops}
use Rattle.shared.proofs.Logic.{split, and_left, and_right}
use Rattle.pieces.specs.Class.{class}
use Rattle.pieces.specs.Reading.{Reading, done, refused, piece, Kind, Mode, between, inside, ends, takes, join, nothing, opens, begin, flush, peek, read, read_from}
use Rattle.pieces.specs.Sets.{run_length, all, is_gap}
use Rattle.pieces.specs.Ends.{EndsAt, join_at}
use Rattle.pieces.proofs.Sets.{gap_of}

-- between pieces the start that is kept does not matter
pub any-start : (t : List ℕ) (s s' i : ℕ) → read t between s i ≡ read t between s' i
unfolding read
any-start [] s s' i = refl
any-start (b ∷ t) s s' i = refl

-- ---- one byte

peek_is : (l : List ℕ) → peek l ≡ get_or l 0 0
peek_is [] = refl
peek_is (x ∷ l) = refl

pub peek-drop : (l : List ℕ) (i : ℕ) → peek (drop i l) ≡ get_or l i 0
peek-drop l i = peek_is (drop i l) ∙ get_or-drop i l 0 0 ∙ rw add-zero

module _ (text : List ℕ) (i : ℕ) (h : i < length text) where
  here : drop i text ≡ get_or text i 0 ∷ drop (i + 1) text
  here = rw (add-one i) (drop-cons text i 0 h)

  pub takes-byte : (k : Kind) {l : Kind} → join_at text k i ≡ takes l → (s : ℕ) → read (drop i text) (inside k) s i ≡ read (drop (i + 1) text) (inside l) s (i + 1)
  unfolding read
  takes-byte k e s = rw (here, peek-drop text (i + 1), e, add-one i)

  pub ends-before : (k : Kind) → join_at text k i ≡ ends → (s : ℕ) → read (drop i text) (inside k) s i ≡ flush (inside k) s i (read_from text i)
  unfolding read
  ends-before k e s = rw (here, peek-drop text (i + 1), e)

  -- a byte that begins a piece
  pub begins : {k : Kind} → begin (class (get_or text i 0)) (get_or text i 0) ≡ opens k → read_from text i ≡ read (drop (i + 1) text) (inside k) i (i + 1)
  unfolding read
  begins e = rw (here, e, add-one i)

  pub starts_nothing : begin (class (get_or text i 0)) (get_or text i 0) ≡ nothing → read_from text i ≡ refused i
  unfolding read
  starts_nothing e = rw (here, e)

pub at-end : (text : List ℕ) (m : Mode) (s i : ℕ) → length text ≤ i → read (drop i text) m s i ≡ flush m s i done
unfolding read
at-end text m s i h = rw (drop_of_length-le text h)

-- ---- a run

-- the gaps that stand first
gap-run : (t : List ℕ) (s i : ℕ) → let n = run_length (λ b. is_gap (class b)) t in read t between s i ≡ read (drop n t) between (i + n) (i + n)
unfolding read
gap-run [] s i = refl
gap-run (b ∷ t) s i =
    split (is_gap (class b)) (λ e. rw (e, gap_of (class b) e, one-add, add-suc, ← suc-add) (gap-run t i (suc i))) (λ e. rw (e, add-zero))

pub gaps_passed : (text : List ℕ) (i : ℕ) → read_from text i ≡ read_from text (i + run_length (λ b. is_gap (class b)) (drop i text))
gaps_passed text i = gap-run (drop i text) i i ∙ rw drop-drop

-- a kind that takes the bytes of a set
module _ (k : Kind) (f : ℕ → Bool) (joins : (b p : ℕ) → join (inside k) b p ≡ cond (f b) (takes k) ends) (ended : (s i : ℕ) (r : Reading) → flush (inside k) s i r ≡ piece s i r) where
  set-run : (t : List ℕ) (s i : ℕ) → let n = run_length f t in read t (inside k) s i ≡ piece s (i + n) (read (drop n t) between (i + n) (i + n))
  unfolding read
  set-run [] s i = ended s i done ∙ rw add-zero
  set-run (b ∷ t) s i = split (f b) (λ e. rw (joins, e, one-add, add-suc, ← suc-add) (set-run t s (suc i))) (λ e. rw (joins, e, ended, add-zero))

  pub run_ends : (text : List ℕ) (i : ℕ) → EndsAt text k i (i + run_length f (drop i text))
  run_ends text i = record { reads = λ s. set-run (drop i text) s i ∙ rw drop-drop }

-- ---- the loops: a byte of the run, a byte after it, and the end of the text

module _ (f : ℕ → Bool) (text : List ℕ) (i : ℕ) where
  pub run_more : i < length text → f (get_or text i 0) ≡ true → (i + 1) + run_length f (drop (i + 1) text) ≡ i + run_length f (drop i text)
  run_more h e = rw (prefix_len-drop_yes f text i 0 h e) (omega arith)

  pub run-stop : i < length text → f (get_or text i 0) ≡ false → i ≡ i + run_length f (drop i text)
  run-stop h e = rw (prefix_len-drop_no f text i 0 h e) (omega arith)

-- several bytes of the run at once
pub run-all : (f : ℕ → Bool) (n : ℕ) (text : List ℕ) (i : ℕ) → i + n ≤ length text → all f (take n (drop i text)) ≡ true → (i + n) + run_length f (drop (i + n) text) ≡ i + run_length f (drop i text)
run-all f zero text i h e = rw add-zero
run-all f (suc n) text i h e =
    let here' = here text i (omega arith) in
    let e' : f (get_or text i 0) && all f (take n (drop (i + 1) text)) ≡ true = rw here' at e in
    let z : i + suc n ≡ (i + 1) + n = omega arith in
    rw z (run-all f n text (i + 1) (omega arith) (and_right (f (get_or text i 0)) (all f (take n (drop (i + 1) text))) e'))
    ∙ run_more f text i (omega arith) (and_left (f (get_or text i 0)) (all f (take n (drop (i + 1) text))) e')

-- two tests that agree on bytes count the same run
pub run_agree : (f g : ℕ → Bool) → ((b : ℕ) → b < 256 → f b ≡ g b) → (text : List ℕ) → ((i : ℕ) → get_or text i 0 < 256) → (i : ℕ) → run_length f (drop i text) ≡ run_length g (drop i text)
run_agree f g agree text bytes i = go (drop i text) (λ j. rw get_or-drop (bytes (i + j)))
  where
    go : (t : List ℕ) → ((i : ℕ) → get_or t i 0 < 256) → run_length f t ≡ run_length g t
    go [] small = refl
    go (b ∷ t) small = rw (agree b (small 0), go t (λ i. small (suc i)))

-- how an open piece stands at i, of one that stood at `from`
pub record Reaches (text : List ℕ) (k : Kind) (from : ℕ) (l : Kind) (i : ℕ) : Type 0 where
  pub reads : (s : ℕ) → read (drop from text) (inside k) s from ≡ read (drop i text) (inside l) s i

pub reaches_start : {text : List ℕ} {k : Kind} {i : ℕ} → Reaches text k i k i
reaches_start = record { reads = λ s. refl }

module _ {text : List ℕ} {k : Kind} {from : ℕ} {l : Kind} {i : ℕ} (ρ : Reaches text k from l i) where
  pub reaches_more : {j : Kind} → i < length text → join_at text l i ≡ takes j → Reaches text k from j (i + 1)
  reaches_more h e = record { reads = λ s. ρ.reads s ∙ takes-byte text i h l e s }

  pub reaches_end : EndsAt text l i i → EndsAt text k from i
  reaches_end h = record { reads = λ s. ρ.reads s ∙ h.reads s }

-- a piece that ends here: with the text, or before a byte that it does not take
module _ (text : List ℕ) (k : Kind) (i : ℕ) (whole : (s : ℕ) (r : Reading) → flush (inside k) s i r ≡ piece s i r) where
  pub ends-out : length text ≤ i → EndsAt text k i i
  ends-out h = record { reads = λ s. at-end text (inside k) s i h ∙ whole s done ∙ rw (at-end text between i i h) }

  pub ends_here : join_at text k i ≡ ends → EndsAt text k i i
  ends_here e =
      split (ltb i (length text)) (λ h. record { reads = λ s. ends-before text i (ltb-true _ _ h) k e s ∙ whole s _ })
      (λ h. ends-out (ltb-false _ _ h))

-- after a run no byte of the set stands
pub run_stops : (f : ℕ → Bool) (text : List ℕ) (i : ℕ) → i + run_length f (drop i text) < length text → f (get_or text (i + run_length f (drop i text)) 0) ≡ false
run_stops f text i h = rw (← get_or-drop) (prefix_len_stops f (drop i text) 0 (omega (arith, length-drop i text)))
