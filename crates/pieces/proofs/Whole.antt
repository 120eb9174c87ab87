-- A lexeme that reads as one piece goes on doing so before whatever does not join it. Assumes nothing.
use mathlib.Core.Bool.{Bool, true, false, cond, ◌&&◌, ◌||◌}
use mathlib.Core.List.{List, [], ◌∷◌, ◌++◌}
use mathlib.Core.Path.{◌≡◌, refl, ◌∙◌}
use Prim.Native.Nat.{ℕ, suc, ◌+◌}
use native.Mathlib.Omega.{arith}
use lib.Dec.{eqb}
use lib.ListN.{length}
use borrow.Author.Tests.{eqb-true}
use Rattle.shared.specs.Bytes.{digit}
use Rattle.shared.proofs.Logic.{impossible, split}
use Rattle.pieces.specs.declared.bytes.Class.{Class}
use Rattle.pieces.specs.declared.bytes.Class.TheVariants.{Gap, Single, Quote, Word, Operator, Unclassed}
use Rattle.pieces.specs.Class.{class, is_word, is_operator}
use Rattle.pieces.specs.Reading.{Reading, done, refused, piece, Kind, closed, word, number, operator, quoted, escaped, Mode, between, inside, Joined, ends, takes, Begun, nothing, blank, opens}
use Rattle.pieces.specs.Reading.{digits, join, begin, flush, peek, read, reading}
use Rattle.pieces.proofs.Sets.{operator_of}
use Rattle.pieces.proofs.Resume.{flushed, starts_after}

-- ---- what a text leaves open at its end

--     clear            nothing
--     shut             a lexeme that takes no more
--     after_word       one that takes word bytes
--     after_number     one begun with a digit, which takes a dot before a digit too
--     after_operator   one that takes operator bytes
pub data Left : Type 0 where
  clear shut after_word after_number after_operator : Left

-- by the class of the last lexeme's first byte, and that byte
abbrev pub leaves : Class → ℕ → Left
leaves Gap b = clear
leaves Single b = shut
leaves Quote b = shut
leaves Word b = cond (digit b) after_number after_word
leaves Operator b = after_operator
leaves Unclassed b = clear

abbrev pub left_by : List ℕ → Left
left_by w = leaves (class (peek w)) (peek w)

-- a run begun with a digit does not take w's first byte, whatever stands after w
abbrev pub Undigit : List ℕ → Type 0
Undigit [] = Unit {0}
Undigit (b ∷ []) = digits number b 48 ≡ ends
Undigit (b ∷ c ∷ t) = digits number b c ≡ ends

-- w is not taken into what is left open, whatever stands after it
abbrev pub Apart : Left → List ℕ → Type 0
Apart clear w = Unit {0}
Apart shut w = Unit {0}
Apart after_word w = is_word (class (peek w)) ≡ false
Apart after_number w = Undigit w
Apart after_operator w = is_operator (class (peek w)) ≡ false

-- ---- the byte after: where the text ends it counts as 0, at which the fewest bytes are taken; a digit lets the most be taken

keep_least : (k : Kind) (w x d : Bool) {l : Kind} → cond (w || (x && false)) (takes k) ends ≡ takes l → cond (w || (x && d)) (takes k) ends ≡ takes l
keep_least k true x d e = e
keep_least k false true d e = cc
keep_least k false false d e = e

keep_most : (k : Kind) (w x d : Bool) → cond (w || (x && true)) (takes k) ends ≡ ends → cond (w || (x && d)) (takes k) ends ≡ ends
keep_most k true x d e = e
keep_most k false true d e = cc
keep_most k false false d e = refl

least : (k : Kind) (b p : ℕ) {l : Kind} → join (inside k) b 0 ≡ takes l → join (inside k) b p ≡ takes l
least closed b p e = e
least word b p e = e
least number b p e = keep_least number (is_word (class b)) (eqb b 46) (digit p) e
least operator b p e = e
least (quoted q) b p e = e
least (escaped q) b p e = e

joined : (k : Kind) (b : ℕ) (t r : List ℕ) {l : Kind} → join (inside k) b (peek t) ≡ takes l → join (inside k) b (peek (t ++ r)) ≡ takes l
joined k b [] r e = least k b (peek r) e
joined k b (c ∷ t) r e = e

undigit : (b : ℕ) (t r : List ℕ) → Undigit (b ∷ t) → digits number b (peek (t ++ r)) ≡ ends
undigit b [] r a = keep_most number (is_word (class b)) (eqb b 46) (digit (peek r)) a
undigit b (c ∷ t) r a = a

-- a dot is an operator byte
pub undotted : (b : ℕ) → is_operator (class b) ≡ false → eqb b 46 ≡ false
unfolding class
undotted b e = split (eqb b 46) (λ q. impossible (rw (eqb-true b 46 q) at e)) (λ q. q)

-- ---- a mode that stands at the end of a lexeme

-- a piece of the kind k is whole where it stands
abbrev pub Solid : Kind → Type 0
Solid k = (s i : ℕ) (r : Reading) → flush (inside k) s i r ≡ piece s i r

-- what is left open by a piece of the kind k
abbrev pub left_of : Kind → Left
left_of closed = shut
left_of word = after_word
left_of number = after_number
left_of operator = after_operator
left_of (quoted q) = shut
left_of (escaped q) = shut

pub data Rests : Mode → Left → Type 0 where
  rests_between : Rests between clear
  rests_inside : {k : Kind} → Solid k → Rests (inside k) (left_of k)

pub unsolid : {C : Type 0} (s : ℕ) → refused s ≡ piece s s done → C
unsolid s e = let z : ◌≡◌ {A = ℕ} 0 1 = cc in absurd (omega arith)

-- neither a gap nor a lexeme that is apart is taken
pub rests_gap : {m : Mode} {l : Left} → Rests m l → (b p : ℕ) → class b ≡ Gap → join m b p ≡ ends
rests_gap rests_between b p e = refl
rests_gap (rests_inside {k = closed} d) b p e = refl
rests_gap (rests_inside {k = word} d) b p e = rw e
rests_gap (rests_inside {k = number} d) b p e = rw (e, undotted b (rw e))
rests_gap (rests_inside {k = operator} d) b p e = rw e
rests_gap (rests_inside {k = quoted q} d) b p e = unsolid 0 (d 0 0 done)
rests_gap (rests_inside {k = escaped q} d) b p e = unsolid 0 (d 0 0 done)

pub rests_apart : {m : Mode} {l : Left} → Rests m l → (b : ℕ) (t r : List ℕ) → Apart l (b ∷ t) → join m b (peek (t ++ r)) ≡ ends
rests_apart rests_between b t r a = refl
rests_apart (rests_inside {k = closed} d) b t r a = refl
rests_apart (rests_inside {k = word} d) b t r a = rw a
rests_apart (rests_inside {k = number} d) b t r a = undigit b t r a
rests_apart (rests_inside {k = operator} d) b t r a = rw a
rests_apart (rests_inside {k = quoted q} d) b t r a = unsolid 0 (d 0 0 done)
rests_apart (rests_inside {k = escaped q} d) b t r a = unsolid 0 (d 0 0 done)

-- ---- what is left open does not depend on how the piece goes on

left_keep : (x : Bool) (k : Kind) {l : Kind} → cond x (takes k) ends ≡ takes l → left_of l ≡ left_of k
left_keep true k e = cc
left_keep false k e = cc

left_quote : (x y : Bool) (q : ℕ) → left_of (cond x closed (cond y (escaped q) (quoted q))) ≡ shut
left_quote true y q = refl
left_quote false true q = refl
left_quote false false q = refl

left_join : (k : Kind) (b p : ℕ) {l : Kind} → join (inside k) b p ≡ takes l → left_of l ≡ left_of k
left_join closed b p e = cc
left_join word b p e = left_keep (is_word (class b)) word e
left_join number b p e = left_keep (is_word (class b) || (eqb b 46 && digit p)) number e
left_join operator b p e = left_keep (is_operator (class b)) operator e
left_join (quoted q) b p e = cc (left_quote (eqb b q) (eqb b 92) q)
left_join (escaped q) b p e = cc

left_word : (x : Bool) → left_of (cond x number word) ≡ cond x after_number after_word
left_word true = refl
left_word false = refl

left-begin : (c : Class) (b : ℕ) {k : Kind} → begin c b ≡ opens k → left_of k ≡ leaves c b
left-begin Gap b e = cc
left-begin Single b e = cc
left-begin Quote b e = cc
left-begin Word b {k} e = let f : cond (digit b) number word ≡ k = cc in rw (← f) (left_word (digit b))
left-begin Operator b e = cc
left-begin Unclassed b e = cc

-- ---- a whole lexeme

-- the lexeme w reads as one piece that is the whole of it
abbrev pub ReadsWhole : List ℕ → Type 0
ReadsWhole w = reading w ≡ piece 0 (length w) done

-- the index after w
abbrev pub past : ℕ → List ℕ → ℕ
past i [] = i
past i (b ∷ t) = past (suc i) t

pub past_length : (w : List ℕ) (i : ℕ) → past i w ≡ i + length w
past_length [] i = omega arith
past_length (b ∷ t) i = omega (arith, past_length t (suc i))

-- the open piece of the kind k takes all of t, before any r, and stands whole after it
record Goes (k : Kind) (t : List ℕ) : Type 0 where
  end : Kind
  solid : Solid end
  left : left_of end ≡ left_of k
  reads : (r : List ℕ) (s i : ℕ) → read (t ++ r) (inside k) s i ≡ read r (inside end) s (past i t)

solid : (k : Kind) (s i : ℕ) → flush (inside k) s i done ≡ piece s i done → Solid k
solid closed s i e = λ s i r. refl
solid word s i e = λ s i r. refl
solid number s i e = λ s i r. refl
solid operator s i e = λ s i r. refl
solid (quoted q) s i e = λ s i r. cc
solid (escaped q) s i e = λ s i r. cc

goes_on : {k l : Kind} {b : ℕ} {t : List ℕ} → join (inside k) b (peek t) ≡ takes l → Goes l t → Goes k (b ∷ t)
unfolding read
goes_on {k} {l} {b} {t} q γ = record {
  end = γ.end;
  solid = γ.solid;
  left = γ.left ∙ left_join k b (peek t) q;
  reads = λ r s i. rw (joined k b t r q) (γ.reads r s (suc i));
}

goes : (t : List ℕ) (k : Kind) (s i : ℕ) → read t (inside k) s i ≡ piece s (past i t) done → Goes k t
unfolding read
goes [] k s i e = record { end = k; solid = solid k s i e; left = refl; reads = λ r s i. refl }
goes (b ∷ t) k s i e = go (join (inside k) b (peek t)) refl (λ l. goes t l s (suc i))
  where
    go : (j : Joined) → join (inside k) b (peek t) ≡ j → ((l : Kind) → read t (inside l) s (suc i) ≡ piece s (past (suc i) t) done → Goes l t) → Goes k (b ∷ t)
    go ends q more = absurd (omega (arith, past_length t (suc i), (flushed k (rw q at e)).1))
    go (takes l) q more = goes_on q (more l (rw q at e))

-- w, which is not empty, is taken whole from where a piece may begin, before any r
pub record Lexeme (w : List ℕ) : Type 0 where
  pub head : ℕ
  pub tail : List ℕ
  pub bytes : w ≡ head ∷ tail
  pub end : Kind
  pub rests : Rests (inside end) (left_by w)
  pub reads : (r : List ℕ) (s i : ℕ) → read (w ++ r) between s i ≡ read r (inside end) i (past i w)

pub lexeme : (w : List ℕ) → ReadsWhole w → Lexeme w
unfolding read
lexeme [] e = let z : ◌≡◌ {A = ℕ} 0 1 = cc in absurd (omega arith)
lexeme (b ∷ t) e = go (begin (class b) b) refl
  where
    whole : {k : Kind} → begin (class b) b ≡ opens k → Goes k t → Lexeme (b ∷ t)
    whole {k} q γ =
        let l : left_of γ.end ≡ leaves (class b) b = γ.left ∙ left-begin (class b) b q in
        record { head = b; tail = t; bytes = refl; end = γ.end; rests = rw (← l) (rests_inside γ.solid); reads = λ r s i. rw q (γ.reads r i (suc i)) }

    go : (o : Begun) → begin (class b) b ≡ o → Lexeme (b ∷ t)
    go nothing q = let z : ◌≡◌ {A = ℕ} 0 1 = cc (rw q at e) in absurd (omega arith)
    go blank q = absurd (omega (arith, starts_after t 0 1 (rw q at e)))
    go (opens k) q =
        let p : past 1 t ≡ suc (length t) = omega (arith, past_length t 1) in
        whole q (goes t k 0 1 (rw p (rw q at e)))

-- a byte that an open piece does not take ends it
pub parts : (m : Mode) (b : ℕ) (t : List ℕ) (s i : ℕ) → join m b (peek t) ≡ ends → read (b ∷ t) m s i ≡ flush m s i (read (b ∷ t) between i i)
unfolding read
parts m b t s i e = rw e

-- ---- a piece begun with an operator byte has no other bytes

abbrev pub Operators : List ℕ → Type 0
Operators [] = Unit {0}
Operators (b ∷ t) = (is_operator (class b) ≡ true) × Operators t

operator-run : (t : List ℕ) (s i : ℕ) → read t (inside operator) s i ≡ piece s (past i t) done → Operators t
unfolding read
operator-run [] s i e = tt
operator-run (b ∷ t) s i e =
    split (is_operator (class b)) (λ q. (q, operator-run t s (suc i) (rw q at e)))
    (λ q. absurd (omega (arith, past_length t (suc i), (flushed operator (rw q at e)).1)))

pub whole_operators : (w : List ℕ) → ReadsWhole w → is_operator (class (peek w)) ≡ true → Operators w
unfolding read
whole_operators [] e h = tt
whole_operators (b ∷ t) e h =
    let p : past 1 t ≡ suc (length t) = omega (arith, past_length t 1) in
    (h, operator-run t 0 1 (rw p (rw (operator_of (class b) h) at e)))
