-- Clauses 2 and 3 at one token, by the tests that the code makes. Assumes nothing.
use mathlib.Core.Bool.{Bool, true, false, cond, ◌&&◌, ◌||◌}
use mathlib.Core.List.{List, [], ◌∷◌}
use mathlib.Core.Path.{◌≡◌, refl, ◌∙◌}
use Prim.Native.Nat.{ℕ, ◌≤◌, ◌<◌}
use native.Mathlib.Omega.{arith}
use lib.Dec.{eqb, leb}
use borrow.Author.Tests.{eqb-true, eqb-false, ne_eqb, lt-leb}
use Rattle.shared.specs.Bytes.{same_bytes}
use Rattle.shared.proofs.Bytes.{same_eq}
use Rattle.shared.proofs.Logic.{split, and_left}
use Rattle.shared.proofs.Below.{agree_below}
use Rattle.rows.specs.Kinds.{LeftBrace, RightBrace, LeftParen, RightParen, LeftBracket, RightBracket, Comma, Colon, Semicolon, Question, Dot, DotDot, ColonColon, Hash, Bang, BangHash, Minus, Else}
use Rattle.pieces.specs.Class.{class}
use Rattle.pieces.specs.Reading.{read}
use Rattle.pieces.specs.Sets.{all}
use Rattle.definition.specs.Plain.{operator_byte, only_operators, has_its_lexeme, reads_whole, begins_operator}
use Rattle.plain.specs.Scan.{bracket_of, run_of}
use Rattle.plain.proofs.Runs.{operators_whole}

-- clauses 2 and 3 of a written token
abbrev pub itself : ℕ → List ℕ → Bool
itself k w = has_its_lexeme k w && reads_whole w

-- a kind's lexeme by its bracket b, which reads as one piece and is no operator byte
record ByByte (k b : ℕ) (w : List ℕ) : Type 0 where
  has : has_its_lexeme k w ≡ cond (eqb b 0) (has_its_lexeme k w) (same_bytes w (b ∷ []))
  reads : eqb b 0 || reads_whole (b ∷ []) ≡ true
  begins : begins_operator (b ∷ []) ≡ false

by_byte : (k : ℕ) (w : List ℕ) → ByByte k (bracket_of k) w
unfolding bracket_of has_its_lexeme reads_whole read class
by_byte k w =
    split (eqb k LeftBrace) (λ e. at (eqb-true k LeftBrace e) (record { has = refl; reads = refl; begins = refl }))
    (λ e₁. split (eqb k RightBrace) (λ e. at (eqb-true k RightBrace e) (record { has = refl; reads = refl; begins = refl }))
    (λ e₂. split (eqb k LeftParen) (λ e. at (eqb-true k LeftParen e) (record { has = refl; reads = refl; begins = refl }))
    (λ e₃. split (eqb k RightParen) (λ e. at (eqb-true k RightParen e) (record { has = refl; reads = refl; begins = refl }))
    (λ e₄. split (eqb k LeftBracket) (λ e. at (eqb-true k LeftBracket e) (record { has = refl; reads = refl; begins = refl }))
    (λ e₅. split (eqb k RightBracket) (λ e. at (eqb-true k RightBracket e) (record { has = refl; reads = refl; begins = refl }))
    (λ e₆. split (eqb k Comma) (λ e. at (eqb-true k Comma e) (record { has = refl; reads = refl; begins = refl }))
    (λ e₇. record {
      has = rw (e₁, e₂, e₃, e₄, e₅, e₆, e₇);
      reads = rw (e₁, e₂, e₃, e₄, e₅, e₆, e₇);
      begins = rw (e₁, e₂, e₃, e₄, e₅, e₆, e₇);
    })))))))
  where
    at : {j : ℕ} → k ≡ j → ByByte j (bracket_of j) w → ByByte k (bracket_of k) w
    at e β = rw e β

-- the kinds from LeftBrace to Comma have one
pub bracket_some : (k : ℕ) → 1 < k → k ≤ Comma → bracket_of k ≡ 0 → ⊥
unfolding bracket_of
bracket_some k l h =
    eqb-false (bracket_of k) 0 (agree_below 9 (λ k. eqb (bracket_of k) 0) (λ k. leb k 1) refl k (omega arith) ∙ lt-leb k 1 l)

-- a lexeme that is fixed reads as one piece where what it is to be does
fixed : (w v : List ℕ) → reads_whole v ≡ true → same_bytes w v ≡ same_bytes w v && reads_whole w
fixed w v e = split (same_bytes w v) (λ s. rw (s, same_eq w v s, e)) (λ s. rw s)

module _ (k : ℕ) (w : List ℕ) {b : ℕ} (e : b ≡ bracket_of k) where
  byte : ByByte k b w
  byte = rw e (by_byte k w)

  pub itself_bracket : (b ≡ 0 → ⊥) → same_bytes w (b ∷ []) ≡ itself k w
  itself_bracket n = rw (byte.has, ne_eqb b 0 n) (fixed w (b ∷ []) (rw (ne_eqb b 0 n) at byte.reads))

  pub bracket_begins : same_bytes w (b ∷ []) ≡ true → begins_operator w ≡ false
  bracket_begins s = rw (same_eq w (b ∷ []) s) byte.begins

pub itself_fixed : {k : ℕ} (j : ℕ) (w v : List ℕ) → k ≡ j → has_its_lexeme j w ≡ same_bytes w v → reads_whole v ≡ true → same_bytes w v ≡ itself k w
itself_fixed j w v e h r = rw (e, h) (fixed w v r)

-- a Dot is an operator byte
pub dot_begins : (k : ℕ) (w : List ℕ) → k ≡ Dot → itself k w ≡ true → begins_operator w ≡ true
unfolding has_its_lexeme class
dot_begins k w e i =
    let s : itself Dot w ≡ true = rw e at i in
    rw (same_eq w (46 ∷ []) (and_left (same_bytes w (46 ∷ [])) (reads_whole w) s))

-- a BangHash is a run of operator bytes, which is one piece
only : (w : List ℕ) → only_operators w ≡ all operator_byte w
only [] = refl
only (b ∷ w) = rw (only w)

pub itself_operators : {k : ℕ} (w : List ℕ) → k ≡ BangHash → run_of operator_byte w ≡ itself k w
unfolding has_its_lexeme reads_whole read
itself_operators [] e = rw e
itself_operators (b ∷ w) e = rw (e, only w) (split (run_of operator_byte (b ∷ w)) (λ r. rw (r, operators_whole (b ∷ w) r)) (λ r. rw r))

-- the kinds above Else have no fixed lexeme
pub above_free : (k : ℕ) (w : List ℕ) → Else < k → has_its_lexeme k w ≡ true
unfolding has_its_lexeme
above_free k w h =
    let apart : (j : ℕ) → j < 20 → eqb k j ≡ false = λ j l. ne_eqb k j (λ e. omega arith) in
    rw (apart LeftBrace (omega arith), apart RightBrace (omega arith), apart LeftParen (omega arith), apart RightParen (omega arith), apart LeftBracket (omega arith), apart RightBracket (omega arith), apart Comma (omega arith), apart Colon (omega arith), apart Semicolon (omega arith), apart Question (omega arith), apart Dot (omega arith), apart DotDot (omega arith), apart ColonColon (omega arith), apart Hash (omega arith), apart Bang (omega arith), apart Minus (omega arith), apart Else (omega arith), apart BangHash (omega arith))
