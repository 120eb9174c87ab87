-- The tests that the code makes of kinds and of what it has seen. Assumes nothing.
use mathlib.Core.Bool.{Bool, true, false, cond, not, ◌&&◌, ◌||◌, and-false, and-true}
use mathlib.Core.List.{List, [], ◌∷◌}
use mathlib.Core.Path.{◌≡◌, refl, sym, ◌∙◌}
use Prim.Native.Nat.{ℕ, ◌≤◌, ◌<◌}
use native.Mathlib.Omega.{arith}
use lib.Dec.{eqb, leb, ltb}
use borrow.Author.Tests.{eqb-true, ne_eqb, leb-true, leb-false}
use Rattle.shared.specs.Bytes.{same_bytes}
use Rattle.shared.proofs.Logic.{split, impossible, impossible'}
use Rattle.shared.proofs.Below.{agree_below}
use Rattle.rows.specs.Kinds.{Eof, Newline, LeftBrace, RightBrace, Comma, Dot, DotDot, ColonColon, Hash, Bang, BangHash, Minus, Else}
use Rattle.definition.specs.Plain.{reads_whole, begins_operator, tight_before, tight_after}
use Rattle.plain.specs.Scan.{Facts, mute, forbids, meets, fits, is_word_byte, run_of, bracket_of}
use Rattle.plain.proofs.Runs.{words_whole, words_begin}
use Rattle.plain.proofs.Fixed.{itself, itself_bracket, bracket_begins, dot_begins, above_free}

pub not_mute : (k : ℕ) → 1 < k → mute k ≡ false
not_mute k h = rw (ne_eqb k Eof (λ e. omega arith), ne_eqb k Newline (λ e. omega arith))

-- ---- the tight kinds before are those from Dot to Minus

tight-none : (k : ℕ) → ((j : ℕ) → Dot ≤ j → j ≤ Minus → k ≡ j → ⊥) → tight_before k ≡ false
tight-none k n =
    let apart : (j : ℕ) → Dot ≤ j → j ≤ Minus → eqb k j ≡ false = λ j l m. ne_eqb k j (n j l m) in
    rw (apart Dot (omega arith) (omega arith), apart DotDot (omega arith) (omega arith), apart ColonColon (omega arith) (omega arith), apart Hash (omega arith) (omega arith), apart Bang (omega arith) (omega arith), apart BangHash (omega arith) (omega arith), apart Minus (omega arith) (omega arith))

pub tight_high : (k : ℕ) → Minus < k → false ≡ tight_before k
tight_high k h = sym (tight-none k (λ j l m e. omega arith))

-- a written kind that is no bracket
pub past_brackets : (k : ℕ) → mute k ≡ false → ltb Newline k && leb k Comma ≡ false → Comma < k
past_brackets k m b =
    split (leb k Comma)
    (λ q.
    let l : k < 9 = omega (arith, leb-true k Comma q) in
    let some = agree_below 9 (λ k. mute k || (ltb Newline k && leb k Comma)) (λ k. true) refl k l in
    impossible' (rw (m, b) at some))
    (λ q. omega (arith, leb-false k Comma q))

-- ---- whether a written token fits

module _ (q : Facts) (k : ℕ) (w : List ℕ) where
  pub fits_not : 1 < k → itself k w ≡ false → false ≡ fits q k w
  fits_not h e = sym (rw (not_mute k h, e, and-false (not (forbids q k))))

  -- a bracket of the byte b meets no operator byte
  module _ (h : 1 < k) {b : ℕ} (e : b ≡ bracket_of k) (n : b ≡ 0 → ⊥) where
    pub bracket_not : same_bytes w (b ∷ []) ≡ false → false ≡ fits q k w
    bracket_not s = fits_not h (sym (itself_bracket k w e n) ∙ s)

    pub bracket_fits : same_bytes w (b ∷ []) ≡ true → {x : Bool} → x ≡ forbids q k → not x ≡ fits q k w
    bracket_fits s f =
        rw (f, not_mute k h, sym (itself_bracket k w e n) ∙ s, bracket_begins k w e s, and-false q.operator)
        (sym (and-true (not (forbids q k))))

  module _ (h : Comma < k) (i : itself k w ≡ true) where
    not_brace : (j : ℕ) → j ≤ Comma → eqb k j ≡ false
    not_brace j l = ne_eqb k j (λ z. omega arith)

    -- a Dot begins with an operator byte
    not_dot : begins_operator w ≡ false → eqb k Dot ≡ false
    not_dot b = split (eqb k Dot) (λ e. impossible (sym (dot_begins k w (eqb-true k Dot e) i) ∙ b)) (λ e. e)

    pub fits_apart : begins_operator w ≡ false → true ≡ fits q k w
    fits_apart b = sym (rw (not_mute k (omega arith), not_dot b, not_brace LeftBrace (omega arith), not_brace RightBrace (omega arith), i, b, and-false q.operator))

    pub fits-operator : begins_operator w ≡ true → {x : Bool} → x ≡ meets q k → not x ≡ fits q k w
    fits-operator b m =
        rw (m, not_mute k (omega arith), not_brace LeftBrace (omega arith), not_brace RightBrace (omega arith), i, b)
        (both (eqb k Dot) q.digit q.operator (q.tight || tight_after k))
      where
        both : (d g o x : Bool) → not (d && g || o && x) ≡ not (cond d g false) && not (o && x)
        both true true o x = refl
        both true false o x = refl
        both false g o x = refl

    -- as the code joins the two tests
    pub fits_joined : {x : Bool} → x ≡ begins_operator w && meets q k → not x ≡ fits q k w
    fits_joined {x} e =
        split (begins_operator w) (λ b. fits-operator b (rw b at e))
        (λ b. let z : x ≡ false = rw b at e in rw z (fits_apart b))

-- a kind above those with fixed lexemes
module _ (q : Facts) (k : ℕ) (w : List ℕ) (h : Else < k) where
  pub free_itself : reads_whole w ≡ itself k w
  free_itself = sym (rw (above_free k w h))

  pub words_fit : run_of is_word_byte w ≡ true → fits q k w ≡ true
  words_fit e = sym (fits_apart q k w (omega arith) (sym free_itself ∙ words_whole w e) (words_begin w e))
