-- Lexemes that are told to read as one piece without reading them: where the piece that the first byte begins ends with the lexeme. Assumes nothing.
use mathlib.Core.Bool.{true, false, cond}
use mathlib.Core.List.{List}
use mathlib.Core.Path.{◌≡◌, refl, sym, ◌∙◌}
use Prim.Native.Nat.{ℕ, ◌+◌, ◌-◌, ◌<◌}
use native.Mathlib.Omega.{arith}
use lib.Dec.{eqb}
use lib.ListN.{length, get_or, take, drop}
use borrow.Author.Tests.{eqb-true, eq-eqb}
use Rattle.shared.specs.Bytes.{digit}
use Rattle.pieces.specs.declared.bytes.Class.TheVariants.{Word}
use Rattle.pieces.specs.Class.{class, is_word, is_operator}
use Rattle.pieces.specs.Reading.{Kind, word, number, quoted, between, opens, begin}
use Rattle.pieces.specs.Sets.{all, run_length, is_quote}
use Rattle.pieces.specs.Ends.{EndsAt, ordinary}
use Rattle.pieces.proofs.Sets.{quote_of, word_of}
use Rattle.pieces.proofs.Scan.{begins, at-end, reaches_start, run-stop, run-all}
use Rattle.pieces.proofs.Quote.{stops, quote_closed}
use Rattle.definition.specs.Plain.{reads_whole}
use Rattle.plain.specs.Scan.{IsValue}
use Rattle.plain.proofs.Bytes.{operator-first}
use Rattle.plain.proofs.Runs.{only_words}

digit_word : (b : ℕ) → b < 256 → digit b ≡ true → is_word (class b) ≡ true
unfolding class
digit_word = only_words digit refl

module _ (w : List ℕ) (some : 0 < length w) where
  abbrev first : ℕ
  first = get_or w 0 0

  ends-whole : {k : Kind} {e : ℕ} → begin (class first) first ≡ opens k → EndsAt w k (0 + 1) e → eqb e (length w) ≡ true → reads_whole w ≡ true
  unfolding reads_whole
  ends-whole {k} {e} o ε q =
      let z = eqb-true e (length w) q in
      rw (begins w 0 some o, ε.reads 0, at-end w between e e (omega arith), q)

  value : is_operator (class first) ≡ false → reads_whole w ≡ true → IsValue w
  value o r = (r, sym (operator-first w (λ z. omega arith)) ∙ o)

  -- the byte q, which the code has at hand, is the first
  module _ {q : ℕ} (b : q ≡ first) where
    pub number_value : {e : ℕ} → q < 256 → digit q ≡ true → EndsAt w (cond (digit q) number word) 1 e → eqb e (length w) ≡ true → IsValue w
    number_value h d ε y =
        let c : class first ≡ Word = rw (← b) (word_of (class q) (digit_word q h d)) in
        value (rw c) (ends-whole (rw (c, ← b)) ε y)

    pub quote_value : {e : ℕ} → is_quote (class q) ≡ true → e ≡ 1 + run_length (ordinary q) (drop 1 w) → e ≡ length w - 1 → get_or w e 0 ≡ q → IsValue w
    quote_value {e} c h l f =
        let o : begin (class first) first ≡ opens (quoted q) = rw (← b, quote_of (class q) c) in
        value (rw (← b, quote_of (class q) c)) (ends-whole o (quote_closed (stops reaches_start h) (omega arith) f) (eq-eqb (e + 1) (length w) (omega arith)))

    -- where the bytes between the first and the last are tested at once
    pub long_value : is_quote (class q) ≡ true → 1 < length w → get_or w (length w - 1) 0 ≡ q → all (ordinary q) (take (length w - 1 - 1) (drop 1 w)) ≡ true → IsValue w
    long_value c h f e =
        let z : 1 + (length w - 1 - 1) ≡ length w - 1 = omega arith in
        let stop = run-stop (ordinary q) w (length w - 1) (omega arith) (rw (f, eq-eqb q q refl)) in
        let more = run-all (ordinary q) (length w - 1 - 1) w 1 (omega arith) e in
        quote_value c (stop ∙ (rw z at more)) refl f
