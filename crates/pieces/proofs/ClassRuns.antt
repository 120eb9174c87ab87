-- The runs that `run_end` counts by a set of bytes are those of a class. Assumes nothing.
use mathlib.Core.Bool.{Bool}
use mathlib.Core.List.{List}
use mathlib.Core.Path.{◌≡◌, refl, ◌∙◌}
use Prim.Native.Nat.{ℕ, ◌+◌, ◌<◌}
use lib.ListN.{get_or, drop}
use Rattle.pieces.specs.Class.{class, is_word, is_operator}
use Rattle.pieces.specs.Reading.{word, operator}
use Rattle.pieces.specs.Sets.{run_length, is_gap}
use Rattle.pieces.specs.Ends.{EndsAt}
use Rattle.pieces.proofs.Sets.{gap_set, word_set, operator_set, gaps, words, operators}
use Rattle.pieces.proofs.Scan.{run_agree, run_ends}

module _ (text : List ℕ) (bytes : (i : ℕ) → get_or text i 0 < 256) (from : ℕ) {r : ℕ} where
  counted : (f g : ℕ → Bool) → ((b : ℕ) → b < 256 → f b ≡ g b) → r ≡ from + run_length f (drop from text) → r ≡ from + run_length g (drop from text)
  counted f g agree e = e ∙ rw (run_agree f g agree text bytes from)

  pub gaps_run : r ≡ from + run_length gap_set (drop from text) → r ≡ from + run_length (λ b. is_gap (class b)) (drop from text)
  gaps_run e = counted gap_set (λ b. is_gap (class b)) gaps e

  pub words_end : r ≡ from + run_length word_set (drop from text) → EndsAt text word from r
  words_end e = rw (counted word_set (λ b. is_word (class b)) words e) (run_ends word (λ b. is_word (class b)) (λ b p. refl) (λ s i r. refl) text from)

  pub operators_end : r ≡ from + run_length operator_set (drop from text) → EndsAt text operator from r
  operators_end e = rw (counted operator_set (λ b. is_operator (class b)) operators e) (run_ends operator (λ b. is_operator (class b)) (λ b p. refl) (λ s i r. refl) text from)
