-- The first line: where it ends, whether it is a shebang, and the loop that puts it into the output. Assumes nothing.
use mathlib.Core.Bool.{Bool, true, false, cond, not, ◌&&◌, false≢true}
use mathlib.Core.List.{List, [], ◌∷◌, ◌++◌}
use mathlib.Core.Path.{◌≡◌, refl, sym, ap, ◌∙◌}
use Prim.Native.Nat.{ℕ, ◌≤◌, ◌<◌}
use native.Mathlib.Omega.{arith}
use lib.Dec.{eqb, ltb}
use lib.ListN.{length, take, drop, get_or}
use borrow.Author.Tests.{eq-eqb, ne_eqb, eqb-true, ltb-false}
use Rattle.shared.proofs.Logic.{split}
use Rattle.shared.specs.Bytes.{byte}
use Rattle.shared.specs.Lines.{first_line}
use Rattle.shared.proofs.Lines.{line_within}
use Rattle.std.specs.Prelude.{Some, None}
use Rattle.std.specs.Option.{unwrap_or}
use Rattle.std.specs.List.{position_or_len, starts_with}
use Rattle.format_source.specs.Source.{is_shebang}

-- ---- the line's end

-- where the first line feed stands, or the source's length
feed_at : (s : List ℕ) → position_or_len (λ b. eqb b (byte "\n")) s ≡ length (first_line [] s)
unfolding first_line
feed_at [] = refl
feed_at (b ∷ s) = split (eqb b (byte "\n")) (λ e. rw e) (λ e. rw (e, feed_at s) (omega arith))

pub line_within_source : (s : List ℕ) → length (first_line [] s) ≤ length s
line_within_source s = line_within [] s (omega arith)

pub line_end : (s : List ℕ) → let p = position_or_len (λ b. eqb b (byte "\n")) s in unwrap_or (cond (ltb p (length s)) (Some p) None) (length s) ≡ length (first_line [] s)
line_end s =
    let h = line_within_source s in
    rw (feed_at s) (split (ltb (length (first_line [] s)) (length s)) (λ e. rw e)
    (λ e. let g = ltb-false (length (first_line [] s)) (length s) e in rw e (omega arith)))

pub line_first_lem : (s : List ℕ) → take (length (first_line [] s)) s ≡ first_line [] s
unfolding first_line
line_first_lem [] = refl
line_first_lem (b ∷ s) = split (eqb b (byte "\n")) (λ e. rw e) (λ e. rw e (ap (λ t. b ∷ t) (line_first_lem s)))

-- ---- the shebang: its bytes are no line feeds, so the source's own bytes tell it

third : (s : List ℕ) → eqb (get_or (first_line [] s) 0 0) (byte "[") ≡ eqb (get_or s 0 0) (byte "[")
unfolding first_line
third [] = refl
third (b ∷ s) = split (eqb b (byte "\n")) (λ e. rw (e, eqb-true b (byte "\n") e)) (λ e. rw e)

second : (s : List ℕ) → (eqb (get_or (first_line [] s) 0 0) (byte "!") && not (eqb (get_or (first_line [] s) 1 0) (byte "["))) ≡ (eqb (get_or s 0 0) (byte "!") && not (eqb (get_or s 1 0) (byte "[")))
unfolding first_line
second [] = refl
second (b ∷ s) = split (eqb b (byte "\n")) (λ e. rw (e, eqb-true b (byte "\n") e)) (λ e. rw (e, third s))

shebang-bytes : (s : List ℕ) → is_shebang (first_line [] s) ≡ is_shebang s
unfolding first_line
shebang-bytes [] = refl
shebang-bytes (b ∷ s) = split (eqb b (byte "\n")) (λ e. rw (e, eqb-true b (byte "\n") e)) (λ e. rw (e, second s))

flip : (a b : ℕ) → eqb a b ≡ eqb b a
flip a b = split (eqb b a) (λ e. let q = eqb-true b a e in rw e (eq-eqb a b (sym q))) (λ e. rw e (ne_eqb a b (λ q. false≢true (sym e ∙ eq-eqb b a (sym q)))))

starts : (x y z : Bool) → (x && (y && true)) && not (x && (y && (z && true))) ≡ x && (y && not z)
starts true true true = refl
starts true true false = refl
starts true false z = refl
starts false y z = refl

starts' : (x y : Bool) → (x && (y && true)) && not (x && (y && false)) ≡ x && (y && true)
starts' true true = refl
starts' true false = refl
starts' false y = refl

starts'' : (x : Bool) → (x && false) && not (x && false) ≡ x && false
starts'' true = refl
starts'' false = refl

-- it begins with the two bytes, and not with the three
shebang_starts : (s : List ℕ) → (starts_with eqb s (35 ∷ 33 ∷ []) && not (starts_with eqb s (35 ∷ 33 ∷ 91 ∷ []))) ≡ is_shebang s
shebang_starts [] = refl
shebang_starts (a ∷ []) = rw (flip 35 a) (starts'' (eqb a 35))
shebang_starts (a ∷ b ∷ []) = rw (flip 35 a, flip 33 b) (starts' (eqb a 35) (eqb b 33))
shebang_starts (a ∷ b ∷ c ∷ s) = rw (flip 35 a, flip 33 b, flip 91 c) (starts (eqb a 35) (eqb b 33) (eqb c 91))

pub shebang_said : (s : List ℕ) → (starts_with eqb s (35 ∷ 33 ∷ []) && not (starts_with eqb s (35 ∷ 33 ∷ 91 ∷ []))) ≡ is_shebang (first_line [] s)
shebang_said s = shebang_starts s ∙ sym (shebang-bytes s)

-- ---- the copy

-- m is d with the first i bytes of s put first
pub record Copied (d s m : List ℕ) (i : ℕ) : Type 0 where
  pub room : length s < length d
  pub within : i ≤ length s
  pub sized : length m ≡ length d
  pub copied : m ≡ take i s ++ drop i d
