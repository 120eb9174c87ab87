-- The loop of `read_text`: the text so far has been written, and what is left of the line completes it. Assumes nothing.
use mathlib.Core.Bool.{true, false}
use mathlib.Core.List.{List, [], ◌∷◌, ◌++◌}
use mathlib.Core.Option.{Option, none, some}
use mathlib.Core.Path.{◌≡◌, refl, sym, ◌∙◌}
use Prim.Native.Nat.{ℕ, ◌+◌, ◌≤◌, ◌<◌}
use native.Mathlib.Omega.{arith}
use lib.ListN.{length, get_or}
use borrow.Author.Tests.{ne_eqb}
use Rattle.sink.specs.Sink.{Writes}
use Rattle.sink.proofs.Sink.{and_then}
use Rattle.sheet.specs.Line.{with_byte, text_of}
use Rattle.sheet.specs.Steps.{line_at, after_at, Escapes, Texted}
use Rattle.sheet.proofs.Cut.{line_none, line_here, line_more, rest_more, rest_feed}

abbrev with_bytes : List ℕ → Option (List ℕ) → Option (List ℕ)
with_bytes [] t = t
with_bytes (b ∷ bs) t = with_byte b (with_bytes bs t)

bytes_then : (bs : List ℕ) (b : ℕ) (t : Option (List ℕ)) → with_bytes bs (with_byte b t) ≡ with_bytes (bs ++ (b ∷ [])) t
bytes_then [] b t = refl
bytes_then (c ∷ bs) b t = rw (bytes_then bs b t)

bytes-end : (bs : List ℕ) → with_bytes bs (some []) ≡ some bs
bytes-end [] = refl
bytes-end (b ∷ bs) = rw (bytes-end bs)

bytes_wrong : (bs : List ℕ) → with_bytes bs none ≡ none
bytes_wrong [] = refl
bytes_wrong (b ∷ bs) = rw (bytes_wrong bs)

-- ---- after a backslash

module _ (sheet : List ℕ) (i : ℕ) where
  pub escape_out : length sheet ≤ i → text_of true (line_at sheet i) ≡ none
  unfolding text_of
  escape_out h = rw (line_none sheet i h)

  module _ (h : i < length sheet) where
    pub escape_other : (get_or sheet i 0 ≡ 110 → ⊥) → (get_or sheet i 0 ≡ 92 → ⊥) → text_of true (line_at sheet i) ≡ none
    unfolding text_of
    escape_other n m = rw (line_here sheet i h, ne_eqb (get_or sheet i 0) 110 n, ne_eqb (get_or sheet i 0) 92 m)

    -- a byte that may stand there, and what it makes
    escape_some : (c b : ℕ) → (c ≡ 10 → ⊥) → ((t : List ℕ) → text_of true (c ∷ t) ≡ with_byte b (text_of false t)) → get_or sheet i 0 ≡ c → Escapes sheet i b
    escape_some c b n f e =
        let solid : get_or sheet i 0 ≡ 10 → ⊥ = λ q. n (sym e ∙ q) in
        record { makes = rw (line_more sheet i h solid, e) (f (line_at sheet (i + 1))); rest = rest_more sheet i h solid; within = h }

    pub escape_feed : get_or sheet i 0 ≡ 110 → Escapes sheet i 10
    unfolding text_of
    escape_feed e = escape_some 110 10 (λ q. omega arith) (λ t. refl) e

    pub escape_backslash : get_or sheet i 0 ≡ 92 → Escapes sheet i 92
    unfolding text_of
    escape_backslash e = escape_some 92 92 (λ q. omega arith) (λ t. refl) e

-- ---- the loop

-- at its head: the text from `from` to i has been written after len bytes of text₀
pub record Scanned (sheet : List ℕ) (from : ℕ) (text₀ : List ℕ) (len : ℕ) (text : List ℕ) (i m : ℕ) : Type 0 where
  pub bs : List ℕ
  pub says : text_of false (line_at sheet from) ≡ with_bytes bs (text_of false (line_at sheet i))
  pub rest : after_at sheet from ≡ after_at sheet i
  pub after : from ≤ i
  pub within : i ≤ length sheet
  pub wrote : Writes text₀ len bs text m

module _ {sheet : List ℕ} {from : ℕ} {text₀ : List ℕ} {len : ℕ} {text : List ℕ} {i m : ℕ} (σ : Scanned sheet from text₀ len text i m) where
  pub scan_out : length sheet ≤ i → text_of false (line_at sheet from) ≡ none
  unfolding text_of
  scan_out h = σ.says ∙ rw (line_none sheet i h) (bytes_wrong σ.bs)

  module _ (h : i < length sheet) where
    pub scan_feed : get_or sheet i 0 ≡ 10 → Texted sheet from text₀ len (i + 1) m text
    unfolding text_of
    scan_feed e = record {
      bs = σ.bs;
      says = σ.says ∙ rw (line_here sheet i h, e) (bytes-end σ.bs);
      rest = σ.rest ∙ rest_feed sheet i h e;
      after = omega (arith, σ.after);
      within = omega arith;
      wrote = σ.wrote;
    }

    module _ (n : get_or sheet i 0 ≡ 10 → ⊥) where
      module _ (b : get_or sheet i 0 ≡ 92) where
        escaped_here : text_of false (line_at sheet i) ≡ text_of true (line_at sheet (i + 1))
        unfolding text_of
        escaped_here = rw (line_more sheet i h n, b)

        pub scan_wrong : text_of true (line_at sheet (i + 1)) ≡ none → text_of false (line_at sheet from) ≡ none
        scan_wrong ε = σ.says ∙ rw (escaped_here, ε) (bytes_wrong σ.bs)

        pub scan_escaped : {e m' : ℕ} {text' : List ℕ} → Escapes sheet (i + 1) e → Writes text m (e ∷ []) text' m' → Scanned sheet from text₀ len text' (i + 1 + 1) m'
        scan_escaped {e} ε w = record {
          bs = σ.bs ++ (e ∷ []);
          says = σ.says ∙ rw (escaped_here, ε.makes) (bytes_then σ.bs e _);
          rest = σ.rest ∙ rest_more sheet i h n ∙ ε.rest;
          after = omega (arith, σ.after);
          within = omega (arith, ε.within);
          wrote = and_then σ.wrote w;
        }

      pub scan_plain : {m' : ℕ} {text' : List ℕ} → (get_or sheet i 0 ≡ 92 → ⊥) → Writes text m (get_or sheet i 0 ∷ []) text' m' → Scanned sheet from text₀ len text' (i + 1) m'
      unfolding text_of
      scan_plain b w = record {
        bs = σ.bs ++ (get_or sheet i 0 ∷ []);
        says = σ.says ∙ rw (line_more sheet i h n, ne_eqb (get_or sheet i 0) 10 n, ne_eqb (get_or sheet i 0) 92 b) (bytes_then σ.bs (get_or sheet i 0) _);
        rest = σ.rest ∙ rest_more sheet i h n;
        after = omega (arith, σ.after);
        within = omega arith;
        wrote = and_then σ.wrote w;
      }
