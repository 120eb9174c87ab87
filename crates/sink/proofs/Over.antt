-- Copying in turns, of which the last may go over an earlier one, and a lexeme over a space. Assumes nothing.
use mathlib.Core.List.{List, [], ◌∷◌, ◌++◌, append_assoc}
use mathlib.Core.Path.{◌≡◌, refl, sym, ◌∙◌}
use Prim.Native.Nat.{ℕ, zero, suc, ◌+◌, ◌-◌, ◌≤◌, ◌<◌}
use native.Mathlib.Omega.{arith}
use native.Mathlib.Numerals.{add-one}
use lib.ListN.{length, take, set, get_or, replicate, length-append, length-set, length-take}
use lib.Seq.{slice, slice_empty, length-slice, length-take-le, take-take, take-append-add, take-suc, drop-append-le}
use Rattle.sink.specs.Sink.{Writes}
use borrow.Rule.Slice.PartMut.{put_mid}
use Rattle.sink.proofs.Sink.{later, one, fills}

-- ---- a part that is copied as far as the index i

pub record Agree (i : ℕ) (l m : List ℕ) : Type 0 where
  pub size : length l ≡ length m
  pub within : i ≤ length m
  pub same : take i l ≡ take i m

-- ---- a write over an earlier one

take-over : (l m xs : List ℕ) (n p q j : ℕ) → q ≡ n + j → q ≤ p → n ≤ length l → take p m ≡ take n l ++ xs → take q m ≡ take n l ++ take j xs
take-over l m xs n p q j d b h e =
    let f : length (take n l) + j ≡ q = omega (arith, length-take-le n l h) in
    sym (take-take q p m b) ∙ rw (e, ← f) (take-append-add (take n l) xs j)

-- the second write begins within the first and ends no sooner: what stays of the first are its bytes before
pub overwrite : {l m k : List ℕ} {n p q r : ℕ} {xs ys : List ℕ} (j : ℕ) → j ≤ length xs → length xs ≤ j + length ys → q ≡ n + j → Writes l n xs m p → Writes m q ys k r → Writes l n (take j xs ++ ys) k r
overwrite {l} {m} {k} {n} {p} {q} {r} {xs} {ys} j a b d x y =
    let s = x.size in
    let e : length (take j xs ++ ys) ≡ j + length ys = length-append (take j xs) ys ∙ rw (length-take-le j xs a) in
    record {
      size = y.size ∙ x.size;
      fits = λ h.
          let u = x.fits (omega arith) in
          let uf = u.far in
          let v = y.fits (omega arith) in
          let vf = v.far in
          record {
            far = omega arith;
            text = v.text ∙ rw (take-over l m xs n p q j d (omega arith) (omega arith) u.text) (append_assoc (take n l) (take j xs) ys);
            rest = v.rest ∙ later p r m l (omega arith) u.rest;
          };
      over = λ h. let z = y.over (omega arith) in omega arith;
    }

-- ---- a byte that is written over

-- a space, or none: then the bytes go over it
over-space : {l k xs : List ℕ} {n r : ℕ} (j : ℕ) → j ≤ 1 → n < length l → 1 ≤ length xs → Writes (set l n 32) (n + j) xs k r → Writes l n (replicate j 32 ++ xs) k r
over-space zero h g b w = overwrite zero (omega arith) (omega arith) refl (one g) w
over-space (suc zero) h g b w = overwrite 1 (omega arith) (omega arith) refl (one g) w
over-space (suc (suc j)) h g b w = absurd (omega arith)

over-byte : (l : List ℕ) (n b : ℕ) {k xs : List ℕ} {r : ℕ} → n < length l → 1 ≤ length xs → Writes (set l n b) n xs k r → Writes l n xs k r
over-byte l n b g h w = overwrite 0 (omega arith) (omega arith) (omega arith) (one g) w

-- ---- a lexeme over a space

slice_more : (s e : ℕ) (l : List ℕ) → s ≤ e → e < length l → slice s (e + 1) l ≡ slice s e l ++ (get_or l e 0 ∷ [])
slice_more s e l g h =
    let f : s ≤ length (take e l) = omega (arith, length-take e l) in
    rw (add-one e, take-suc l e 0 h) (drop-append-le s (take e l) (get_or l e 0 ∷ []) f)

slice_one : (s e : ℕ) (l : List ℕ) → e - s ≡ 1 → e ≤ length l → slice s e l ≡ get_or l s 0 ∷ []
slice_one s e l g h =
    let f : e ≡ s + 1 = omega arith in
    rw (f, slice_more s s l (omega arith) (omega arith), slice_empty s l)

module _ (l t : List ℕ) (n j s e : ℕ) (lexeme : (s < e) × (e ≤ length t)) (space : j ≤ 1) (room : n + (j + (e - s)) ≤ length l) where
  abbrev begun : List ℕ
  begun = set (set l n 32) (n + j) (get_or t s 0)

  begun-size : length begun ≡ length l
  begun-size = length-set (set l n 32) (n + j) (get_or t s 0) ∙ length-set l n 32

  -- the lexeme's first byte is written by itself, and is the whole of it
  pub put_one : e - s ≤ 1 → Writes l n (replicate j 32 ++ slice s e t) begun (n + j + (e - s))
  put_one h =
      let d : e - s ≡ 1 = omega arith in
      let f = length-set l n 32 in
      over-space j space (omega arith) (omega (arith, length-slice s e t lexeme.1)) (rw (d, slice_one s e t d lexeme.1) (one (omega arith)))

  -- the whole lexeme is copied over its first byte
  pub put_more : {ys : List ℕ} → ys ≡ slice s e t → Writes l n (replicate j 32 ++ slice s e t) (put_mid (n + j) (n + j + (e - s) - (n + j)) begun ys) (n + j + (e - s))
  put_more y =
      let f = length-set l n 32 in
      let g = begun-size in
      let z = length-slice s e t lexeme.1 in
      over-space j space (omega arith) (omega arith)
      (over-byte (set l n 32) (n + j) (get_or t s 0) (omega arith) (omega arith) (fills (omega arith) (omega arith) (omega arith) y))
