-- Writes one after the other, and the loops of the writers. Assumes nothing.
use mathlib.Core.Bool.{Bool, true, false}
use mathlib.Core.List.{List, [], ◌∷◌, ◌++◌, append-nil, append_assoc}
use mathlib.Core.Path.{◌≡◌, refl, sym, ◌∙◌}
use Prim.Native.Nat.{ℕ, ◌+◌, ◌-◌, ◌≤◌, ◌<◌}
use native.Mathlib.Omega.{arith}
use native.Mathlib.Numerals.{add-one}
use borrow.Author.Tests.{leb-true, leb-false}
use lib.Dec.{leb}
use lib.ListN.{length, take, drop, length-drop, set, replicate, length-append, length-set, length-replicate, take-append-drop}
use lib.Seq.{length-take-le, sets, sets-eq, drop-drop, take-suc-set, drop-set-lt}
use borrow.Rule.Slice.PartMut.{put_mid}
use Rattle.std.proofs.lemmas.Slice.{take-put_mid, drop-put_mid}
use Rattle.shared.proofs.Logic.{split}
use Rattle.sink.specs.Sink.{Writes}

pub later : (i j : ℕ) (k l : List ℕ) → i ≤ j → drop i k ≡ drop i l → drop j k ≡ drop j l
later i j k l h e =
    let f : i + (j - i) ≡ j = omega arith in
    rw (← f) (sym (drop-drop (j - i) i k) ∙ rw e (drop-drop (j - i) i l))

pub nothing : {l : List ℕ} {n : ℕ} → Writes l n [] l n
nothing {l} {n} = record {
  size = refl;
  fits = λ h. record { far = omega arith; text = sym (append-nil (take n l)); rest = refl };
  over = λ h. omega arith;
}

pub and_then : {l m k : List ℕ} {n p q : ℕ} {xs ys : List ℕ} → Writes l n xs m p → Writes m p ys k q → Writes l n (xs ++ ys) k q
and_then {l} {m} {k} {n} {p} {q} {xs} {ys} x y = record {
  size = y.size ∙ x.size;
  fits = λ h.
      let e = length-append xs ys in
      let s = x.size in
      let u = x.fits (omega arith) in
      let uf = u.far in
      let v = y.fits (omega arith) in
      let vf = v.far in
      record {
        far = omega arith;
        text = v.text ∙ rw u.text (append_assoc (take n l) xs ys);
        rest = v.rest ∙ later p q m l (omega arith) u.rest;
      };
  over = λ h. go h (leb (n + length xs) (length l)) refl;
}
  where
    go : length l < n + length (xs ++ ys) → (z : Bool) → leb (n + length xs) (length l) ≡ z → length l < q
    go h true e =
        let f = length-append xs ys in
        let s = x.size in
        let uf = (x.fits (leb-true _ _ e)).far in
        let w = y.over (omega arith) in
        omega arith
    go h false e =
        let s = x.size in
        let u = x.over (leb-false _ _ e) in
        let w = y.over (omega arith) in
        omega arith

pub same_bytes_lem : {l m : List ℕ} {n r : ℕ} {xs ys : List ℕ} → xs ≡ ys → Writes l n xs m r → Writes l n ys m r
same_bytes_lem e w = rw e at w

pub one : {l : List ℕ} {n b : ℕ} → n < length l → Writes l n (b ∷ []) (set l n b) (n + 1)
one {l} {n} {b} h = record {
  size = length-set l n b;
  fits = λ g. record {
    far = refl;
    text = rw (add-one n) (take-suc-set l n b h);
    rest = drop-set-lt (n + 1) l n b (omega arith);
  };
  over = λ g. omega arith;
}

-- a part of the output is written as a whole: what it holds now is ys
pub fills : {l xs ys : List ℕ} {n e : ℕ} → n ≤ e → e ≤ length l → length xs ≡ e - n → ys ≡ xs → Writes l n xs (put_mid n (e - n) l ys) e
fills {l} {xs} {ys} {n} {e} a b c d =
    let f : length ys ≡ e - n = rw d c in
    let far : e ≡ n + length ys = omega arith in
    let h : n ≤ length l = omega arith in
    rw (← d) (record {
      size = simp (length-append, length-drop, length-take-le n l h) (omega (arith, length-take-le n l h));
      fits = λ g. record {
        far = far;
        text = take-put_mid n (e - n) l ys e far h;
        rest = drop-put_mid n (e - n) l ys e (omega arith) h f;
      };
      over = λ g. omega arith;
    })

-- the same byte in each place of a part
pub each :
    {l ys : List ℕ} {n : ℕ} (k b : ℕ) → n + k ≤ length l → ys ≡ replicate (length (take (n + k - n) (drop n l))) b
    → Writes l n (replicate k b) (put_mid n (n + k - n) l ys) (n + k)
each {l} {ys} {n} k b h e =
    let w : n + k - n ≡ k = omega arith in
    let z : length (take k (drop n l)) ≡ k = length-take-le k (drop n l) (omega (arith, length-drop n l)) in
    fills (omega arith) h (omega (arith, length-replicate {A = ℕ} k b)) (e ∙ rw (w, z))

-- ---- bytes that have been written

joined : (l m xs : List ℕ) (n r : ℕ) → r ≡ n + length xs → take r m ≡ take n l ++ xs → drop r m ≡ drop r l →
    m ≡ take n l ++ xs ++ drop (n + length xs) l
joined l m xs n r f t d = sym (take-append-drop r m) ∙ rw (t, d, f)

module _ {l : List ℕ} {n : ℕ} {xs m : List ℕ} {r : ℕ} (w : Writes l n xs m r) where
  -- where they fit, they are stored from n on
  pub wrote_sets : n + length xs ≤ length l → m ≡ sets l n xs
  wrote_sets h = joined l m xs n r (w.fits h).far (w.fits h).text (w.fits h).rest ∙ sym (sets-eq xs l n h)

  -- they fit exactly if the length is not past the end
  pub within-fits : r ≤ length l → n + length xs ≤ length l
  within-fits h = split (leb (n + length xs) (length l)) (λ e. leb-true _ _ e) (λ e. let o = w.over (leb-false _ _ e) in absurd (omega arith))
