-- The library's `starts_with` is ours. Assumes nothing.
use mathlib.Core.List.{List, [], ◌∷◌}
use mathlib.Core.Path.{◌≡◌, refl}
use Prim.Native.Nat.{ℕ}
use lib.Dec.{eqb}
use native.Mathlib.Omega.{arith}
use Rattle.std.proofs.lemmas.Bool.Decides.{nat_tests}
use lib.ListN.{length, take}
use lib.Pointwise.{pointwise}
use Rattle.sheet.specs.Line.{begins}

eqb_sym : (a b : ℕ) → eqb a b ≡ eqb b a
eqb_sym a b = grind (arith, nat_tests)

pub begins_is : (p s : List ℕ) → pointwise eqb p (take (length p) s) ≡ begins p s
begins_is [] s = refl
begins_is (c ∷ p) [] = refl
begins_is (c ∷ p) (b ∷ s) = rw (eqb_sym c b, begins_is p s)
