-- Bytes that are tested to be the same are the same. Assumes nothing.
use mathlib.Core.Bool.{true}
use mathlib.Core.List.{List, [], ◌∷◌}
use mathlib.Core.Path.{◌≡◌, refl}
use Prim.Native.Nat.{ℕ}
use lib.Dec.{eqb}
use borrow.Author.Tests.{eqb-true}
use Rattle.shared.specs.Bytes.{same_bytes}
use Rattle.shared.proofs.Logic.{impossible', and_left, and_right}

pub same_eq : (u v : List ℕ) → same_bytes u v ≡ true → u ≡ v
same_eq [] [] e = refl
same_eq [] (b ∷ v) e = impossible' e
same_eq (a ∷ u) [] e = impossible' e
same_eq (a ∷ u) (b ∷ v) e =
    let p : a ≡ b = eqb-true a b (and_left (eqb a b) (same_bytes u v) e) in
    let q : u ≡ v = same_eq u v (and_right (eqb a b) (same_bytes u v) e) in
    cc
