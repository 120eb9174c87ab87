-- Writes into a sink, one after the other. Assumes nothing.
use mathlib.Core.List.{List, [], ◌++◌}
use Prim.Native.Nat.{ℕ}
use mathlib.Core.Path.{◌≡◌, refl, ◌∙◌}
use Rattle.sink.specs.declared.write.Sink.{Sink}
use Rattle.sink.specs.Appends.{Appends}
use Rattle.sink.proofs.Sink as lists

pub and_then : {s t u : Sink} {xs ys : List ℕ} → Appends s xs t → Appends t ys u → Appends s (xs ++ ys) u
and_then x y = record { lent = y.lent ∙ x.lent; writes = lists.and_then x.writes y.writes }

pub nothing : {s : Sink} → Appends s [] s
nothing = record { lent = refl; writes = lists.nothing }

pub same_bytes : {s t : Sink} {xs ys : List ℕ} → xs ≡ ys → Appends s xs t → Appends s ys t
same_bytes e w = rw e at w
