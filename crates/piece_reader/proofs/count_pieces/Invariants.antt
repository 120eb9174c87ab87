use Prim.Native.Nat.{◌-◌}
use mathlib.Core.Path.{◌≡◌}
use lib.ListN.{length}
use Rattle.piece_reader.proofs.Counting.{Counts}
use Rattle.piece_reader.proofs.count_pieces.Given as goal

abbrev pub invariant-loop-n : goal.invariant-loop-n
invariant-loop-n l = record { text : l.reader.text.now ≡ l.text; counts : Counts l.text l.reader.at l.n }

abbrev pub decreases-loop-n : goal.decreases-loop-n
decreases-loop-n l = length l.text - l.reader.at
