use mathlib.Core.Path.{◌≡◌}
use lib.ListN.{take, replicate}
use Rattle.sink.proofs.put.put_each.Given as goal

abbrev pub invariant-loop-byte : goal.invariant-loop-byte
invariant-loop-byte l = take l.byte-index l.place ≡ replicate l.byte-index l.b
