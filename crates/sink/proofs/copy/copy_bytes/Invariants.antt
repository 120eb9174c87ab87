use Rattle.sink.proofs.Over.{Agree}
use Rattle.sink.proofs.copy.copy_bytes.Given as goal

abbrev pub invariant-loop-i : goal.invariant-loop-i
invariant-loop-i l = Agree l.i l.place l.part
