use Prim.Native.Nat.{◌-◌}
use lib.ListN.{length}
use Rattle.sheet.proofs.Scanning.{Scanned}
use Rattle.sheet.proofs.line.read_text.Given as goal

abbrev pub invariant-loop-i : goal.invariant-loop-i
invariant-loop-i l = Scanned l.sheet l.from l.initial.text l.len l.text l.i l.end

abbrev pub decreases-loop-i : goal.decreases-loop-i
decreases-loop-i l = length l.sheet - l.i
