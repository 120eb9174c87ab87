use Prim.Native.Nat.{◌≤◌, max}
use lib.ListN.{length}
use Rattle.pieces.specs.Reading.{number}
use Rattle.pieces.proofs.Scan.{Reaches}
use Rattle.pieces.proofs.runs.number_end.Given as goal

abbrev pub invariant-loop-i : goal.invariant-loop-i
invariant-loop-i l = record {
  reached : Reaches l.text number l.from number l.i;
  within : l.i ≤ max l.from (length l.text);
}
