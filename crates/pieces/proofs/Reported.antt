-- No two answers of `read_pieces` have the same report. Assumes nothing.
use mathlib.Core.Bool.{cond}
use Prim.Native.Nat.{ℕ}
use mathlib.Core.Path.{◌≡◌, refl}
use lib.Dec.{eqb}
use Rattle.shared.specs.Report.{Report, unreadable, pieces_full}
use Rattle.shared.proofs.Injective.{injective}
use Rattle.std.specs.Prelude.{Result, Ok, Err}
use Rattle.pieces.specs.declared.ReadError.{ReadError}
use Rattle.pieces.specs.declared.ReadError.TheVariants.{Unreadable, PiecesFull}
use Rattle.pieces.specs.Answer.{reported}

-- the answer that has the report
abbrev answer_of : Report → Result ℕ ReadError
answer_of r =
    cond (eqb r.refusal unreadable) (Err (Unreadable r.first))
    (cond (eqb r.refusal pieces_full) (Err (PiecesFull r.first))
    (Ok r.first))

back : (a : Result ℕ ReadError) → answer_of (reported a) ≡ a
back (Ok n) = refl
back (Err (Unreadable i)) = refl
back (Err (PiecesFull s)) = refl

pub reported_injective : (a b : Result ℕ ReadError) → reported a ≡ reported b → a ≡ b
reported_injective = injective reported answer_of back
