-- A row that is stored number by number. Assumes nothing.
use mathlib.Core.List.{List, ◌++◌}
use mathlib.Core.Path.{◌≡◌, ap, ◌∙◌}
use Prim.Native.Nat.{ℕ, ◌+◌}
use native.Mathlib.Omega.{arith}
use lib.ListN.{length, length-append}
use lib.Seq.{sets}
use mir.Syntax.{w32}
use Rattle.std.specs.Int.{to_le_bytes}
use Rattle.shared.proofs.LittleEndian.{length-little_endian, le_bytes}
use Rattle.shared.proofs.Stores.{sets_after}
use Rattle.rows.specs.Row.{row_size}
use Rattle.sheet.specs.Row.{number, row_bytes}

pub row-size : (what kind start end : ℕ) → length (row_bytes what kind start end) ≡ row_size
row-size what kind start end = simp (length-append, length-little_endian)

-- the library's four bytes of a number
pub number_bytes : {bs : List ℕ} {y : ℕ} (x : ℕ) → bs ≡ to_le_bytes w32 y → y ≡ x → bs ≡ number x
number_bytes x e f = e ∙ rw f (le_bytes 4 x)

pub row_stored : (l : List ℕ) (at what kind start end : ℕ) {a b c d : List ℕ} → a ≡ sets l at (number what) →
    b ≡ sets a (at + 4) (number kind) → c ≡ sets b (at + 8) (number start) → d ≡ sets c (at + 12) (number end) →
    d ≡ sets l at (row_bytes what kind start end)
row_stored l at what kind start end p q r s =
    let one = length-little_endian 4 what in
    let two = length-little_endian 4 kind in
    let three = length-little_endian 4 start in
    let first_two = length-append (number what) (number kind) in
    let first_three = length-append (number what ++ number kind) (number start) in
    s
    ∙ ap (λ m. sets m (at + 12) (number end)) (r ∙ ap (λ m. sets m (at + 8) (number start)) (q ∙ ap (λ m. sets m (at + 4) (number kind)) p))
    ∙ ap (λ m. sets (sets m (at + 8) (number start)) (at + 12) (number end)) (sets_after l at (at + 4) (number what) (number kind) (omega arith))
    ∙ ap (λ m. sets m (at + 12) (number end)) (sets_after l at (at + 8) (number what ++ number kind) (number start) (omega arith))
    ∙ sets_after l at (at + 12) (number what ++ number kind ++ number start) (number end) (omega arith)
