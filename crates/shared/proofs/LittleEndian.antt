-- A number and a report written into a lent slice, byte by byte. Assumes nothing.
use mathlib.Core.List.{List, ◌++◌}
use mathlib.Core.Path.{◌≡◌, refl, ap, sym, ◌∙◌}
use Prim.Native.Nat.{ℕ, zero, suc, ◌/◌, ◌%◌, ◌^◌}
use native.Mathlib.Omega.{arith}
use lib.ListN.{length, length-append}
use lib.Seq.{sets}
use Rattle.std.specs.Int.{byte_at, bytes_low_first}
use native.Mathlib.Nat.{pow-suc}
use Rattle.std.proofs.Math.Nat.{div-div-eq-div-mul}
use Rattle.shared.specs.Numbers.{little_endian}
use Rattle.shared.specs.Report.{Report, report_bytes, report_size}
use Rattle.shared.proofs.Stores.{sets_after, sets_whole}

-- ---- a number

pub length-little_endian : (n x : ℕ) → length (little_endian n x) ≡ n
unfolding little_endian
length-little_endian zero x = refl
length-little_endian (suc n) x = rw (length-little_endian n (x / 256))

-- the library's bytes of a number are ours
byte_low : (i x : ℕ) → byte_at i x ≡ x / 256 ^ i % 256
byte_low zero x = omega arith
byte_low (suc i) x = refl

low_first : (i n x : ℕ) → bytes_low_first i n x ≡ little_endian n (x / 256 ^ i)
unfolding little_endian
low_first i zero x = refl
low_first i (suc n) x =
    let q : x / 256 ^ i / 256 ≡ x / 256 ^ suc i = div-div-eq-div-mul x (256 ^ i) 256 ∙ ap (λ m. x / m) (sym (pow-suc 256 i)) in
    rw (byte_low i x, low_first (suc i) n x, q)

pub le_bytes : (n x : ℕ) → bytes_low_first 0 n x ≡ little_endian n x
le_bytes n x = low_first 0 n x ∙ ap (λ y. little_endian n y) (omega arith)

-- ---- a report

-- three numbers, one after another
pub report_stored : (xs : List ℕ) (r : Report) {l m k : List ℕ} → length xs ≡ report_size →
    l ≡ sets xs 0 (little_endian 8 r.first) → m ≡ sets l 8 (little_endian 8 r.second) →
    k ≡ sets m 16 (little_endian 8 r.third) → k ≡ report_bytes r
unfolding report_bytes
report_stored xs r h u v w =
    let p = little_endian 8 r.first in
    let q = little_endian 8 r.second in
    let s = little_endian 8 r.third in
    let a : length p ≡ 8 = length-little_endian 8 r.first in
    let b : length q ≡ 8 = length-little_endian 8 r.second in
    let c : length s ≡ 8 = length-little_endian 8 r.third in
    let d = length-append p q in
    let e = length-append (p ++ q) s in
    w ∙ rw (v, u) (ap (λ l. sets l 16 s) (sets_after xs 0 8 p q (omega arith))) ∙ sets_after xs 0 16 (p ++ q) s (omega arith)
    ∙ sets_whole xs (p ++ q ++ s) (omega arith)
