-- `sheet::line::kind_at` meets its contract. Assumes nothing.
use mathlib.Core.Path.{sym}
use Prim.Native.Nat.{◌+◌, ◌-◌, ◌≤◌}
use native.Mathlib.Nat.{min-eq_left}
use native.Mathlib.Omega.{arith}
use lib.ListN.{get_or}
use Rattle.rows.specs.KindNumber.{what_number}
use Rattle.sheet.proofs.Form.{digit_high, second-small, kind-none, kind_one, kind_one_bad, kind_two, kind_two_bad}
use Rattle.sheet.proofs.line.kind_at.Goals as goal

pub returns-then-not-is_ascii_digit : goal.returns-then-not-is_ascii_digit
returns-then-not-is_ascii_digit c = kind-none c.args.sheet.now c.args.at (what_number c.args.what) c.requires (sym c.if-not-is_ascii_digit.ensures.value)

pub returns-then-sheet-at-ne32 : goal.returns-then-sheet-at-ne32
returns-then-sheet-at-ne32 c =
    kind_two_bad c.args.sheet.now c.args.at (what_number c.args.what) c.requires (sym c.if-not-is_ascii_digit.ensures.value) (sym c.if-is_second.ensures) c.if-sheet-at-ne32.true

pub returns-then-is_second : goal.returns-then-is_second
returns-then-is_second c =
    let small = second-small (get_or c.args.sheet.now c.args.at 0 - 48) (get_or c.args.sheet.now (c.args.at + 1) 0) (sym c.if-is_second.ensures) in
    rw (c.of-kind.ensures, c.from.ensures, min-eq_left small)
    (kind_two c.args.sheet.now c.args.at (what_number c.args.what) c.requires (sym c.if-not-is_ascii_digit.ensures.value) (sym c.if-is_second.ensures) c.if-sheet-at-ne32.false)

pub returns-then-second-ne32 : goal.returns-then-second-ne32
returns-then-second-ne32 c =
    kind_one_bad c.args.sheet.now c.args.at (what_number c.args.what) c.requires (sym c.if-not-is_ascii_digit.ensures.value) (sym c.if-is_second.ensures) c.if-second-ne32.true

pub returns : goal.returns
returns c =
    let digit = sym c.if-not-is_ascii_digit.ensures.value in
    let first = get_or c.args.sheet.now c.args.at 0 - 48 in
    let high = digit_high (get_or c.args.sheet.now c.args.at 0) digit in
    let small : first ≤ 34 = omega arith in
    rw (c.of-kind-2.ensures, c.from-2.ensures, min-eq_left small)
    (kind_one c.args.sheet.now c.args.at (what_number c.args.what) c.requires digit (sym c.if-is_second.ensures) c.if-second-ne32.false)
