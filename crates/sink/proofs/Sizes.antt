-- Commas and line feeds that are put where they are wanted. Assumes nothing.
use mathlib.Core.Bool.{Bool, true, false, cond, not}
use mathlib.Core.List.{[]}
use mathlib.Core.Path.{◌≡◌}
use Prim.Native.Nat.{ℕ}
use lib.ListN.{replicate}
use Rattle.std.specs.Int.{from_bool}
use Rattle.shared.specs.Bytes.{comma, line_feed}

-- so many commas or line feeds as are wanted
pub wanted_comma : (wanted : Bool) {n : ℕ} → n ≡ from_bool wanted → replicate n 44 ≡ cond wanted comma []
wanted_comma true e = rw e
wanted_comma false e = rw e

pub wanted_feed : (at_line_start : Bool) {n : ℕ} → n ≡ from_bool (not at_line_start) → replicate n 10 ≡ cond at_line_start [] line_feed
wanted_feed true e = rw e
wanted_feed false e = rw e
