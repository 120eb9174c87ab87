-- What a replay does with the case that it is given. Assumes nothing.
use Rattle.std.specs.Prelude.{◌≡◌, Bool, true, false, ℕ, zero, suc, Result, Ok, Err}

-- A replay whose case answered a: it goes on, or ends with r.
abbrev pub GoesOn : {E : Type 0} → Result Bool E → Type 0 → Result (Unit {0}) E → Type 0
GoesOn (Ok true) P r = P
GoesOn (Ok false) P r = r ≡ Ok tt
GoesOn (Err e) P r = r ≡ Err e

-- From the state f, with l left, n cases at most are called, one after the other, until one is not whole or fails; r is
-- the answer. R tells what a call may answer and leave.
abbrev pub Replays : {F L E : Type 0} → (F → L → Result Bool E → F → L → Type 0) → ℕ → F → L → Result (Unit {0}) E → Type 0
Replays R zero f l r = r ≡ Ok tt
Replays {F} {L} {E} R (suc n) f l r = (a : Result Bool E) × (g : F) × (m : L) × R f l a g m × GoesOn a (Replays R n g m r) r
