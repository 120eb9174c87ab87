-- What holds behind an act, taken apart by the act's form. Assumes nothing.
use Rattle.std.proofs.Common.{◌≡◌, ℕ, Bool, true, false, eqb, List, [], ◌∷◌, eqb-true}
use Rattle.shared.specs.Bytes.{one_of}
use Rattle.shared.proofs.Logic.{impossible', or_cases, either}
use Rattle.definition.specs.Formatter.{Formatter}
use Rattle.definition.specs.Act.{State, state, Act, run, update, choose, ◌⨾◌}

-- one of a list of kinds
abbrev pub Each : List ℕ → ℕ → Type 0 → Type 0
Each [] k C = Unit {0}
Each (j ∷ js) k C = (k ≡ j → C) × Each js k C

pub among : {C : Type 0} (js : List ℕ) (k : ℕ) → one_of js k ≡ true → Each js k C → C
among [] k e fs = impossible' e
among (j ∷ js) k e fs = or_cases (eqb k j) (one_of js k) e (λ h. fs.0 (eqb-true k j h)) (λ h. among js k h fs.1)

-- P holds of the state to which the act a takes s
pub record After (P : State → Type 0) (a : Act) (s : State) : Type 0 where
  pub holds : P (run a s)

pub chosen : {P : State → Type 0} {t : State → Bool} {a b : Act} {s : State} → (t s ≡ true → After P a s) → (t s ≡ false → After P b s) → After P (choose t a b) s
unfolding run
chosen {P} {t} {a} {b} {s} f g = record { holds = either P (t s) (λ e. (f e).holds) (λ e. (g e).holds) }

pub in_turn : {P : State → Type 0} {a b : Act} {s : State} → After (After P b) a s → After P (a ⨾ b) s
unfolding run
in_turn p = record { holds = p.holds.holds }

pub first : {P : State → Type 0} {g : Formatter → Formatter} {b : Act} (s : State) → After P b (state (g s.formatter) s.out s.commas) → After P (update g ⨾ b) s
unfolding run
first s p = record { holds = p.holds }

pub last : {P : State → Type 0} {g : Formatter → Formatter} {b : Act} (s : State) → After (λ s. P (state (g s.formatter) s.out s.commas)) b s → After (After P (update g)) b s
unfolding run
last s p = record { holds = record { holds = p.holds } }

pub implied : {P Q : State → Type 0} {a : Act} {s : State} → ((s : State) → P s → Q s) → After P a s → After Q a s
implied {a = a} {s = s} f p = record { holds = f (run a s) p.holds }
