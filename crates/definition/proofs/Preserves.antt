-- Acts that preserve a property of the formatter: P holds after the act where it held before. Assumes nothing.
use Rattle.std.proofs.Common.{Bool, List, ℕ}
use Rattle.shared.proofs.Logic.{either}
use Rattle.definition.specs.Formatter.{Formatter}
use Rattle.definition.specs.Act.{State, Act, run, update, gap, lexeme, insert, comment, ◌⨾◌, choose, nothing}

pub record Preserves (P : Formatter → Type 0) (a : Act) : Type 0 where
  pub kept : (s : State) → P s.formatter → P (run a s).formatter

module _ {P : Formatter → Type 0} where
  pub updated : {g : Formatter → Formatter} → ((f : Formatter) → P f → P (g f)) → Preserves P (update g)
  unfolding run
  updated p = record { kept = λ s h. p s.formatter h }

  pub idle : Preserves P nothing
  idle = updated (λ f h. h)

  -- Bytes that are written change no field.
  pub gapped : {g : Formatter → List ℕ} → Preserves P (gap g)
  unfolding run
  gapped = record { kept = λ s h. h }

  pub worded : {w : List ℕ} → Preserves P (lexeme w)
  unfolding run
  worded = record { kept = λ s h. h }

  pub inserted : {g : Formatter → List ℕ} {w : List ℕ} → Preserves P (insert g w)
  unfolding run
  inserted = record { kept = λ s h. h }

  pub commented : {g : Formatter → List ℕ} → Preserves P (comment g)
  unfolding run
  commented = record { kept = λ s h. h }

  infixr 40 ◌then◌
  pub ◌then◌ : {a b : Act} → Preserves P a → Preserves P b → Preserves P (a ⨾ b)
  unfolding run
  ◌then◌ {a} p q = record { kept = λ s h. q.kept (run a s) (p.kept s h) }

  pub pick : {t : State → Bool} {a b : Act} → Preserves P a → Preserves P b → Preserves P (choose t a b)
  unfolding run
  pick {t} p q = record { kept = λ s h. either (λ (s : State). P s.formatter) (t s) (λ e. p.kept s h) (λ e. q.kept s h) }
