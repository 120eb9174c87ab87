-- What a step of the walk does to the formatter, and what it writes. The arms of `push_token` are acts.
-- Assumes nothing.
use Rattle.std.specs.Prelude.{ℕ, ◌+◌, Bool, cond, List, ◌++◌}
use Rattle.shared.specs.Bytes.{comma}
use Rattle.definition.specs.Formatter.{Formatter}

-- The formatter, `out`, and the number of inserted commas in it.
pub record State : Type 0 where
  pub formatter : Formatter
  pub out : List ℕ
  pub commas : ℕ

abbrev pub state : Formatter → List ℕ → ℕ → State
state f out n = record { formatter = f; out = out; commas = n }

infixr 40 ◌⨾◌
--     update g        the formatter becomes g of it, nothing is written
--     gap g           bytes are written that stand between lexemes
--     lexeme w        a token's bytes are written
--     insert g w      an inserted comma, a gap, and the closer w are written
--     comment g       a comment's bytes are written
--     a ⨾ b           one after the other
--     choose t a b    a where the test t holds, else b
pub data Act : Type 0 where
  update : (Formatter → Formatter) → Act
  gap : (Formatter → List ℕ) → Act
  lexeme : List ℕ → Act
  insert : (Formatter → List ℕ) → List ℕ → Act
  comment : (Formatter → List ℕ) → Act
  ◌⨾◌ : Act → Act → Act
  choose : (State → Bool) → Act → Act → Act

unfoldable pub run : Act → State → State
run (update g) s = state (g s.formatter) s.out s.commas
run (gap g) s = state s.formatter (s.out ++ g s.formatter) s.commas
run (lexeme w) s = state s.formatter (s.out ++ w) s.commas
run (insert g w) s = state s.formatter (s.out ++ (comma ++ g s.formatter ++ w)) (s.commas + 1)
run (comment g) s = state s.formatter (s.out ++ g s.formatter) s.commas
run (a ⨾ b) s = run b (run a s)
run (choose t a b) s = cond (t s) (run a s) (run b s)

abbrev pub nothing : Act
nothing = update (λ f. f)

-- by a test of the formatter alone
abbrev pub if : (Formatter → Bool) → Act → Act → Act
if t a b = choose (λ s. t s.formatter) a b
