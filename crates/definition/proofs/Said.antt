-- What an act writes, apart from what it does to the formatter: the form in which code is proved to do it. Assumes nothing.
use Rattle.std.proofs.Common.{◌≡◌, ℕ, cond, List, [], ◌∷◌, ◌++◌, sym, refl, ◌∙◌, append_assoc, append-nil}
use Rattle.shared.proofs.Logic.{split}
use Rattle.definition.specs.Act.{State, Act, update, gap, lexeme, insert, comment, ◌⨾◌, choose, run}

unfoldable pub said : Act → State → List ℕ
said (update g) s = []
said (gap g) s = g s.formatter
said (lexeme w) s = w
said (insert g w) s = 44 ∷ g s.formatter ++ w
said (comment g) s = g s.formatter
said (a ⨾ b) s = said a s ++ said b (run a s)
said (choose t a b) s = cond (t s) (said a s) (said b s)

pub run_said : (a : Act) (s : State) → (run a s).out ≡ s.out ++ said a s
unfolding run said
run_said (update g) s = sym (append-nil s.out)
run_said (gap g) s = refl
run_said (lexeme w) s = refl
run_said (insert g w) s = refl
run_said (comment g) s = refl
run_said (a ⨾ b) s = run_said b (run a s) ∙ rw (run_said a s) (append_assoc s.out (said a s) (said b (run a s)))
run_said (choose t a b) s = split (t s) (λ e. rw e (run_said a s)) (λ e. rw e (run_said b s))
