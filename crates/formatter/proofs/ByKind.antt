-- The arm of a kind. Assumes nothing.
use mathlib.Core.List.{List}
use mathlib.Core.Path.{◌≡◌}
use Prim.Native.Nat.{ℕ}
use Rattle.rows.specs.Kinds.{Eof, Newline, LeftBrace, RightBrace, LeftParen, RightParen, LeftBracket, RightBracket, Comma, Else}
use borrow.Author.Tests.{ne_eqb}
use Rattle.rows.specs.Options.{Options}
use Rattle.rows.specs.Token.{Token}
use Rattle.definition.specs.Act.{nothing}
use Rattle.definition.specs.Arms.{newline_arm, right_brace_arm, left_brace_arm, left_paren_arm, left_bracket_arm, right_paren_arm, right_bracket_arm, comma_arm, else_arm, other_arm}
use Rattle.definition.specs.PushToken.{arm}
use Rattle.formatter.specs.CodeState.{Locals, CodeState}
use Rattle.formatter.specs.Does.{Does}
use Rattle.formatter.proofs.Does.{yes, no}

module _ (o : Options) (i : ℕ) (t : Token) (ts : List Token) {x : Locals} {p q : CodeState} where
  pub at_eof : t.kind ≡ Eof → Does nothing x p q → Does (arm o i t ts) x p q
  at_eof e d = yes (λ n. rw e) d

  pub at_newline : t.kind ≡ Newline → Does (newline_arm i ts) x p q → Does (arm o i t ts) x p q
  at_newline e d = no (λ n. rw e) (yes (λ n. rw e) d)

  pub at-right_brace : t.kind ≡ RightBrace → Does (right_brace_arm o) x p q → Does (arm o i t ts) x p q
  at-right_brace e d = no (λ n. rw e) (no (λ n. rw e) (yes (λ n. rw e) d))

  pub at-left_brace : t.kind ≡ LeftBrace → Does (left_brace_arm o i t ts) x p q → Does (arm o i t ts) x p q
  at-left_brace e d = no (λ n. rw e) (no (λ n. rw e) (no (λ n. rw e) (yes (λ n. rw e) d)))

  pub at-left_paren : t.kind ≡ LeftParen → Does (left_paren_arm o i t ts) x p q → Does (arm o i t ts) x p q
  at-left_paren e d = no (λ n. rw e) (no (λ n. rw e) (no (λ n. rw e) (no (λ n. rw e) (yes (λ n. rw e) d))))

  pub at_left_bracket : t.kind ≡ LeftBracket → Does (left_bracket_arm o i t ts) x p q → Does (arm o i t ts) x p q
  at_left_bracket e d = no (λ n. rw e) (no (λ n. rw e) (no (λ n. rw e) (no (λ n. rw e) (no (λ n. rw e) (yes (λ n. rw e) d)))))

  pub at-right_paren : t.kind ≡ RightParen → Does (right_paren_arm o t) x p q → Does (arm o i t ts) x p q
  at-right_paren e d = no (λ n. rw e) (no (λ n. rw e) (no (λ n. rw e) (no (λ n. rw e) (no (λ n. rw e) (no (λ n. rw e) (yes (λ n. rw e) d))))))

  pub at-right_bracket : t.kind ≡ RightBracket → Does (right_bracket_arm o t) x p q → Does (arm o i t ts) x p q
  at-right_bracket e d = no (λ n. rw e) (no (λ n. rw e) (no (λ n. rw e) (no (λ n. rw e) (no (λ n. rw e) (no (λ n. rw e) (no (λ n. rw e) (yes (λ n. rw e) d)))))))

  pub at-comma : t.kind ≡ Comma → Does (comma_arm o i t) x p q → Does (arm o i t ts) x p q
  at-comma e d = no (λ n. rw e) (no (λ n. rw e) (no (λ n. rw e) (no (λ n. rw e) (no (λ n. rw e) (no (λ n. rw e) (no (λ n. rw e) (no (λ n. rw e) (yes (λ n. rw e) d))))))))

  pub at_else : t.kind ≡ Else → Does (else_arm o t) x p q → Does (arm o i t ts) x p q
  at_else e d = no (λ n. rw e) (no (λ n. rw e) (no (λ n. rw e) (no (λ n. rw e) (no (λ n. rw e) (no (λ n. rw e) (no (λ n. rw e) (no (λ n. rw e) (no (λ n. rw e) (yes (λ n. rw e) d)))))))))

  pub at_other : {k : ℕ} → t.kind ≡ k
      → (k ≡ Eof → ⊥) → (k ≡ Newline → ⊥) → (k ≡ RightBrace → ⊥) → (k ≡ LeftBrace → ⊥) → (k ≡ LeftParen → ⊥) → (k ≡ LeftBracket → ⊥) → (k ≡ RightParen → ⊥) → (k ≡ RightBracket → ⊥) → (k ≡ Comma → ⊥) → (k ≡ Else → ⊥)
      → Does (other_arm o t) x p q → Does (arm o i t ts) x p q
  at_other {k} e a b c f g h j l m y d =
      no (λ n. rw e (ne_eqb k Eof a)) (no (λ n. rw e (ne_eqb k Newline b)) (no (λ n. rw e (ne_eqb k RightBrace c)) (no (λ n. rw e (ne_eqb k LeftBrace f)) (no (λ n. rw e (ne_eqb k LeftParen g))
      (no (λ n. rw e (ne_eqb k LeftBracket h)) (no (λ n. rw e (ne_eqb k RightParen j)) (no (λ n. rw e (ne_eqb k RightBracket l)) (no (λ n. rw e (ne_eqb k Comma m)) (no (λ n. rw e (ne_eqb k Else y)) d)))))))))
