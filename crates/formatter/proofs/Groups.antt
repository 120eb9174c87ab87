-- Brackets: what the definition's tests come to, room on the stack, and a signature's `)`. Assumes nothing.
use mathlib.Core.Bool.{Bool, true, false, ◌&&◌}
use mathlib.Core.List.{List}
use mathlib.Core.Path.{◌≡◌, refl}
use Prim.Native.Nat.{ℕ, ◌+◌, ◌<◌}
use borrow.Author.Tests.{leb-false}
use lib.Dec.{leb}
use lib.ListN.{length}
use Rattle.shared.specs.Bytes.{line_feed}
use Rattle.shared.proofs.Logic.{split, impossible}
use Rattle.rows.specs.Kinds.{LeftParen, LeftBracket}
use Rattle.rows.specs.Options.{Options}
use Rattle.rows.specs.Token.{Token}
use Rattle.definition.specs.Act.{Act, update, ◌⨾◌, run}
use Rattle.definition.specs.Emit.{line_begun, indented}
use Rattle.definition.specs.Arms.{at_signature, breaks_list, group_opened, pushed, open_list, close_signature, right_paren_arm}
use Rattle.definition.specs.PushToken.{overflows}
use Rattle.formatter.specs.declared.Formatter.{Formatter}
use Rattle.formatter.specs.declared.TokenAt.{TokenAt}
use Rattle.formatter.specs.CodeState.{Locals, CodeState, state_of, locals_of, fields_of}
use Rattle.formatter.specs.Does.{Does}
use Rattle.formatter.specs.Token.{StandsFor, bare_token, lexeme_of}
use Rattle.formatter.specs.Parts.{closes_signature, emit_tail}
use Rattle.formatter.proofs.Does.{seq, same-run}

-- ---- the token

-- An act of the token's kind and lexeme, as the code finds them.
pub its :
    {token : TokenAt} (f : Formatter) {t : Token} {ts : List Token} → StandsFor token f.rows.now f.text.now t ts → {k : ℕ} → token.kind ≡ k
    → (a : Token → Act) {x : Locals} {p q : CodeState} → Does (a (bare_token k (lexeme_of token f))) x p q
    → Does (a (bare_token t.kind t.lexeme)) x p q
its f σ e a d = rw (σ.kind, e, σ.lexeme) d

-- ---- a signature's `)`

-- The depth that the definition takes first is not looked at again.
pub signature-closes :
    (o : Options) (t : Token) {x : Locals} {p q : CodeState} → closes_signature (state_of x p).formatter ≡ true
    → Does (close_signature o) x p q → Does (right_paren_arm o t) x p q
unfolding right_paren_arm run
signature-closes o t e d = same-run (rw e) d

-- ---- a list's opener

-- The line feed is written with the lexeme.
pub list_opens :
    (o : Options) (i : ℕ) (t : Token) {x : Locals} {p m q : CodeState} → Does (emit_tail o t line_feed) x p m
    → Does (update (λ f. line_begun (i + 1) (pushed (group_opened (indented f))))) (locals_of (run (emit_tail o t line_feed) (state_of x p)).formatter) m q
    → Does (open_list o i t) x p q
unfolding run
list_opens o i t d e = same-run {a = emit_tail o t line_feed ⨾ update (λ f. line_begun (i + 1) (pushed (group_opened (indented f))))} refl (seq d e)

-- ---- room on the stack

few : (s : List ℕ) {b : Bool} → leb 64 (length s) && b ≡ false → b ≡ true → length s < 64
few s v e =
    let w : leb 64 (length s) && true ≡ false = rw e at v in
    split (leb 64 (length s)) (λ h. impossible (rw h at w)) (λ h. leb-false 64 (length s) h)

-- An opener whose list breaks finds room on the stack where refusal 4's test fails.
module _ (o : Options) (t : Token) (ts : List Token) (f : Formatter) (v : overflows o t ts (fields_of f) ≡ false) where
  pub paren_room : t.kind ≡ LeftParen → at_signature (fields_of f) ≡ false → breaks_list o t ts (fields_of f) ≡ true → length f.break_stack < 64
  paren_room k a r = few f.break_stack v (rw (r, a, k))

  pub bracket_room : t.kind ≡ LeftBracket → breaks_list o t ts (fields_of f) ≡ true → length f.break_stack < 64
  bracket_room k r = few f.break_stack v (rw (r, k))
