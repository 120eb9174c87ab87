-- Lexemes: bounds, tests and bytes of the methods that write them. Assumes nothing.
use mathlib.Core.Bool.{Bool}
use mathlib.Core.List.{List, [], ◌++◌, append-nil, append_assoc}
use mathlib.Core.Path.{◌≡◌, refl, sym, ap}
use Prim.Native.Nat.{ℕ}
use lib.ListN.{replicate}
use Rattle.rows.specs.Options.{Options}
use Rattle.rows.specs.Token.{Token}
use Rattle.definition.specs.Formatter.{set_prev_minus_is_unary, set_fn_state}
use Rattle.definition.specs.Act.{update, ◌⨾◌, run}
use Rattle.definition.specs.Emit.{token_gap, ended_by, track_minus, push_lexeme, track_fn_state}
use Rattle.definition.proofs.Said.{said}
use Rattle.sink.specs.Appends.{Appends}
use Rattle.sink.proofs.Appends.{same_bytes, nothing}
use Rattle.formatter.specs.declared.FnState.{FnState}
use Rattle.formatter.specs.CodeState.{Locals, CodeState, code_state, state_of, formatter_of, fields_of, fn_number, given}
use Rattle.formatter.specs.Does.{Does}
use Rattle.formatter.specs.Parts.{gap_size, emit_tail}
use Rattle.formatter.proofs.Does.{does, seq, same-run, updated}
use Rattle.formatter.proofs.Gaps.{token_gap_lem, gapped}

-- ---- a lexeme

tailed : (g l w : List ℕ) → g ++ (l ++ w) ≡ (g ++ (l ++ [])) ++ w
tailed g l w = rw (append-nil l) (sym (append_assoc g l w))

module _ (o : Options) (t : Token) where
  -- A gap of the code's size, the lexeme and a tail are one write.
  pub emitted :
      (w : List ℕ) {n : ℕ} {x : Locals} {p q : CodeState} → given q.form ≡ given p.form → ended_by t.kind (state_of x p).formatter ≡ formatter_of q.form x
      → p.form.commas ≡ q.form.commas → n ≡ gap_size o t.kind (state_of x p).formatter
      → Appends p.sink (replicate n 32 ++ (t.lexeme ++ w)) q.sink → Does (emit_tail o t w) x p q
  unfolding run said
  emitted w {n} {x} {p} z c k e y =
      let f = (state_of x p).formatter in
      does z c k (same_bytes (tailed (token_gap o t.kind f) t.lexeme w) (gapped (gap_size o t.kind f) n (t.lexeme ++ w) (token_gap_lem o f t.kind) e y))

  -- The same without a tail, and then whether a `-` is unary.
  pub pushed :
      {unary : Bool} {x : Locals} {p q r : CodeState} → unary ≡ (track_minus t.kind (state_of x p).formatter).prev_minus_is_unary
      → Does (emit_tail o t []) x p q → Does (update (set_prev_minus_is_unary unary)) x q r → Does (push_lexeme o t) x p r
  unfolding run
  pushed {unary} e d u = same-run {a = emit_tail o t [] ⨾ update (set_prev_minus_is_unary unary)} (rw (append-nil, e)) (seq {a = emit_tail o t []} d u)

-- ---- `fn name (`

-- The code's state after a token's kind is the definition's.
pub tracked :
    (k : ℕ) {x : Locals} {p : CodeState} {state : FnState} → fn_number state ≡ (track_fn_state k (fields_of p.form)).fn_state
    → Does (update (track_fn_state k)) x p (code_state (record p.form { fn_state = state }) p.sink)
tracked k {x} {p} e = updated refl (ap (λ n. set_fn_state n (formatter_of p.form x)) (sym e)) refl nothing
