-- Acts of the formatter's methods that are no arm keep the last kind and `fn_state` among their values too. Assumes nothing.
use Prim.Native.Nat.{ℕ, ◌≤◌}
use mathlib.Core.List.{List}
use Rattle.rows.specs.Options.{Options}
use Rattle.rows.specs.Token.{Trivia, Token}
use Rattle.definition.proofs.Preserves.{updated, gapped, ◌then◌}
use Rattle.definition.proofs.Known.{KeepsKnown, leading_known, emit_token_text_known}
use Rattle.formatter.specs.Parts.{emit_tail}
use Rattle.formatter.specs.Trivia.{lead_token}

pub lead_token_known : (o : Options) (ts : List Trivia) → KeepsKnown (lead_token o ts)
lead_token_known o ts = leading_known o ts then updated (λ f h. h)

pub emit_tail_known : (o : Options) (t : Token) → t.kind ≤ 34 → (w : List ℕ) → KeepsKnown (emit_tail o t w)
emit_tail_known o t few w = emit_token_text_known o t few then gapped
