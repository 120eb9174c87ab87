-- Gaps: the numbers of spaces that the code finds, and the definition's bytes. Assumes nothing.
use mathlib.Core.Bool.{Bool, true, false, cond}
use mathlib.Core.List.{List, [], ◌++◌}
use mathlib.Core.Path.{◌≡◌, refl}
use Prim.Native.Nat.{ℕ, ◌*◌}
use lib.ListN.{replicate}
use Rattle.shared.specs.Bytes.{space}
use Rattle.rows.specs.Kinds.{LeftBrace}
use Rattle.rows.specs.Options.{Options}
use Rattle.definition.specs.Formatter.{Formatter}
use Rattle.definition.specs.Emit.{prev_is, token_gap, indent_or_space}
use Rattle.spaces.specs.Space.{space_after}
use Rattle.definition.specs.Arms.{inline_close_gap}
use Rattle.sink.specs.declared.write.Sink.{Sink}
use Rattle.sink.specs.Appends.{Appends}
use Rattle.sink.proofs.Appends.{same_bytes}
use Rattle.formatter.specs.Parts.{gap_size, inline_close_size, indent_or_space_size}

sized : (start needed : Bool) (indent : ℕ) → cond start (replicate indent 32) (cond needed space []) ≡ replicate (cond start indent (cond needed 1 0)) 32
sized true needed indent = refl
sized false true indent = refl
sized false false indent = refl

tight : (start empty : Bool) (indent : ℕ) → cond start (replicate indent 32) (cond empty [] space) ≡ replicate (cond start indent (cond empty 0 1)) 32
tight true empty indent = refl
tight false true indent = refl
tight false false indent = refl

or_space : (start : Bool) (indent : ℕ) → cond start (replicate indent 32) space ≡ replicate (cond start indent 1) 32
or_space true indent = refl
or_space false indent = refl

module _ (o : Options) (f : Formatter) where
  -- Before a token of the kind k.
  pub token_gap_lem : (k : ℕ) → token_gap o k f ≡ replicate (gap_size o k f) 32
  token_gap_lem k = sized f.at_line_start (space_after f.prev f.prev_minus_is_unary k) (o.indent_width * f.indent)

  -- Before the `}` of a one-line block.
  pub inline_close-gap : inline_close_gap o f ≡ replicate (inline_close_size o f) 32
  inline_close-gap = tight f.at_line_start (prev_is LeftBrace f) (o.indent_width * f.indent)

  pub indent_or_space_lem : indent_or_space o f ≡ replicate (indent_or_space_size o f) 32
  indent_or_space_lem = or_space f.at_line_start (o.indent_width * f.indent)

-- A gap of the code's size, and bytes after it.
pub gapped : {g : List ℕ} (size n : ℕ) (w : List ℕ) {a b : Sink} → g ≡ replicate size 32 → n ≡ size → Appends a (replicate n 32 ++ w) b → Appends a (g ++ w) b
gapped size n w e d x = same_bytes (rw (e, d)) x
