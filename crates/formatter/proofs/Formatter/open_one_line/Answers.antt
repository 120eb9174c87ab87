-- `formatter::Formatter::open_one_line` meets its contract. Assumes nothing.
use mathlib.Core.List.{append-nil}
use mathlib.Core.Path.{refl, sym}
use lib.ListN.{replicate}
use Rattle.sink.proofs.Appends.{same_bytes}
use Rattle.formatter.specs.CodeState.{options_of, fields_of}
use Rattle.formatter.proofs.Blocks.{one_line}
use Rattle.formatter.proofs.Does.{told}
use Rattle.formatter.proofs.Gaps.{indent_or_space_lem, gapped}
use Rattle.formatter.proofs.Formatter.open_one_line.Goals.{then-omits_brace, else-omits_brace}
use Rattle.formatter.proofs.Formatter.open_one_line.Goals as goal

pub returns : goal.returns
returns c = λ x.
    let o = options_of c.args.self.now.options in
    let f = fields_of c.args.self.now in
    let e = indent_or_space_lem o f in
    let n = c.indent_or_space-gap.ensures.0 in
    elim c.if-omits_brace.branch [
      | then-omits_brace w ↦
          rw w.sink-is
          (one_line o refl refl refl
          (rw (told c.omits_brace.ensures w.if-omits_brace.true)
          (gapped _ _ _ e n (same_bytes (sym (append-nil (replicate c.indent_or_space-gap.result 32))) w.write_spaces.ensures))))
      | else-omits_brace w ↦
          rw w.sink-is
          (one_line o refl refl refl
          (rw (told c.omits_brace.ensures w.if-omits_brace.false) (gapped _ _ _ e n w.write_brace.ensures)))
    ]
