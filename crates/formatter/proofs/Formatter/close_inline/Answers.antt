-- `formatter::Formatter::close_inline` meets its contract. Assumes nothing.
use mathlib.Core.Path.{refl, sym}
use Rattle.definition.specs.Act.{run}
use Rattle.definition.proofs.Said.{said}
use Rattle.formatter.specs.Parts.{inline_close_size}
use Rattle.formatter.specs.CodeState.{options_of, fields_of}
use Rattle.formatter.proofs.Does.{does}
use Rattle.formatter.proofs.Gaps.{inline_close-gap, gapped}
use Rattle.formatter.proofs.Formatter.close_inline.Goals as goal

pub returns : goal.returns
unfolding run said
returns c = λ x.
    does
    refl (sym (rw c.saturating_sub-self.ensures)) refl
    (gapped
    (inline_close_size (options_of c.args.self.now.options) (fields_of c.args.self.now)) _ _
    (inline_close-gap (options_of c.args.self.now.options) (fields_of c.args.self.now)) c.inline_close_gap-gap.ensures.0
    c.write_brace.ensures)
