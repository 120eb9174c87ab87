-- `formatter::Formatter::open_signature` meets its contract. Assumes nothing.
use mathlib.Core.Path.{refl}
use Rattle.lookahead.proofs.Sizes.{sig_tokens}
use Rattle.lookahead.specs.Measure.{should_break_sig}
use Rattle.definition.specs.Arms.{open_group}
use Rattle.sink.proofs.Appends.{nothing}
use Rattle.formatter.specs.CodeState.{options_of}
use Rattle.formatter.proofs.Does.{seq, updated, when, unless}
use Rattle.formatter.proofs.Groups.{its}
use Rattle.formatter.proofs.Looked.{looked, part_is}
use Rattle.formatter.proofs.Formatter.open_signature.Goals as goal

pub returns-then-should_break_sig : goal.returns-then-should_break_sig
returns-then-should_break_sig c = λ t ts σ x.
    seq (updated refl refl refl nothing)
    (when
    (looked σ (should_break_sig c.args.self.now.options.fn_sig_width) (part_is c.args.token.lead c.args.self.now.rows.now) (sig_tokens _ _ _ c.should_break_sig.ensures))
    c.if-should_break_sig.true
    (c.break_signature.ensures _))

pub returns-else-should_break_sig : goal.returns-else-should_break_sig
returns-else-should_break_sig c = λ t ts σ x.
    seq (updated refl refl refl nothing)
    (unless
    (looked σ (should_break_sig c.args.self.now.options.fn_sig_width) (part_is c.args.token.lead c.args.self.now.rows.now) (sig_tokens _ _ _ c.should_break_sig.ensures))
    c.if-should_break_sig.false
    (its c.args.self.now σ c.requires.kind_value (open_group (options_of c.args.self.now.options)) (c.open_group.ensures _)))
