-- `lookahead::should_break_sig` meets its contract. Assumes nothing.
use Rattle.lookahead.proofs.Said.{sig_said}
use Rattle.lookahead.proofs.should_break_sig.Goals as goal

pub returns : goal.returns
returns c = sig_said c.args.rows.now c.args.fn_sig_width c.decide.ensures
