-- `formatter::Formatter::close_list` meets its contract. Assumes nothing.
use mathlib.Core.Path.{refl, sym}
use Rattle.rows.proofs.KindNumbers.{tag_is}
use Rattle.formatter.proofs.Does.{closing}
use Rattle.formatter.proofs.Formatter.close_list.Goals as goal

pub returns : goal.returns
returns c = λ x.
    closing _ _
    c.args.wanted refl
    (sym (rw (tag_is c.args.kind, c.pop.ensures, c.saturating_sub-self.ensures, c.saturating_sub-self-2.ensures)))
    (rw c.count_comma.ensures.0)
    (rw (← c.saturating_sub-self.ensures, ← c.indent_size-spaces.ensures.0) c.write_closer.ensures)
