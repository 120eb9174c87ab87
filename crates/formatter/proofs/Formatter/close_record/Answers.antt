-- `formatter::Formatter::close_record` meets its contract. Assumes nothing.
use mathlib.Core.Bool.{◌||◌}
use mathlib.Core.Path.{refl, sym}
use Rattle.rows.specs.Kinds.{Comma, LeftBrace}
use Rattle.definition.specs.Emit.{prev_is}
use Rattle.formatter.proofs.Does.{closing, picked}
use Rattle.formatter.proofs.Formatter.close_record.Goals as goal

pub returns : goal.returns
returns c = λ x.
    picked
    (λ f. prev_is Comma f || prev_is LeftBrace f) c.wants_record_comma-wanted.result
    c.wants_record_comma-wanted.ensures
    (closing _ _ c.wants_record_comma-wanted.result refl (sym (rw c.saturating_sub-self.ensures))
    (rw c.count_comma.ensures.0)
    (rw (← c.saturating_sub-self.ensures, ← c.indent_size-spaces.ensures.0) c.write_closer.ensures))
