-- `sheet::line::escape_at` meets its contract. Assumes nothing.
use mathlib.Core.Path.{sym, ◌∙◌}
use native.Mathlib.Omega.{arith}
use Rattle.sheet.proofs.Scanning.{escape_out, escape_other, escape_feed, escape_backslash}
use Rattle.sheet.proofs.line.escape_at.Goals as goal

pub returns-in_err-get : goal.returns-in_err-get
returns-in_err-get c = rw c.from_residual.ensures (escape_out c.args.sheet.now c.args.i c.in_err-get.ensures.lookup.3)

pub returns-in-110 : goal.returns-in-110
returns-in-110 c = let at = c.in_ok-get.ensures.lookup.3 in escape_feed c.args.sheet.now c.args.i at.0 (sym (at.1 0) ∙ c.in-110.is)

pub returns-in-92 : goal.returns-in-92
returns-in-92 c = let at = c.in_ok-get.ensures.lookup.3 in escape_backslash c.args.sheet.now c.args.i at.0 (sym (at.1 0) ∙ c.in-92.is)

pub returns-in_default : goal.returns-in_default
returns-in_default c =
    let at = c.in_ok-get.ensures.lookup.3 in
    let here = at.1 0 in
    escape_other c.args.sheet.now c.args.i at.0 (λ q. omega arith) (λ q. omega arith)
