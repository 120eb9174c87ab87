-- `sheet::read_sheet` meets its contract. Assumes nothing.
use mathlib.Core.Path.{sym, ◌∙◌}
use Rattle.sheet.specs.Line.{names}
use Rattle.sheet.proofs.Prefix.{begins_is}
use Rattle.sheet.proofs.Filling.{unnamed, answered, zeroes}
use Rattle.sheet.proofs.read_sheet.Goals as goal

pub returns-then-not-starts_with : goal.returns-then-not-starts_with
returns-then-not-starts_with c =
    let sheet = c.args.sheet.now in
    let α = unnamed sheet c.args.rows.now c.args.text.now (sym (begins_is names sheet) ∙ sym c.if-not-starts_with.ensures.value) in
    record { answer = α.report; rows = α.rows; text = α.text }

pub returns-then-is_err : goal.returns-then-is_err
returns-then-is_err c =
    let sheet = c.args.sheet.now in
    let r = c.read_lines-read in
    let named = sym (begins_is names sheet) ∙ sym c.if-not-starts_with.ensures.value in
    let α =
    zeroes sheet c.args.rows.now c.args.text.now named r.result _ _ (sym c.if-is_err.ensures.value) r.ensures
    (c.fill.ensures.after (λ y h. h) ∙ rw r.auto.rows) (c.fill-then-is_err.ensures.after (λ y h. h) ∙ rw r.auto.text) in
    record { answer = α.report; rows = α.rows; text = α.text }

pub returns-else-is_err : goal.returns-else-is_err
returns-else-is_err c =
    let sheet = c.args.sheet.now in
    let named = sym (begins_is names sheet) ∙ sym c.if-not-starts_with.ensures.value in
    let α = answered sheet c.args.rows.now c.args.text.now named c.read_lines-read.result (sym c.if-is_err.ensures.value) c.read_lines-read.ensures in
    record { answer = α.report; rows = α.rows; text = α.text }
