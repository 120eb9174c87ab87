-- `shared::report::put_report` meets its contract. Assumes nothing.
use mathlib.Core.Path.{ap, ◌∙◌}
use lib.Seq.{sets}
use Rattle.shared.specs.Report.{report_of}
use Rattle.shared.proofs.LittleEndian.{le_bytes, report_stored}
use Rattle.shared.proofs.report.put_report.Goals as goal

pub returns-clause-bytes : goal.returns-clause-bytes
returns-clause-bytes c =
    let a = c.args.answer in
    report_stored c.args.report.now (report_of a) c.requires
    (c.put.ensures ∙ ap (λ bs. sets c.args.report.now 0 bs) (c.to_le_bytes.ensures ∙ le_bytes 8 a.first))
    (c.put-2.ensures ∙ ap (λ bs. sets c.put.new.bytes 8 bs) (c.to_le_bytes-2.ensures ∙ le_bytes 8 a.second))
    (c.put-3.ensures ∙ ap (λ bs. sets c.put-2.new.bytes 16 bs) (c.to_le_bytes-3.ensures ∙ le_bytes 8 a.third))
