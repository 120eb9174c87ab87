-- `read_back::format_and_read_back` meets its contract. Assumes nothing.
use Rattle.read_back.proofs.Seen.{returned}
use Rattle.read_back.proofs.format_and_read_back.Goals as goal

pub returns-clause-first_half : goal.returns-clause-first_half
returns-clause-first_half c =
    let a = c.args in
    let e = c.format_tokens_with-laid.ensures in
    let f = c.read_laid-read.ensures in
    returned a.options.style a.options.indent_width a.options.signature_width a.options.list_width a.rows.now a.text.now a.out.now
    c.format_tokens_with-laid.result e.answer e.output a.pieces.now f.answer f.slice
