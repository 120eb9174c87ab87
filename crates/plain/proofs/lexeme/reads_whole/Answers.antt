-- `plain::lexeme::reads_whole` meets its contract. Assumes nothing.
use Rattle.std.proofs.Common.{sym, ◌∙◌}
use borrow.Author.Tests.{ne_eqb}
use Rattle.plain.proofs.Bytes.{reads_later, reads_first, reads_none, reads-refused}
use Rattle.plain.proofs.lexeme.reads_whole.Goals as goal

pub returns-then-piece-eq0 : goal.returns-then-piece-eq0
returns-then-piece-eq0 c = reads_first c.args.lexeme.now (rw c.in-Ok-Some.field-0-is at (sym c.in-Ok-Some.is ∙ c.next_piece.ensures)) c.if-piece-eq0.true

pub returns-else-piece-eq0 : goal.returns-else-piece-eq0
returns-else-piece-eq0 c = ne_eqb _ 0 c.if-piece-eq0.false ∙ reads_later c.args.lexeme.now (rw c.in-Ok-Some.field-0-is at (sym c.in-Ok-Some.is ∙ c.next_piece.ensures)) c.if-piece-eq0.false

pub returns-in-Ok-None : goal.returns-in-Ok-None
returns-in-Ok-None c = reads_none c.args.lexeme.now (rw c.in-Ok-None.field-0-is at (sym c.in-Ok-None.is ∙ c.next_piece.ensures))

pub returns-in-Err : goal.returns-in-Err
returns-in-Err c = reads-refused c.args.lexeme.now (sym c.in-Err.is ∙ c.next_piece.ensures)
