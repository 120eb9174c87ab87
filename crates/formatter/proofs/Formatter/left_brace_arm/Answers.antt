-- `formatter::Formatter::left_brace_arm` meets its contract. Assumes nothing.
use mathlib.Core.Bool.{false}
use Rattle.std.proofs.Math.Option.{none}
use Rattle.definition.specs.Arms.{empty_record, open_block}
use Rattle.formatter.proofs.Blocks.{brace, by_options}
use Rattle.formatter.proofs.Does.{seq, when, unless, same_options}
use Rattle.formatter.proofs.Formatter.left_brace_arm.Goals as goal

pub open_block_multiline-requires-clause-can_write : goal.open_block_multiline-requires-clause-can_write
open_block_multiline-requires-clause-can_write c =
    let n = (c.enter_record.ensures.does c.args.sink.now (record { inline_close = false; returned = false; skip_next = false; too_deep = none })).same in
    record {
      within = c.requires.ready.fits.within;
      width = rw (same_options n) c.requires.ready.fits.width;
      indent = rw c.enter_record.ensures.indent c.requires.ready.fits.indent;
    }

pub returns-then-empties_record : goal.returns-then-empties_record
unfolding empty_record
returns-then-empties_record c = λ t ts σ x.
    brace _ _ t ts
    (when (c.empties_record.ensures _ t ts σ) c.if-empties_record.true
    (rw (σ.kind, c.requires.kind_value, σ.lexeme) (c.empty_record.ensures x)))

pub returns-then-opens_block : goal.returns-then-opens_block
returns-then-opens_block c = λ t ts σ x.
    brace _ _ t ts
    (unless (c.empties_record.ensures _ t ts σ) c.if-empties_record.false
    (when (c.opens_block.ensures t ts σ) c.if-opens_block.true
    (seq (c.enter_record.ensures.does c.args.sink.now x) (by_options (λ o. open_block o c.args.token.index) (c.enter_record.ensures.does c.args.sink.now x).same (c.open_block_multiline.ensures _)))))

pub returns-else-opens_block : goal.returns-else-opens_block
returns-else-opens_block c = λ t ts σ x.
    brace _ _ t ts
    (unless (c.empties_record.ensures _ t ts σ) c.if-empties_record.false
    (unless (c.opens_block.ensures t ts σ) c.if-opens_block.false (c.open_one_line.ensures x)))
