-- `sheet::line::read_text` meets its contract. Assumes nothing.
use borrow.Author.Rules.{rules}
use Rattle.sheet.proofs.Scanning.{scan_out, scan_feed, scan_wrong, scan_escaped, scan_plain}
use Rattle.sheet.proofs.line.read_text.Goals as goal

pub returns-then-b-eq10 : goal.returns-then-b-eq10
returns-then-b-eq10 c = scan_feed c.loop-i.invariant c.loop-i-test.true c.if-b-eq10.true

pub returns-in_err-escaped : goal.returns-in_err-escaped
returns-in_err-escaped c = rw c.from_residual.ensures (scan_wrong c.loop-i.invariant c.loop-i-test.true c.if-b-eq10.false c.if-b-eq92.true c.in_err-escaped.ensures)

pub loop-i-preserved-then-b-eq92 : goal.loop-i-preserved-then-b-eq92
loop-i-preserved-then-b-eq92 c =
    scan_escaped c.loop-i.invariant c.loop-i-test.true c.if-b-eq10.false c.if-b-eq92.true c.in_ok-escaped.ensures c.write_byte-end.ensures

pub loop-i-preserved : goal.loop-i-preserved
loop-i-preserved c = scan_plain c.loop-i.invariant c.loop-i-test.true c.if-b-eq10.false c.if-b-eq92.false c.write_byte-end-else-b-eq92.ensures

pub returns : goal.returns
returns c = scan_out c.loop-i.invariant (search rules)
