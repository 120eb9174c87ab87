-- `piece_reader::count_pieces` meets its contract. Assumes nothing.
use mathlib.Core.Path.{ap, ◌∙◌}
use native.Mathlib.Omega.{arith}
use Rattle.pieces.specs.Reading.{read_from}
use Rattle.pieces.specs.Next.{next}
use Rattle.piece_reader.specs.declared.PieceReader.{PieceReader}
use Rattle.piece_reader.specs.Reader.{end_of}
use Rattle.piece_reader.proofs.Counting.{Went, went, unread_as}
use Rattle.piece_reader.proofs.count_pieces.Goals as goal

step : (c : goal.In-Some) → Went c.args.text.now c.loop-n.reader.at c.take_next.new.self.at c.loop-n.n
step c =
    let σ = c.loop-n.invariant in
    let h = ap (λ t. next (read_from t c.loop-n.reader.at)) σ.text in
    went σ.counts {p = c.in-Some.field-0} (cc (c.in_ok-or_refusal.ensures, c.in-Some.is, c.take_next.ensures.next, σ.text))
    (ap (λ (r : PieceReader). r.at) c.take_next.ensures.reader ∙ ap (end_of c.loop-n.reader.at) h)

pub loop-n-smaller : goal.loop-n-smaller
loop-n-smaller c = let s = step c in omega arith

pub loop-n-preserved : goal.loop-n-preserved
loop-n-preserved c = record {
  text = ap (λ (r : PieceReader). r.text.now) c.take_next.ensures.reader ∙ c.loop-n.invariant.text;
  counts = (step c).counts;
}

pub returns-in_err-or_refusal : goal.returns-in_err-or_refusal
returns-in_err-or_refusal c =
    let σ = c.loop-n.invariant in
    unread_as σ.counts c.take_next.result _ c.from_residual.result c.in_err-or_refusal.ensures c.from_residual.ensures.1
    (c.take_next.ensures.next ∙ ap (λ t. next (read_from t c.loop-n.reader.at)) σ.text)
