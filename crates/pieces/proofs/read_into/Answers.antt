-- `pieces::read_into` meets its contract. Assumes nothing.
use mathlib.Core.Path.{sym, ◌∙◌}
use native.Mathlib.Omega.{arith}
use Rattle.pieces.proofs.Filling.{sized, finished, finished_slots, unread, full, first}
use Rattle.pieces.proofs.read_into.Goals as goal

pub returns-in_err-piece-clause-answer : goal.returns-in_err-piece-clause-answer
returns-in_err-piece-clause-answer c =
    unread c.loop-piece.invariant c.from_residual.result c.from_residual.ensures.1 (sym c.in_err-piece.was ∙ c.next_piece.ensures)

pub store-requires : goal.store-requires
store-requires c =
    let σ = c.loop-piece.invariant in
    let φ = first σ {p = c.in-Some.piece} (cc (c.in_ok-piece.was, c.in-Some.is, c.next_piece.ensures)) in
    (omega (arith, φ.some), omega (arith, σ.room, sized σ))

pub returns-in_err-store-clause-answer : goal.returns-in_err-store-clause-answer
returns-in_err-store-clause-answer c =
    full c.loop-piece.invariant {p = c.in-Some.piece} (cc (c.in_ok-piece.was, c.in-Some.is, c.next_piece.ensures))
    c.from_residual-in_err-store.result (sym c.in_err-store.ensures.fits) (rw c.in_err-store.ensures.full at c.from_residual-in_err-store.ensures.1)

pub loop-piece-smaller : goal.loop-piece-smaller
loop-piece-smaller c =
    let φ = first c.loop-piece.invariant {p = c.in-Some.piece} (cc (c.in_ok-piece.was, c.in-Some.is, c.next_piece.ensures)) in
    omega (arith, φ.after, φ.some, φ.within)

pub returns-clause-answer : goal.returns-clause-answer
returns-clause-answer c = finished c.loop-piece.invariant (cc (c.in_ok-piece.was, c.in_default.is, c.next_piece.ensures))

pub returns-clause-slice : goal.returns-clause-slice
returns-clause-slice c = finished_slots c.loop-piece.invariant (cc (c.in_ok-piece.was, c.in_default.is, c.next_piece.ensures))
