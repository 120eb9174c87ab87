-- `formatter::Formatter::push_fast_braces` meets its contract. Assumes nothing.
use mathlib.Core.Path.{refl, sym, ◌∙◌}
use native.Mathlib.Omega.{arith}
use Rattle.sink.proofs.Sink.{same_bytes_lem}
use Rattle.formatter.proofs.FastBraces.{next_at, goes_open, goes_close, closer_is}
use Rattle.formatter.proofs.Formatter.push_fast_braces.Goals as goal
use Rattle.formatter.proofs.Formatter.push_fast_braces.Goals.{in-LeftBrace, in-RightBrace}

pub overflow_add-depth : goal.overflow_add-depth
overflow_add-depth c =
    let i = c.loop-row.invariant in
    let d = i.so_far.done.deep in
    let f = (next_at i c.in-Some.ensures.steps).within in
    record { fits = omega arith }

pub loop-row-preserved : goal.loop-row-preserved
loop-row-preserved c =
    let fits = rw c.room.ensures at (c.takes_brace.ensures c.if-not-takes_brace.false) in
    let i = c.loop-row.invariant in
    let f = next_at i c.in-Some.ensures.steps in
    elim c.match-token_kind.branch [
      | in-LeftBrace w ↦
          rw (w.sink-is, w.prev-is, w.depth-is, w.closed-is)
          (record {
            so_far = goes_open i.so_far f.within _ f.row (sym w.in-LeftBrace.ensures) fits.0 fits.1 (w.put_token.ensures.writes, refl);
            left = f.after;
            lent = w.put_token.ensures.lent ∙ i.lent;
          })
      | in-RightBrace w ↦
          let closer = closer_is c.loop-row.prev w.from.ensures in
          rw (w.sink-is, w.prev-is, w.depth-is, w.closed-is)
          (record {
            so_far =
                goes_close i.so_far f.within _ f.row (sym w.in-RightBrace.ensures) fits.0 fits.1
                (same_bytes_lem closer w.put_token-in-RightBrace.ensures.writes, refl);
            left = f.after;
            lent = w.put_token-in-RightBrace.ensures.lent ∙ i.lent;
          })
    ]
