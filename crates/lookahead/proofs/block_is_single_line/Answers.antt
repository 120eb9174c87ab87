-- `lookahead::block_is_single_line` meets its contract. Assumes nothing.
use mathlib.Core.Path.{◌≡◌, refl, sym, ap}
use Prim.Native.Nat.{◌+◌, ◌≤◌}
use native.Mathlib.Omega.{arith}
use borrow.Author.Tests.{eqb-true}
use Rattle.rows.specs.Row.{rows_of}
use Rattle.rows.specs.RowsLeft.{rows_left}
use Rattle.rows.specs.KindNumber.{kind_number}
use Rattle.rows.specs.declared.kind.Kind.TheVariants.{RightBrace}
use Rattle.rows.proofs.KindNumbers.{same_number}
use Rattle.rows.proofs.RowList.{rows_length}
use Rattle.lookahead.proofs.Narrow.{one_less}
use Rattle.lookahead.proofs.Tokens.{single_line_rows}
use Rattle.lookahead.proofs.Looking.{rest_of_block, block_trivia, block_skipped, block_opened, block_less, block_other, block_stopped, block_closed, block_over, block_none, block_said}
use Rattle.lookahead.proofs.block_is_single_line.Goals as goal
use Rattle.lookahead.proofs.block_is_single_line.Goals.{then-not-is_token+else-is_trivia, else-not-is_token+then-row, else-not-is_token+else-row+then-row-2+in-RightBrace-2, else-not-is_token+else-row+else-row-2}

pub returns-then-is_trivia : goal.returns-then-is_trivia
returns-then-is_trivia c = λ text. block_said c.args.rows.now text (block_trivia c.loop-row.follows c.loop-row.depth _ c.loop-row.invariant.0 c.in-Some.ensures.steps (sym c.if-not-is_token.ensures) c.is_trivia.ensures c.if-is_trivia.true)

pub overflow_add-depth : goal.overflow_add-depth
overflow_add-depth c = record { fits = omega (arith, c.loop-row.invariant.1, rows_length c.args.rows.now) }

pub returns-in-RightBrace : goal.returns-in-RightBrace
returns-in-RightBrace c = λ text. block_said c.args.rows.now text (block_closed c.loop-row.follows c.loop-row.depth _ c.loop-row.invariant.0 c.in-Some.ensures.steps (eqb-true _ _ (sym c.if-not-is_token.ensures)) c.token_kind.ensures (ap kind_number c.in-RightBrace.is) c.if-depth-le1.true c.trails.ensures)

pub returns-in_default-token_kind : goal.returns-in_default-token_kind
returns-in_default-token_kind c = λ text. block_said c.args.rows.now text (block_stopped c.loop-row.follows c.loop-row.depth _ c.loop-row.invariant.0 c.in-Some.ensures.steps (eqb-true _ _ (sym c.if-not-is_token.ensures)) c.token_kind.ensures c.if-row.false c.if-row-2.true (λ q. c.in_default-token_kind.not-RightBrace (same_number c.token_kind.result RightBrace q)))

pub returns-then-len-depth : goal.returns-then-len-depth
returns-then-len-depth c =
    let t : single_line_rows 0 (rows_of c.args.rows.now) ≡ rest_of_block c.is_token-follows.result c.if-not-is_token.depth (rows_left c.next.new.self) = elim c.if-not-is_token.branch [
      | then-not-is_token+else-is_trivia w ↦ block_skipped c.loop-row.follows c.loop-row.depth _ c.loop-row.invariant.0 c.in-Some.ensures.steps (sym w.if-not-is_token.ensures) w.is_trivia.ensures w.if-is_trivia.false c.is_token-follows.ensures w.depth-is
      | else-not-is_token+then-row w ↦ block_opened c.loop-row.follows c.loop-row.depth _ c.loop-row.invariant.0 c.in-Some.ensures.steps (eqb-true _ _ (sym w.if-not-is_token.ensures)) refl c.is_token-follows.ensures w.if-row.true w.depth-is
      | else-not-is_token+else-row+then-row-2+in-RightBrace-2 w ↦ block_less c.loop-row.follows c.loop-row.depth _ c.loop-row.invariant.0 c.in-Some.ensures.steps (eqb-true _ _ (sym w.if-not-is_token.ensures)) w.token_kind.ensures c.is_token-follows.ensures (ap kind_number w.in-RightBrace-2.is) (omega (arith, w.if-depth-le1.false)) w.depth-is
      | else-not-is_token+else-row+else-row-2 w ↦ block_other c.loop-row.follows c.loop-row.depth _ c.loop-row.invariant.0 c.in-Some.ensures.steps (eqb-true _ _ (sym w.if-not-is_token.ensures)) refl c.is_token-follows.ensures (omega (arith, w.if-row-2.false)) w.depth-is
    ] in
    λ text. block_said c.args.rows.now text (block_over c.is_token-follows.result c.if-not-is_token.depth (rows_left c.next.new.self) t (omega (arith, c.if-len-depth.true, c.len.ensures)))

pub loop-row-preserved : goal.loop-row-preserved
loop-row-preserved c =
    let l = one_less c.in-Some.ensures.steps in
    let most : c.if-not-is_token.depth ≤ c.loop-row.depth + 1 = elim c.if-not-is_token.branch [
      | then-not-is_token+else-is_trivia w ↦ omega (arith, w.depth-is)
      | else-not-is_token+then-row w ↦ omega (arith, w.depth-is)
      | else-not-is_token+else-row+then-row-2+in-RightBrace-2 w ↦ omega (arith, w.depth-is)
      | else-not-is_token+else-row+else-row-2 w ↦ omega (arith, w.depth-is)
    ] in (
      elim c.if-not-is_token.branch [
        | then-not-is_token+else-is_trivia w ↦ block_skipped c.loop-row.follows c.loop-row.depth _ c.loop-row.invariant.0 c.in-Some.ensures.steps (sym w.if-not-is_token.ensures) w.is_trivia.ensures w.if-is_trivia.false c.is_token-follows.ensures w.depth-is
        | else-not-is_token+then-row w ↦ block_opened c.loop-row.follows c.loop-row.depth _ c.loop-row.invariant.0 c.in-Some.ensures.steps (eqb-true _ _ (sym w.if-not-is_token.ensures)) refl c.is_token-follows.ensures w.if-row.true w.depth-is
        | else-not-is_token+else-row+then-row-2+in-RightBrace-2 w ↦ block_less c.loop-row.follows c.loop-row.depth _ c.loop-row.invariant.0 c.in-Some.ensures.steps (eqb-true _ _ (sym w.if-not-is_token.ensures)) w.token_kind.ensures c.is_token-follows.ensures (ap kind_number w.in-RightBrace-2.is) (omega (arith, w.if-depth-le1.false)) w.depth-is
        | else-not-is_token+else-row+else-row-2 w ↦ block_other c.loop-row.follows c.loop-row.depth _ c.loop-row.invariant.0 c.in-Some.ensures.steps (eqb-true _ _ (sym w.if-not-is_token.ensures)) refl c.is_token-follows.ensures (omega (arith, w.if-row-2.false)) w.depth-is
      ],
      omega (arith, c.loop-row.invariant.1, l, most),
    )

pub returns : goal.returns
returns c = λ text. block_said c.args.rows.now text (block_none c.loop-row.follows c.loop-row.depth _ c.loop-row.invariant.0 c.in_default.ensures.steps.0)
