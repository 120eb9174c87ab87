-- `formatter::Formatter::format` meets its contract. Assumes nothing.
use mathlib.Core.Path.{◌≡◌, ap}
use Prim.Native.Nat.{ℕ, ◌-◌, ◌≤◌, ◌<◌}
use native.Mathlib.Omega.{arith}
use lib.ListN.{length}
use Rattle.formatter.specs.CodeState.{CodeState, code_state}
use Rattle.formatter.proofs.Going.{last_few, laid_done}
use Rattle.formatter.proofs.Loop.{Loop, begins, rows_same, next_token_there, refused_as, next_there_too, next-bounds, placed, placed-after}
use Rattle.formatter.proofs.Loop.{rows_left, boundary_there, past_fast_tokens, fast_tokens_few, fast_braces_place, fast_braces_rows, fast_braces_depth, past_fast_braces}
use Rattle.formatter.proofs.Formatter.format.Goals as goal
use Rattle.formatter.proofs.Formatter.format.Goals.{After-next_place-place}

-- The state in which the loop begins.
abbrev first : After-next_place-place → CodeState
first c = code_state (record c.args.self.now { ends = c.ends_of-self.result }) c.args.sink.now

-- The invariant holds at the next place.
at_place : (c : After-next_place-place) → Loop (first c) c.next_place-place.result.index c.next_place-place.result.at (code_state c.push_token.new.self c.push_token.new.sink)
at_place c =
    placed c.requires.fresh.1 c.requires.checked_rows c.ends_of-self.ensures c.loop-place.invariant c.loop-place-test.true c.token_at-token.ensures
    c.push_token.ensures c.in_ok-push_token.was c.next_place-place.ensures

-- It lies further on.
after_place : (c : After-next_place-place) → c.loop-place.place.at < c.next_place-place.result.at
after_place c =
    placed-after c.requires.fresh.1 c.requires.checked_rows c.ends_of-self.ensures c.loop-place.invariant c.loop-place-test.true c.token_at-token.ensures
    c.push_token.ensures c.in_ok-push_token.was c.next_place-place.ensures

-- A place further on leaves fewer bytes of rows.
falls : (n : ℕ) {at next to k : ℕ} → at < n → at < next → next ≤ to → k ≡ to → n - k < n - at
falls n a b c e = omega arith

-- ---- the answers

pub loop-place-init : goal.loop-place-init
loop-place-init c =
    let φ = c.requires.fresh.0 in
    begins c.requires.checked_rows (record { new = φ.new; empty = φ.empty; none = φ.none })

pub token_at-token-requires : goal.token_at-token-requires
token_at-token-requires c = next_token_there c.loop-place.invariant c.requires.checked_rows c.requires.no_trivia_if c.loop-place-test.true

pub returns-in_err-push_token-clause-laid_out : goal.returns-in_err-push_token-clause-laid_out
returns-in_err-push_token-clause-laid_out c =
    refused_as c.requires.fresh.1 c.requires.checked_rows c.ends_of-self.ensures c.loop-place.invariant c.loop-place-test.true c.token_at-token.ensures
    c.push_token.ensures c.from_residual.result c.from_residual.ensures.1 c.in_err-push_token.was

pub next_place-place-requires-clause-next_in_bounds : goal.next_place-place-requires-clause-next_in_bounds
next_place-place-requires-clause-next_in_bounds c =
    next-bounds c.requires.fresh.1 c.requires.checked_rows c.ends_of-self.ensures c.loop-place.invariant c.loop-place-test.true c.token_at-token.ensures
    c.push_token.ensures c.in_ok-push_token.was

pub next_place-place-requires-clause-next_token : goal.next_place-place-requires-clause-next_token
next_place-place-requires-clause-next_token c =
    next_there_too c.requires.fresh.1 c.requires.checked_rows c.ends_of-self.ensures c.loop-place.invariant c.loop-place-test.true c.token_at-token.ensures
    c.push_token.ensures c.in_ok-push_token.was c.requires.no_trivia_if

pub may_start_fast_tokens-requires : goal.may_start_fast_tokens-requires
may_start_fast_tokens-requires c = rows_left c.requires.checked_rows (at_place c)

pub push_fast_tokens-at-requires-clause-len_in_bounds : goal.push_fast_tokens-at-requires-clause-len_in_bounds
push_fast_tokens-at-requires-clause-len_in_bounds c = (at_place (goal.at.push_fast_tokens-at-requires-clause-len_in_bounds c).After-next_place-place).going.room

pub push_fast_tokens-at-requires-clause-last_bound : goal.push_fast_tokens-at-requires-clause-last_bound
push_fast_tokens-at-requires-clause-last_bound c = last_few (at_place (goal.at.push_fast_tokens-at-requires-clause-last_bound c).After-next_place-place).going

pub push_fast_tokens-at-requires-clause-token_boundary : goal.push_fast_tokens-at-requires-clause-token_boundary
push_fast_tokens-at-requires-clause-token_boundary c =
    boundary_there c.requires.checked_rows (at_place (goal.at.push_fast_tokens-at-requires-clause-token_boundary c).After-next_place-place)

pub loop-place-preserved-then-may_start_fast_tokens : goal.loop-place-preserved-then-may_start_fast_tokens
loop-place-preserved-then-may_start_fast_tokens c =
    let a = at_place (goal.at.loop-place-preserved-then-may_start_fast_tokens c).After-next_place-place in
    rw (c.place_at-place.ensures.0, c.place_at-place.ensures.1)
    (past_fast_tokens c.requires.checked_rows a (c.may_start_fast_tokens.ensures c.if-may_start_fast_tokens.true) c.push_fast_tokens-at.ensures.lays)

pub place_at-place-requires : goal.place_at-place-requires
place_at-place-requires c =
    let a = at_place (goal.at.place_at-place-requires c).After-next_place-place in
    fast_tokens_few c.requires.checked_rows a (c.may_start_fast_tokens.ensures c.if-may_start_fast_tokens.true) c.push_fast_tokens-at.ensures.lays

pub loop-place-smaller-then-may_start_fast_tokens : goal.loop-place-smaller-then-may_start_fast_tokens
loop-place-smaller-then-may_start_fast_tokens c =
    let α = (goal.at.loop-place-smaller-then-may_start_fast_tokens c).After-next_place-place in
    let ι = c.loop-place.invariant in
    let t = rw (rows_same ι) at c.loop-place-test.true in
    let few = fast_tokens_few c.requires.checked_rows (at_place α) (c.may_start_fast_tokens.ensures c.if-may_start_fast_tokens.true) c.push_fast_tokens-at.ensures.lays in
    falls (length c.args.self.now.rows.now) t (after_place α) few.0 c.place_at-place.ensures.0

pub may_start_fast_braces-requires : goal.may_start_fast_braces-requires
may_start_fast_braces-requires c = rows_left c.requires.checked_rows (at_place (goal.at.may_start_fast_braces-requires c).After-next_place-place)

pub push_fast_braces-at-requires-clause-at_in_bounds : goal.push_fast_braces-at-requires-clause-at_in_bounds
push_fast_braces-at-requires-clause-at_in_bounds c =
    fast_braces_place c.requires.checked_rows (at_place (goal.at.push_fast_braces-at-requires-clause-at_in_bounds c).After-next_place-place)
    c.requires.no_trivia_if (c.may_start_fast_braces.ensures c.if-may_start_fast_braces.true)

pub push_fast_braces-at-requires-clause-rows_value : goal.push_fast_braces-at-requires-clause-rows_value
push_fast_braces-at-requires-clause-rows_value c =
    fast_braces_rows c.requires.checked_rows (at_place (goal.at.push_fast_braces-at-requires-clause-rows_value c).After-next_place-place)
    c.requires.no_trivia_if (c.may_start_fast_braces.ensures c.if-may_start_fast_braces.true)

pub push_fast_braces-at-requires-clause-rows_bound : goal.push_fast_braces-at-requires-clause-rows_bound
push_fast_braces-at-requires-clause-rows_bound c =
    fast_braces_depth c.requires.checked_rows (at_place (goal.at.push_fast_braces-at-requires-clause-rows_bound c).After-next_place-place)
    c.requires.no_trivia_if (c.may_start_fast_braces.ensures c.if-may_start_fast_braces.true)

pub loop-place-preserved-then-may_start_fast_braces : goal.loop-place-preserved-then-may_start_fast_braces
loop-place-preserved-then-may_start_fast_braces c =
    let a = at_place (goal.at.loop-place-preserved-then-may_start_fast_braces c).After-next_place-place in
    rw (c.place_at-place-then-may_start_fast_braces.ensures.0, c.place_at-place-then-may_start_fast_braces.ensures.1)
    (past_fast_braces c.requires.checked_rows a c.requires.no_trivia_if (c.may_start_fast_braces.ensures c.if-may_start_fast_braces.true) c.push_fast_braces-at.ensures)

pub loop-place-preserved : goal.loop-place-preserved
loop-place-preserved c = at_place (goal.at.loop-place-preserved c).After-next_place-place

pub returns-clause-laid_out : goal.returns-clause-laid_out
returns-clause-laid_out c =
    let ι = c.loop-place.invariant in
    let e = ap length (rows_same ι) in
    laid_done ι.going (let t = c.loop-place-test.false in omega arith)
