-- `formatter::Formatter::push_token` meets its contract. Assumes nothing.
use mathlib.Core.Bool.{false}
use mathlib.Core.Path.{◌≡◌, sym, ◌∙◌}
use native.Mathlib.Omega.{arith}
use lib.Dec.{ltb}
use lib.ListN.{length}
use Rattle.formatter.specs.CodeState.{code_state, options_of, given}
use Rattle.formatter.specs.Does.{Puts}
use Rattle.formatter.specs.Trivia.{trivia_in, lead_token}
use Rattle.formatter.proofs.Pushed.{Armed, Calls, written, left_out, lead_rows, no_leading}
use Rattle.formatter.proofs.Pushed.{pushed-lead-full, pushed_ready, pushed_rows, pushed_ends, pushed_deep, pushed_trail_rows, pushed_full, pushed_ok}
use Rattle.formatter.proofs.Formatter.push_token.Goals as goal
use Rattle.formatter.proofs.Formatter.push_token.Goals.{Joined-token, After-push_arm, After-track_fn_state, then-token, else-token+else-is_full, then-trails, else-trails}

-- The leading trivia are written, or there are none.
abbrev LeadAt : Joined-token → Type 0
LeadAt c =
    let p = c.args.self.now in
    Puts (lead_token (options_of p.options) (trivia_in p.rows.now p.text.now c.args.token.lead c.args.token.own))
    p c.args.sink.now c.if-token.self c.if-token.sink

leading : (c : Joined-token) → LeadAt c
leading c =
    elim c.if-token.branch [
      | then-token w ↦ rw (w.self-is, w.sink-is) (no_leading c.requires w.if-token.true)
      | else-token+else-is_full w ↦ rw (w.self-is, w.sink-is) w.push_leading.ensures
    ]

-- They fit.
fits : (c : Joined-token) → ltb (length c.if-token.sink.out.now) c.if-token.sink.len ≡ false
fits c =
    elim c.if-token.branch [
      | then-token w ↦ rw w.sink-is (let z = c.requires.ready.fits.within in search (arith))
      | else-token+else-is_full w ↦ rw w.sink-is (sym w.is_full.ensures ∙ w.if-is_full.false)
    ]

-- What the calls of the turn say, after the leading trivia.
abbrev ArmedAt : After-push_arm → Type 0
ArmedAt c =
    Armed (given c.if-token.self) c.args.token (code_state c.args.self.now c.args.sink.now) (code_state c.if-token.self c.if-token.sink)
    c.overflows.result c.takes_inline_close-inline_close.result c.writes_trailing-trails.result
    (code_state c.push_arm.new.self c.push_arm.new.sink)

armed : (c : After-push_arm) → ArmedAt c
armed c =
    record {
      overflow = c.overflows.ensures;
      calm = c.if-overflows.false;
      taken = c.takes_inline_close-inline_close.ensures;
      trailing = c.writes_trailing-trails.ensures;
      arms = c.push_arm.ensures;
    }

abbrev CallsAt : After-track_fn_state → Type 0
CallsAt c =
    Calls (given c.if-token.self) c.args.token (code_state c.args.self.now c.args.sink.now) (code_state c.if-token.self c.if-token.sink)
    c.overflows.result c.takes_inline_close-inline_close.result c.writes_trailing-trails.result
    (code_state c.push_arm.new.self c.push_arm.new.sink) (code_state c.push_arm.new.self c.if-trails.sink)
    (code_state c.track_fn_state.new.self c.if-trails.sink)

calls : (c : After-track_fn_state) → CallsAt c
calls c =
    record {
      armed = armed (goal.at.After-track_fn_state c).After-push_arm;
      trailed = elim c.if-trails.branch [
        | then-trails w ↦ written w.if-trails.true (rw w.sink-is w.push_trailing.ensures)
        | else-trails w ↦ left_out w.if-trails.false (rw w.sink-is)
      ];
      tracked = c.track_fn_state.ensures _;
    }

-- ---- the answers

pub push_leading-requires-clause-whole_rows : goal.push_leading-requires-clause-whole_rows
push_leading-requires-clause-whole_rows c = lead_rows c.requires

pub returns-then-is_full : goal.returns-then-is_full
returns-then-is_full c = rw c.full_at.ensures (pushed-lead-full c.requires c.push_leading.ensures (sym c.is_full.ensures ∙ c.if-is_full.true))

pub overflows-requires : goal.overflows-requires
overflows-requires c = pushed_ends c.requires (leading c) (fits c)

pub returns-then-overflows : goal.returns-then-overflows
returns-then-overflows c =
    let a = goal.at.returns-then-overflows c in
    let j = a.Joined-token in
    pushed_deep c.requires (leading j) (fits j) (λ t ts σ. sym c.if-overflows.true ∙ c.overflows.ensures t ts σ)

pub writes_trailing-trails-requires : goal.writes_trailing-trails-requires
writes_trailing-trails-requires c =
    let j = (goal.at.writes_trailing-trails-requires c).Joined-token in
    let r = pushed_rows c.requires (leading j) (fits j) in
    (r.own, r.next)

pub push_arm-requires-clause-ready : goal.push_arm-requires-clause-ready
push_arm-requires-clause-ready c =
    let j = (goal.at.push_arm-requires-clause-ready c).Joined-token in
    pushed_ready c.requires (leading j) (fits j)

pub push_arm-requires-clause-in_rows : goal.push_arm-requires-clause-in_rows
push_arm-requires-clause-in_rows c =
    let j = (goal.at.push_arm-requires-clause-in_rows c).Joined-token in
    (pushed_rows c.requires (leading j) (fits j), pushed_ends c.requires (leading j) (fits j))

pub push_trailing-requires : goal.push_trailing-requires
push_trailing-requires c =
    let a = goal.at.push_trailing-requires c in
    pushed_trail_rows c.requires (leading a.Joined-token) (fits a.Joined-token) (armed a.After-push_arm)

pub returns-then-is_full-2 : goal.returns-then-is_full-2
returns-then-is_full-2 c =
    let a = goal.at.returns-then-is_full-2 c in
    let j = a.Joined-token in
    rw c.full_at-then-is_full-2.ensures (pushed_full c.requires (leading j) (fits j) (calls a.After-track_fn_state) (sym c.is_full-2.ensures ∙ c.if-is_full-2.true))

pub returns : goal.returns
returns c =
    let a = goal.at.returns c in
    let j = a.Joined-token in
    pushed_ok c.requires (leading j) (fits j) (calls a.After-track_fn_state) (sym c.is_full-2.ensures ∙ c.if-is_full-2.false)
