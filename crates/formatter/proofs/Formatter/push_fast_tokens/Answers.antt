-- `formatter::Formatter::push_fast_tokens` meets its contract. Assumes nothing.
use mathlib.Core.Path.{refl, ap, ◌∙◌}
use Prim.Native.Nat.{◌≤◌}
use Rattle.rows.specs.Kinds.{Other}
use Rattle.definition.specs.Formatter.{set_prev}
use Rattle.formatter.specs.CodeState.{code_state}
use Rattle.formatter.specs.FastTokens.{fast_kinds_of}
use Rattle.formatter.proofs.FastTokens.{taken-fits, whole_row, row_known, starts, unchanged, few, few_after, goes_on}
use Rattle.formatter.proofs.Formatter.push_fast_tokens.Goals as goal
use Rattle.formatter.proofs.Formatter.push_fast_tokens.Goals.{then-bit-eq1, else-bit-eq1}

pub loop-rows-init : goal.loop-rows-init
loop-rows-init c = (
  starts c.requires.token_boundary c.requires.len_in_bounds c.requires.last_bound c.unwrap_or-prev.ensures
      c.changing_kinds-changing.ensures c.loose_after-loose.ensures c.bit-spaced.ensures,
  λ h. h,
)

pub is_fast_token-requires-clause-row_ahead : goal.is_fast_token-requires-clause-row_ahead
is_fast_token-requires-clause-row_ahead c =
    let α = c.loop-rows.invariant.0.so_far in
    λ h. (whole_row c.requires.checked α.head h, (α.head.whole, row_known c.requires.checked α.head h _ refl))

pub put_token-requires-clause-start_lt_end : goal.put_token-requires-clause-start_lt_end
put_token-requires-clause-start_lt_end c =
    let t = c.is_fast_token.ensures c.loop-rows-test.true in
    let i = c.loop-rows.invariant.0 in
    (taken-fits c.requires.checked i.so_far t.ahead t c.room.ensures (few c.requires.checked i) _ c.row_at-row.ensures c.space_before-space.ensures).0

pub bit-requires : goal.bit-requires
bit-requires c =
    let t = c.is_fast_token.ensures c.loop-rows-test.true in
    row_known c.requires.checked c.loop-rows.invariant.0.so_far.head t.ahead _ c.row_at-row.ensures

pub bit-spaced-requires-in-loop-rows : goal.bit-spaced-requires-in-loop-rows
bit-spaced-requires-in-loop-rows c =
    let t = c.is_fast_token.ensures c.loop-rows-test.true in
    row_known c.requires.checked c.loop-rows.invariant.0.so_far.head t.ahead _ c.row_at-row.ensures

pub returns-clause-lays : goal.returns-clause-lays
returns-clause-lays c =
    let i = c.loop-rows.invariant.0 in
    record {
      laid = i.so_far.done (fast_kinds_of c.args.self.now) c.fast_kinds-fast.ensures;
      changed = record { form = λ x. ap (set_prev _) (i.form x); same = record { given = i.same.given; lent = i.same.lent }; commas = i.commas };
    }

pub returns-clause-fn_state : goal.returns-clause-fn_state
returns-clause-fn_state c = c.loop-rows.invariant.1

pub loop-rows-preserved : goal.loop-rows-preserved
loop-rows-preserved c =
    let t = c.is_fast_token.ensures c.loop-rows-test.true in
    let i = c.loop-rows.invariant.0 in
    let ω = c.requires.checked in
    let known : c.row_at-row.result.kind ≤ Other = row_known ω i.so_far.head t.ahead _ c.row_at-row.ensures in
    elim c.if-bit-eq1.branch [
      | then-bit-eq1 w ↦
          let τ = w.track_fast_token.ensures in (
            goes_on ω i (ap (λ f. code_state f c.put_token.new.self) w.self-is) t c.room.ensures _ c.row_at-row.ensures c.space_before-space.ensures c.fast_kinds-fast.ensures
                (record {
                  state = τ.state;
                  form = τ.form;
                  given = τ.given;
                  sink = c.put_token.ensures;
                  commas = τ.commas;
                })
                (ap (λ s. s.0) w.changing-is ∙ w.changing_kinds-changing-then-bit-eq1.ensures)
                (ap (λ s. s.0) w.loose-is ∙ w.loose_after-loose-then-bit-eq1.ensures)
                c.bit-spaced-in-loop-rows.ensures,
            λ h. rw w.self-is (few_after τ),
          )
      | else-bit-eq1 w ↦ (
        goes_on ω i (ap (λ f. code_state f c.put_token.new.self) w.self-is) t c.room.ensures _ c.row_at-row.ensures c.space_before-space.ensures c.fast_kinds-fast.ensures
            (record {
              state = unchanged ω i c.row_at-row.result.kind known (λ e. w.if-bit-eq1.false (c.bit.ensures ∙ e));
              form = λ x. refl;
              given = refl;
              sink = c.put_token.ensures;
              commas = refl;
            })
            (ap (λ s. s.0) w.changing-is ∙ i.changing)
            (ap (λ s. s.0) w.loose-is ∙ i.loose)
            c.bit-spaced-in-loop-rows.ensures,
        λ h. rw w.self-is (c.loop-rows.invariant.1 h),
      )
    ]
