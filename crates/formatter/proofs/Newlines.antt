-- A Newline that is not swallowed: whether it writes a line feed, in one test. Assumes nothing.
use mathlib.Core.Bool.{false, ◌&&◌, ◌||◌}
use mathlib.Core.List.{List}
use mathlib.Core.Path.{◌≡◌, sym}
use Prim.Native.Nat.{ℕ}
use Rattle.shared.proofs.Logic.{split}
use Rattle.rows.specs.Token.{Token}
use Rattle.lookahead.specs.Measure.{next_has_comment, is_empty}
use Rattle.definition.specs.Act.{State, choose, nothing, run}
use Rattle.definition.specs.Emit.{is_at}
use Rattle.definition.specs.Arms.{in_one_line_block, ends_with_two_feeds, newline_arm, feed_line}
use Rattle.formatter.specs.CodeState.{Locals, CodeState, newline_of}
use Rattle.formatter.specs.Parts.{feeds_line}
use Rattle.formatter.specs.Does.{Does}
use Rattle.formatter.proofs.Does.{same-run}

run_newline : (i : ℕ) (ts : List Token) (s : State) → is_at s.formatter.suppress_newline_at i ≡ false → run (newline_arm i ts) s ≡ run (choose (feeds_line ts) feed_line nothing) s
unfolding run newline_arm
run_newline i ts s h =
    split (is_empty s.out && next_has_comment ts) (λ e. rw (h, e))
    (λ e. split (s.formatter.in_record || in_one_line_block s.formatter) (λ f. rw (h, e, f))
    (λ f. split s.formatter.at_line_start (λ g. split (ends_with_two_feeds s.out) (λ k. rw (h, e, f, g, k)) (λ k. rw (h, e, f, g, k)))
    (λ g. rw (h, e, f, g))))

pub newline :
    (i : ℕ) (ts : List Token) {x : Locals} {p q : CodeState} → is_at (newline_of p.form.suppress_newline_at) i ≡ false
    → Does (choose (feeds_line ts) feed_line nothing) x p q → Does (newline_arm i ts) x p q
newline i ts h d = same-run {a = choose (feeds_line ts) feed_line nothing} (sym (run_newline i ts _ h)) d
