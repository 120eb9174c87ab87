-- The arm of `{` by the tests that the code makes: an empty record, a block over several lines by its style, a one_line block.
-- Assumes nothing.
use mathlib.Core.Bool.{true, false, cond, ◌&&◌}
use mathlib.Core.List.{List, [], ◌∷◌, ◌++◌, append-nil, append_assoc}
use mathlib.Core.Path.{◌≡◌, sym, ap}
use Prim.Native.Nat.{ℕ, ◌+◌}
use native.Mathlib.Omega.{arith}
use borrow.Author.Tests.{ltb-false}
use Rattle.shared.proofs.Logic.{split}
use Rattle.rows.specs.Kinds.{LeftBrace, RightBrace}
use Rattle.rows.specs.Options.{Options, SameLine, Allman}
use Rattle.rows.specs.Token.{Token}
use Rattle.lookahead.specs.Measure.{block_is_single_line}
use Rattle.definition.specs.Formatter.{Formatter, set_inline_depth, set_record_pending, set_in_record, set_record_depth}
use Rattle.definition.specs.Act.{State, Act, update, ◌⨾◌, if, run}
use Rattle.shared.specs.Bytes.{left_brace}
use Rattle.definition.specs.Emit.{ended_by, indent_or_space, open_block_multiline, open_allman, open_same_line}
use Rattle.definition.specs.Arms.{in_one_line_block, empty_record, open_block, left_brace_arm, open_inner_inline, open_inline}
use Rattle.lookahead.specs.Measure.{next_is}
use Rattle.definition.proofs.Said.{said}
use Rattle.sink.specs.Appends.{Appends}
use Rattle.formatter.specs.CodeState.{Locals, CodeState, options_of, state_of, formatter_of, given}
use Rattle.formatter.specs.Parts.{opens_block, record_entered, open_one_line, braced}
use Rattle.formatter.specs.Does.{Same, Does}
use Rattle.formatter.proofs.Does.{same-run, same_options, does, yes, no}

-- ---- the options, which a method that was called left as they were

same-act : {a b : Act} {x : Locals} {p q : CodeState} → a ≡ b → Does a x p q → Does b x p q
same-act e d = rw e at d

pub by_options : (a : Options → Act) {p m q : CodeState} {x : Locals} → Same p m → Does (a (options_of m.form.options)) x m q → Does (a (options_of p.form.options)) x m q
by_options a s d = same-act (ap (λ o. a (options_of o)) (same_options s)) d

-- ---- a block over several lines, by its style

module _ (o : Options) (i : ℕ) {x : Locals} {p q : CodeState} where
  pub block_same_line : o.brace_style ≡ SameLine → Does (braced open_same_line) x p q → Does (open_block o i) x p q
  unfolding run open_block_multiline
  block_same_line e d = same-run {a = braced open_same_line} (rw e) d

  pub block_allman : o.brace_style ≡ Allman → Does (braced (open_allman o i)) x p q → Does (open_block o i) x p q
  unfolding run open_block_multiline
  block_allman e d = same-run {a = braced (open_allman o i)} (rw e) d

-- ---- a one_line block: the indent or a space and the brace, in one write

-- The bytes that the `{` of a one-line block writes; an inner one at a line's start writes no brace.
abbrev one_line_bytes : Options → Formatter → List ℕ
one_line_bytes o f = indent_or_space o f ++ cond (in_one_line_block f && f.at_line_start) [] left_brace

pub one_line :
    (o : Options) {x : Locals} {p q : CodeState}
    → given q.form ≡ given p.form → ended_by LeftBrace (set_inline_depth (p.form.inline_depth.0 + 1) (formatter_of p.form x)) ≡ formatter_of q.form x
    → p.form.commas ≡ q.form.commas
    → Appends p.sink (one_line_bytes o (formatter_of p.form x)) q.sink
    → Does (open_one_line o) x p q
unfolding run said
one_line o {x} {p} {q} z c k w =
    split (in_one_line_block (formatter_of p.form x))
    (λ e. yes (λ n. e)
    (split p.form.at_line_start
    (λ f. does z (rw f c) (rw f k) (rw f (rw (e, f) at w)))
    (λ f. does z (rw f c) (rw f k) (rw f (rw (e, f) at w)))))
    (λ e. no (λ n. e)
    (let n : p.form.inline_depth.0 ≡ 0 = omega (arith, ltb-false 0 p.form.inline_depth.0 e) in
    does z (rw n at c) k (rw e at w)))

-- ---- an empty record's bytes

pub closed_up : (a b c : List ℕ) → a ++ (b ++ c) ≡ (a ++ (b ++ [])) ++ c
closed_up a b c = rw (append-nil b) (sym (append_assoc a b c))

-- ---- the arm, over any acts in the places of its own

module _ (t : Token) (ts : List Token) (empty inner inline block : Act) where
  abbrev by_tests : Act
  by_tests =
      if (λ f. f.record_pending && next_is RightBrace ts) empty
      (if (opens_block (t ∷ ts)) (update record_entered ⨾ block)
      (if in_one_line_block inner inline))

  abbrev by_arm : Act
  by_arm =
      if (λ f. f.record_pending)
      (if (λ f. next_is RightBrace ts) empty (update (λ f. set_record_depth 1 (set_in_record true (set_record_pending false f))) ⨾ block))
      (if (λ f. f.in_record) (update (λ f. set_record_depth (f.record_depth + 1) f) ⨾ block)
      (if in_one_line_block inner (if (λ f. block_is_single_line (t ∷ ts)) inline block)))

  run_brace : (s : State) → run by_tests s ≡ run by_arm s
  unfolding run
  run_brace s =
      split s.formatter.record_pending (λ e. split (next_is RightBrace ts) (λ f. rw (e, f)) (λ f. rw (e, f)))
      (λ e. split s.formatter.in_record (λ f. rw (e, f))
      (λ f. split (in_one_line_block s.formatter) (λ g. rw (e, f, g))
      (λ g. split (block_is_single_line (t ∷ ts)) (λ h. rw (e, f, g, h)) (λ h. rw (e, f, g, h)))))

pub brace :
    (o : Options) (i : ℕ) (t : Token) (ts : List Token) {x : Locals} {p q : CodeState}
    → Does (by_tests t ts (empty_record o t) (open_inner_inline o) (open_inline o) (open_block o i)) x p q → Does (left_brace_arm o i t ts) x p q
unfolding left_brace_arm
brace o i t ts {x} {p} d = same-run {a = by_tests t ts (empty_record o t) (open_inner_inline o) (open_inline o) (open_block o i)} (run_brace t ts (empty_record o t) (open_inner_inline o) (open_inline o) (open_block o i) (state_of x p)) d
