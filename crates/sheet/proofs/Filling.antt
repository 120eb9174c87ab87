-- The loop of `read_lines`: the rows so far stand first in the slices, and what is left of the sheet completes the answer. Assumes nothing.
use mathlib.Core.Bool.{Bool, true, false, true≢false}
use mathlib.Core.List.{List, [], ◌++◌}
use mathlib.Core.Path.{◌≡◌, refl, sym, ap, ◌∙◌}
use Prim.Native.Nat.{ℕ, ◌+◌, ◌*◌, ◌≤◌, ◌<◌}
use native.Mathlib.Omega.{arith}
use lib.Dec.{leb}
use lib.ListN.{length, drop, length-append, length-drop, drop_of_length-le}
use lib.Seq.{sets, sets-eq, take_at, drop-append-add, drop-drop}
use borrow.Author.Tests.{leb-true}
use Rattle.shared.specs.Report.{refuse, zeroed, put_first}
use Rattle.shared.proofs.Logic.{and_left, and_right}
use Rattle.rows.specs.Row.{row_size}
use Rattle.std.specs.Prelude.{Result, Ok, Err, is_err}
use Rattle.std.specs.Result.{IsErrAnd}
use Rattle.sheet.specs.declared.SheetSize.{SheetSize}
use Rattle.sheet.specs.declared.SheetError.{SheetError}
use Rattle.sheet.specs.declared.SheetError.TheVariants.{NoNames, BadLine, SheetFull}
use Rattle.sheet.specs.Line.{names, begins, lines, line_of}
use Rattle.sheet.specs.Row.{row_bytes}
use Rattle.sheet.specs.Answer.{reported, refusal_of, done, refused, fits, read_line, read_lines, reading, sheet_answer, sheet_rows, sheet_text}
use Rattle.sheet.specs.Steps.{line_at, after_at, Stored, StepAt, ReadAt}
use Rattle.sheet.proofs.Cut.{lines_at}
use Rattle.sheet.proofs.Writing.{row-size}

-- ---- one slice

-- the slice xs, which was xs₀, has the n bytes bs first
pub record Filled (xs₀ xs bs : List ℕ) (n : ℕ) : Type 0 where
  pub size : length bs ≡ n
  pub room : n ≤ length xs₀
  pub holds : xs ≡ bs ++ drop n xs₀

filled_none : {xs : List ℕ} → Filled xs xs [] 0
filled_none = record { size = refl; room = omega arith; holds = refl }

module _ {xs₀ xs bs : List ℕ} {n : ℕ} (φ : Filled xs₀ xs bs n) where
  pub sized : length xs ≡ length xs₀
  sized = omega (arith, ap length φ.holds, length-append bs (drop n xs₀), length-drop n xs₀, φ.size, φ.room)

  filled_first : xs ≡ put_first bs xs₀
  filled_first = φ.holds ∙ rw φ.size

  filled_more : (cs : List ℕ) {ys : List ℕ} {m : ℕ} → ys ≡ sets xs n cs → n + length cs ≡ m → m ≤ length xs₀ → Filled xs₀ ys (bs ++ cs) m
  filled_more cs {ys} {m} s e h = record {
    size = length-append bs cs ∙ rw (φ.size, e);
    room = h;
    holds =
        s ∙ sets-eq cs xs n (omega (arith, sized))
        ∙ rw (φ.holds, take_at bs (drop n xs₀) n φ.size, ← φ.size, drop-append-add bs (drop (length bs) xs₀) (length cs), drop-drop, φ.size, e);
  }

-- ---- the loop

-- at its head: n rows, whose texts have len bytes, and the sheet is read from `at` on
pub record State (sheet rows₀ text₀ rows text : List ℕ) (at n len : ℕ) : Type 0 where
  pub rs : List ℕ
  pub ts : List ℕ
  pub rows_filled : Filled rows₀ rows rs (row_size * n)
  pub text_filled : Filled text₀ text ts len
  pub left : reading sheet (length rows₀) (length text₀) ≡ read_lines (length rows₀) (length text₀) n rs ts (lines (drop at sheet))

pub begin : (sheet rows text : List ℕ) → State sheet rows text rows text 15 0 0
unfolding reading
begin sheet rows text = record { rs = []; ts = []; rows_filled = filled_none; text_filled = filled_none; left = refl }

module _ {sheet rows₀ text₀ rows text : List ℕ} {at n len : ℕ} (σ : State sheet rows₀ text₀ rows text at n len) where
  pub finished : length sheet ≤ at → ReadAt sheet rows₀ text₀ (Ok (record { rows = n; text_bytes = len })) rows text
  unfolding read_lines lines
  finished h =
      let e : reading sheet (length rows₀) (length text₀) ≡ done n σ.rs σ.ts = σ.left ∙ rw (drop_of_length-le sheet h) in
      rw e (record { report = rw σ.text_filled.size; rows_are = filled_first σ.rows_filled; text_is = filled_first σ.text_filled })

  module _ (h : at < length sheet) where
    -- the line at hand, and those after it
    one_line : reading sheet (length rows₀) (length text₀) ≡ read_line (length rows₀) (length text₀) n σ.rs σ.ts (line_of (line_at sheet at)) (λ rs ts. read_lines (length rows₀) (length text₀) (n + 1) rs ts (lines (after_at sheet at)))
    unfolding read_lines
    one_line = σ.left ∙ rw (lines_at sheet at h)

    fits-same : (k : ℕ) {b : Bool} → fits (length rows) (length text) n (len + k) ≡ b → fits (length rows₀) (length text₀) n (length σ.ts + k) ≡ b
    fits-same k e = rw (σ.text_filled.size, ← sized σ.rows_filled, ← sized σ.text_filled) e

    -- what an error of `read_line` tells
    pub stopped : (e : SheetError) (xs ys : List ℕ) → StepAt sheet at rows n text len (Err e) xs ys → reading sheet (length rows₀) (length text₀) ≡ refused (refusal_of e).refusal (refusal_of e).first
    stopped NoNames xs ys τ = absurd τ
    stopped (BadLine line) xs ys τ = one_line ∙ rw (τ.1, τ.0)
    stopped (SheetFull line) xs ys τ = one_line ∙ rw (τ.1.says, fits-same (length τ.1.bs) τ.1.unfit, τ.0)

    module _ {next end : ℕ} {xs ys : List ℕ} (τ : Stored sheet at rows n text len next end xs ys) where
      row_room : row_size * n + row_size ≤ length rows
      row_room = leb-true _ _ (and_left (leb (row_size * n + row_size) (length rows)) _ τ.fit)

      text-room : len + length τ.bs ≤ length text
      text-room = leb-true _ _ (and_left (leb (len + length τ.bs) (length text)) _ (and_right (leb (row_size * n + row_size) (length rows)) _ τ.fit))

      pub more : State sheet rows₀ text₀ xs ys next (n + 1) end
      more = record {
        rs = σ.rs ++ row_bytes τ.what τ.kind len end;
        ts = σ.ts ++ τ.bs;
        rows_filled = filled_more σ.rows_filled (row_bytes τ.what τ.kind len end) τ.rows_are (omega (arith, row-size τ.what τ.kind len end)) (omega (arith, row_room, sized σ.rows_filled));
        text_filled = filled_more σ.text_filled τ.bs τ.text_is (sym τ.end_is) (omega (arith, text-room, τ.end_is, sized σ.text_filled));
        left = one_line ∙ rw (τ.says, fits-same (length τ.bs) τ.fit, σ.text_filled.size, ← τ.end_is, τ.rest);
      }

-- an error that `?` hands on
pub refuses : (sheet rows text xs ys : List ℕ) (e : SheetError) (r : Result SheetSize SheetError) → IsErrAnd r (λ f. f ≡ e) → reading sheet (length rows) (length text) ≡ refused (refusal_of e).refusal (refusal_of e).first → ReadAt sheet rows text r xs ys
refuses sheet rows text xs ys e (Ok size) h w = absurd h
refuses sheet rows text xs ys e (Err f) h w = rw h w

-- ---- the whole sheet

-- the answer a and the slices xs and ys at the end
pub record Answered (sheet rows₀ text₀ : List ℕ) (a : Result SheetSize SheetError) (xs ys : List ℕ) : Type 0 where
  pub report : reported a ≡ sheet_answer sheet (length rows₀) (length text₀)
  pub rows : xs ≡ sheet_rows sheet rows₀ text₀
  pub text : ys ≡ sheet_text sheet rows₀ text₀

pub unnamed : (sheet rows text : List ℕ) → begins names sheet ≡ false → Answered sheet rows text (Err NoNames) rows text
unfolding sheet_answer sheet_rows sheet_text
unnamed sheet rows text e = record { report = rw e; rows = rw e; text = rw e }

reported_error : (e : SheetError) → reported (Err e) ≡ refuse (refusal_of e).refusal (refusal_of e).first
reported_error NoNames = refl
reported_error (BadLine line) = refl
reported_error (SheetFull line) = refl

module _ (sheet rows₀ text₀ : List ℕ) (named : begins names sheet ≡ true) where
  pub answered : (r : Result SheetSize SheetError) {xs ys : List ℕ} → is_err r ≡ false → ReadAt sheet rows₀ text₀ r xs ys → Answered sheet rows₀ text₀ r xs ys
  unfolding sheet_answer sheet_rows sheet_text
  answered (Ok size) h w = record { report = w.report ∙ rw named; rows = w.rows_are ∙ rw named; text = w.text_is ∙ rw named }
  answered (Err e) h w = absurd (true≢false h)

  -- a refusal zeroes the slices
  pub zeroes : (r : Result SheetSize SheetError) (xs ys : List ℕ) {xs' ys' : List ℕ} → is_err r ≡ true → ReadAt sheet rows₀ text₀ r xs ys → xs' ≡ zeroed rows₀ → ys' ≡ zeroed text₀ → Answered sheet rows₀ text₀ r xs' ys'
  unfolding sheet_answer sheet_rows sheet_text
  zeroes (Ok size) xs ys h w x y = absurd (true≢false (sym h))
  zeroes (Err e) xs ys h w x y = record { report = reported_error e ∙ rw (named, w); rows = x ∙ rw (named, w); text = y ∙ rw (named, w) }
