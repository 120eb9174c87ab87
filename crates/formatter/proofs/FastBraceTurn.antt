-- What `push_token` does with a brace in a one_line block. Assumes nothing.
use mathlib.Core.Bool.{Bool, true, false, cond}
use mathlib.Core.List.{List, [], ◌∷◌, ◌++◌, append_assoc}
use mathlib.Core.Path.{◌≡◌, refl, sym, ap, ◌∙◌}
use Prim.Native.Nat.{ℕ, ◌+◌, ◌-◌, ◌<◌}
use borrow.Author.Tests.{lt-ltb}
use lib.Dec.{eqb}
use Rattle.rows.specs.Kinds.{Newline, LeftBrace, RightBrace, LeftParen, LeftBracket, Fn}
use Rattle.rows.specs.Options.{Options}
use Rattle.rows.specs.Token.{Token}
use Rattle.definition.specs.Formatter.{Formatter, set_inline_depth, set_just_closed_inline}
use Rattle.definition.specs.Act.{state, run}
use Rattle.rows.specs.Row.{row_size}
use Rattle.shared.specs.Bytes.{space, left_brace, right_brace}
use Rattle.definition.specs.Emit.{ended_by, track_fn_state}
use Rattle.definition.specs.Arms.{in_one_line_block, right_brace_arm, left_brace_arm}
use Rattle.definition.specs.PushToken.{arm, take_inline_close, turn}
use Rattle.formatter.specs.FastBraces.{FastBraces, BeforeFastBraces, after_fast_braces}
use Rattle.formatter.proofs.Turn.{by_arm_lem, with_same, fn_kept}

-- ---- one brace

-- The bytes of a `{`, with a space before it.
abbrev pub opener_bytes : List ℕ
opener_bytes = space ++ left_brace

-- The bytes of a `}`, with a space before it; but `{}` is tight.
abbrev pub closer_bytes : ℕ → List ℕ
closer_bytes prev = cond (eqb prev LeftBrace) [] space ++ right_brace

-- The place after a `{` at b, where the text then has the length `len`.
abbrev pub after_opener : FastBraces → ℕ → FastBraces
after_opener b len =
    record { at = b.at + row_size; len = len; prev = LeftBrace; depth = b.depth + 1; closed = false }

-- The place after a `}` at b, where the text then has the length `len`.
abbrev pub after_closer : FastBraces → ℕ → FastBraces
after_closer b len =
    record { at = b.at + row_size; len = len; prev = RightBrace; depth = b.depth - 1; closed = true }

-- At the place b, a token of the kind k writes xs and goes to the place r.
abbrev pub Turns : ℕ → FastBraces → List ℕ → FastBraces → Type 0
Turns k b xs r =
    (o : Options) (i : ℕ) (t : Token) (ts : List Token) (f : Formatter) (out : List ℕ) (c : ℕ) → BeforeFastBraces f b → t.kind ≡ k → t.leading ≡ [] → t.trailing ≡ []
    → run (turn o i t ts) (state f out c) ≡ state (after_fast_braces true b.closed r f) (out ++ xs) c

module _ (o : Options) (i : ℕ) (t : Token) (ts : List Token) (f : Formatter) (out : List ℕ) (c : ℕ) {b : FastBraces} (σ : BeforeFastBraces f b) (lead : t.leading ≡ []) (trail : t.trailing ≡ []) (h : 0 < b.depth) where
  abbrev taken : Formatter
  taken = take_inline_close true f

  one_line : in_one_line_block f ≡ true
  one_line = rw σ.depth (lt-ltb 0 b.depth h)

  -- The formatter after the arm.
  abbrev braced : ℕ → ℕ → Bool → Formatter
  braced k d close = ended_by k (set_just_closed_inline close (set_inline_depth d taken))

  abbrev place : ℕ → ℕ → Bool → FastBraces
  place k d close = record { at = 0; len = 0; prev = k; depth = d; closed = close }

  turned : (k : ℕ) (d : ℕ) (close : Bool) (text : List ℕ) → t.kind ≡ k → eqb k LeftParen ≡ false → eqb k LeftBracket ≡ false → eqb k Fn ≡ false → eqb k Newline ≡ false
      → run (arm o i t ts) (state taken out c) ≡ state (braced k d close) text c
      → run (turn o i t ts) (state f out c) ≡ state (after_fast_braces true b.closed (place k d close) f) text c
  turned k d close text e p q n l r =
      by_arm_lem o i t ts f out c lead trail σ.shallow σ.no_skip (rw e p) (rw e q) r refl
      ∙ ap (λ j. state (track_fn_state j (braced k d close)) text c) e
      ∙ ap (λ g. state g text c) (with_same (set_inline_depth d f) k (sym σ.mid_line) refl (fn_kept f k σ.no_fn n l) refl refl σ.closed)

  arm_open : t.kind ≡ LeftBrace → run (arm o i t ts) (state taken out c) ≡ run (left_brace_arm o i t ts) (state taken out c)
  unfolding run
  arm_open e = rw e

  open_arm : run (left_brace_arm o i t ts) (state taken out c) ≡ state (braced LeftBrace (b.depth + 1) false) (out ++ opener_bytes) c
  unfolding run left_brace_arm
  open_arm = rw (σ.no_record, σ.outside, one_line, σ.mid_line, σ.depth, append_assoc out (32 ∷ []) (123 ∷ []))

  opens : t.kind ≡ LeftBrace → run (turn o i t ts) (state f out c) ≡ state (after_fast_braces true b.closed (place LeftBrace (b.depth + 1) false) f) (out ++ opener_bytes) c
  opens e = turned LeftBrace (b.depth + 1) false (out ++ opener_bytes) e refl refl refl refl (arm_open e ∙ open_arm)

  arm-close : t.kind ≡ RightBrace → run (arm o i t ts) (state taken out c) ≡ run (right_brace_arm o) (state taken out c)
  unfolding run
  arm-close e = rw e

  abbrev gap : List ℕ
  gap = cond (eqb b.prev LeftBrace) [] space

  close-arm : run (right_brace_arm o) (state taken out c) ≡ state (braced RightBrace (b.depth - 1) true) (out ++ closer_bytes b.prev) c
  unfolding run right_brace_arm
  close-arm = rw (one_line, σ.mid_line, σ.prev, σ.depth, append_assoc out gap (125 ∷ []))

  closes :
      t.kind ≡ RightBrace
      → run (turn o i t ts) (state f out c) ≡ state (after_fast_braces true b.closed (place RightBrace (b.depth - 1) true) f) (out ++ closer_bytes b.prev) c
  closes e = turned RightBrace (b.depth - 1) true (out ++ closer_bytes b.prev) e refl refl refl refl (arm-close e ∙ close-arm)

pub open_turns : (b : FastBraces) (len : ℕ) → 0 < b.depth → Turns LeftBrace b opener_bytes (after_opener b len)
open_turns b len h o i t ts f out c σ e lead trail = opens o i t ts f out c σ lead trail h e

pub close_turns : (b : FastBraces) (len : ℕ) → 0 < b.depth → Turns RightBrace b (closer_bytes b.prev) (after_closer b len)
close_turns b len h o i t ts f out c σ e lead trail = closes o i t ts f out c σ lead trail h e
