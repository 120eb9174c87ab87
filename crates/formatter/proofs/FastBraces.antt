-- The loop over fast braces: what holds at each turn, and what a turn does with it. Assumes nothing.
use mathlib.Core.Bool.{Bool, true, false, not}
use mathlib.Core.List.{List, [], ◌∷◌, ◌++◌}
use mathlib.Core.Option.{none, some}
use mathlib.Core.Path.{◌≡◌, refl, sym, ap, ◌∙◌}
use Prim.Native.Nat.{ℕ, ◌+◌, ◌-◌, ◌/◌, ◌≤◌, ◌<◌}
use native.Mathlib.Omega.{arith}
use borrow.Author.Tests.{lt-ltb}
use lib.Dec.{eqb, ltb}
use lib.ListN.{length, take, drop, replicate}
use lib.Seq.{length-take-le}
use Rattle.shared.proofs.Logic.{split}
use Rattle.rows.specs.Kinds.{LeftBrace, RightBrace, Other}
use Rattle.rows.specs.Row.{Row, row_at, rows_of}
use Rattle.rows.specs.Options.{Options}
use Rattle.rows.specs.Token.{tokens_of}
use Rattle.definition.specs.Formatter.{Formatter}
use Rattle.definition.specs.Act.{state}
use Rattle.definition.specs.Layout.{finished, lay_from}
use Rattle.sink.specs.Sink.{Writes}
use Rattle.sink.proofs.Sink.{later}
use Rattle.std.specs.Int.{from_bool}
use Rattle.std.specs.Prelude.{min}
use Rattle.sink.specs.declared.write.Sink.{Sink}
use Rattle.formatter.specs.CodeState.{Locals, CodeState, prev_of, formatter_of}
use Rattle.formatter.specs.Token.{kind_of}
use Rattle.formatter.specs.Format.{only_tokens}
use Rattle.formatter.specs.FastBraces.{FastBraces, MayStartFastBraces, BeforeFastBraces, after_fast_braces, fast_braces_at, FastBracesLaidOut}
use Rattle.formatter.proofs.RunEnd.{RowAt, first_at}
use Rattle.formatter.proofs.BareRow.{row_token, only_after, lay-turn}
use Rattle.formatter.proofs.FastBraceTurn.{Turns, opener_bytes, closer_bytes, after_opener, after_closer, open_turns, close_turns}

-- ---- what holds at the loop's head

-- From the place `from` and the output l, fast braces are laid out up to the place b and the output m.
pub record FastBracesSoFar (rows : List ℕ) (from : FastBraces) (l : List ℕ) (b : FastBraces) (m : List ℕ) : Type 0 where
  pub far : from.at ≤ b.at
  pub only : only_tokens (rows_of (drop b.at rows)) ≡ true
  pub done : FastBracesLaidOut rows from l m b

-- The same of the sinks, s at the call and t at the loop's head, where these rows are left.
pub record FastBracesLoop (rows : List ℕ) (from b : FastBraces) (s t : Sink) (rs : List Row) : Type 0 where
  pub so_far : FastBracesSoFar rows from s.out.now b t.out.now
  pub left : rs ≡ rows_of (drop b.at rows)
  pub lent : t.out.ghost_name ≡ s.out.ghost_name

pub next_at : {rows : List ℕ} {from b : FastBraces} {s t : Sink} {left : List Row} → FastBracesLoop rows from b s t left → {r : Row} {rs : List Row} → left ≡ r ∷ rs → RowAt rows b.at r rs
next_at i e = first_at _ _ (sym i.left ∙ e)

-- ---- one brace

still_before_fast_braces : {f : Formatter} {b : FastBraces} (taken close : Bool) (r : FastBraces) → BeforeFastBraces f b → BeforeFastBraces (after_fast_braces taken close r f) r
still_before_fast_braces taken close r σ =
    record {
      mid_line = σ.mid_line;
      prev = refl;
      no_fn = σ.no_fn;
      no_record = σ.no_record;
      outside = σ.outside;
      depth = refl;
      closed = refl;
      no_skip = σ.no_skip;
      shallow = σ.shallow;
    }

module _ {rows l m : List ℕ} {from b : FastBraces} (α : FastBracesSoFar rows from l b m) (here : b.at + 16 ≤ length rows) where
  module _ {k : ℕ} {xs m' : List ℕ} (r : FastBraces) (kind : (row_at rows b.at).kind ≡ k) (turns : Turns k b xs r) (next : r.at ≡ b.at + 16) (last : r.prev ≤ Other) (deep : r.depth ≤ b.depth + 1) (fits : b.len + length xs ≤ length m) (w : Writes m b.len xs m' r.len) where
    text-fits : length (take r.len m') ≤ length l
    text-fits =
        let u = (w.fits fits).far in
        let s = w.size in
        let z = α.done.size in
        omega (arith, length-take-le r.len m' (omega arith))

    step : (text : List ℕ) (o : Options) (f : Formatter) (c j : ℕ) → BeforeFastBraces f from
        → lay_from o (length l) (finished (state (after_fast_braces (ltb from.at b.at) α.done.close b f) (take b.len m) c)) j (tokens_of (drop b.at rows) text)
        ≡ lay_from o (length l) (finished (state (after_fast_braces true b.closed r f) (take r.len m') c)) (j + 1) (tokens_of (drop (b.at + 16) rows) text)
    step text o f c j σ =
        let g = after_fast_braces (ltb from.at b.at) α.done.close b f in
        let e = turns o j (row_token text (row_at rows b.at)) (tokens_of (drop (b.at + 16) rows) text) g (take b.len m) c (still_before_fast_braces (ltb from.at b.at) α.done.close b σ) kind refl refl in
        lay-turn rows b.at α.only here text o (length l) j (state g (take b.len m) c) (e ∙ ap (λ x. state (after_fast_braces true b.closed r f) x c) (sym (w.fits fits).text)) text-fits σ.shallow

    more : FastBracesSoFar rows from l r m'
    more =
        let u = w.fits fits in
        let uf = u.far in
        let z = w.size in
        let δ = α.done in
        let g = α.far in
        record {
          far = omega arith;
          only = rw next (only_after rows b.at α.only here);
          done =
              record {
                whole = let x = δ.whole in omega arith;
                within = let x = here in omega arith;
                last = λ e. last;
                size = w.size ∙ δ.size;
                far = let y = δ.far in omega arith;
                room = omega arith;
                rest = u.rest ∙ later b.len r.len m l (omega arith) δ.rest;
                deep = let x = δ.deep in omega arith;
                close = b.closed;
                lays = λ text o f c i σ.
                    let j : i + (r.at - from.at) / 16 ≡ i + (b.at - from.at) / 16 + 1 = omega arith in
                    let e : ltb from.at r.at ≡ true = lt-ltb from.at r.at (omega arith) in
                    rw (j, e, next) (δ.lays text o f c i σ ∙ step text o f c (i + (b.at - from.at) / 16) σ);
              };
        }

  -- The same by the code's row, and by the place that it comes to.

  read : {n : ℕ} (k : ℕ) → k < Other → min n Other ≡ k → n ≡ k
  read k h e = omega arith

  pub goes_open :
      (row : Row) {r : FastBraces} {m' : List ℕ} → row ≡ row_at rows b.at → min row.kind Other ≡ LeftBrace → 0 < b.depth → 2 ≤ length m - b.len
      → Writes m b.len opener_bytes m' r.len × (r ≡ after_opener b r.len) → FastBracesSoFar rows from l r m'
  goes_open row {r} {m'} e k d f w =
      rw w.1 (more _ (rw e at (read LeftBrace (omega arith) k)) (open_turns b r.len d) refl (omega arith) (omega arith) (let x = α.done.room in omega arith) w.0)

  closer-fits : 2 ≤ length m - b.len → b.len + length (closer_bytes b.prev) ≤ length m
  closer-fits f =
      let x = α.done.room in
      split (eqb b.prev LeftBrace) (λ e. rw e (omega arith)) (λ e. rw e (omega arith))

  pub goes_close :
      (row : Row) {r : FastBraces} {m' : List ℕ} → row ≡ row_at rows b.at → min row.kind Other ≡ RightBrace → 0 < b.depth → 2 ≤ length m - b.len
      → Writes m b.len (closer_bytes b.prev) m' r.len × (r ≡ after_closer b r.len) → FastBracesSoFar rows from l r m'
  goes_close row {r} {m'} e k d f w =
      rw w.1 (more _ (rw e at (read RightBrace (omega arith) k)) (close_turns b r.len d) refl (omega arith) (omega arith) (closer-fits f) w.0)

-- ---- where they begin

pub before_fast_braces :
    (p : CodeState) → MayStartFastBraces p.form → (at : ℕ) (x : Locals) → prev_of p.form.prev ≡ some (kind_of p.form.prev) → x.skip_next ≡ false → x.too_deep ≡ none
    → BeforeFastBraces (formatter_of p.form x) (fast_braces_at p at)
before_fast_braces p ν at x q s d =
    record {
      mid_line = ν.mid_line;
      prev = q;
      no_fn = ν.no_fn;
      no_record = ν.no_record;
      outside = ν.outside;
      depth = refl;
      closed = refl;
      no_skip = s;
      shallow = d;
    }

-- The bytes of a `}` after the last kind.
pub closer_is : (k : ℕ) {n : ℕ} → n ≡ from_bool (not (eqb k LeftBrace)) → replicate n 32 ++ (125 ∷ []) ≡ closer_bytes k
closer_is k e = split (eqb k LeftBrace) (λ h. rw (e, h)) (λ h. rw (e, h))
