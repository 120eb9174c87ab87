-- The loop over the tokens: what holds at each turn, and what a turn does with it. Assumes nothing.
use mathlib.Core.Bool.{cond}
use mathlib.Core.List.{List, [], ◌∷◌}
use mathlib.Core.Option.{none, some}
use mathlib.Core.Option as Math
use mathlib.Core.Path.{◌≡◌, refl, sym, ap, subst, ◌∙◌}
use Prim.Native.Nat.{ℕ, ◌+◌, ◌*◌, ◌≤◌, ◌<◌}
use native.Mathlib.Omega.{arith}
use borrow.Author.Tests.{le-ltb, ltb-false}
use lib.Dec.{ltb}
use lib.ListN.{length, take, drop, take-append-drop}
use lib.Seq.{length-take-le}
use Rattle.std.specs.Prelude.{Result, Ok, Err}
use Rattle.shared.specs.Report.{deep, full}
use Rattle.shared.proofs.Logic.{split}
use Rattle.rows.specs.Options
use Rattle.rows.specs.Token.{Token, tokens_of}
use Rattle.definition.specs.Formatter
use Rattle.definition.specs.Act.{State, run}
use Rattle.definition.specs.Emit.{is_some}
use Rattle.definition.specs.PushToken.{turn, begun}
use Rattle.definition.specs.Layout.{Ended, finished, stopped, checked, lay_from}
use Rattle.definition.proofs.Growth.{depth, Grown, turn_grown}
use Rattle.definition.proofs.Last.{Told, turn_told}
use Rattle.sink.proofs.Sink.{later}
use Rattle.formatter.specs.declared.Formatter.{Formatter}
use Rattle.formatter.specs.declared.Finished.{Finished}
use Rattle.formatter.specs.declared.WalkError.{WalkError}
use Rattle.formatter.specs.CodeState.{Locals, Given, CodeState, state_of, locals_of, options_of, given}
use Rattle.formatter.specs.Does.{Does, Arrives}
use Rattle.formatter.specs.Token.{depth_of, kind_of}
use Rattle.formatter.specs.Format.{TokenBoundary, Fresh, CheckedRows, walk_of, formatted_of, pushed_of, error_of, LaidOut, next_row, own_row}
use Rattle.formatter.proofs.Does.{far}
use Rattle.formatter.proofs.Pushed.{depth-signature, kinds_same}
use Rattle.formatter.proofs.Place.{head_first, token_here, tokens_next, tokens_here, tokens_next_lem, head-next, kind_here}
use Rattle.formatter.proofs.BareRow.{lay-more}

-- ---- the definition's loop

lay-stopped : (o : Options.Options) (size n j i : ℕ) (ts : List Token) → lay_from o size (stopped n j) i ts ≡ stopped n j
unfolding lay_from
lay-stopped o size n j i [] = refl
lay-stopped o size n j i (t ∷ ts) = lay-stopped o size n j (i + 1) ts

-- How the definition's loop goes on from a token, by how the code tells it.
walk-stops :
    (o : Options.Options) (size j : ℕ) (ts : List Token) (end : Ended) {e : WalkError} → Err e ≡ pushed_of end
    → Err e ≡ formatted_of (lay_from o size end j ts)
walk-stops o size j ts (finished s) q = let y : ◌≡◌ {A = ℕ} 0 1 = cc in absurd (omega arith)
walk-stops o size j ts (stopped n i) {e} q = let y : e ≡ error_of n i = cc in rw (y, lay-stopped o size n i j ts)

unrefused : (d : Math.Option ℕ) (i : ℕ) (s : State) → ◌≡◌ {A = Result (Unit {0}) WalkError} (Ok tt) (pushed_of (cond (is_some d) (stopped deep i) (finished s))) → d ≡ none
unrefused none i s q = refl
unrefused (some j) i s q = let y : ◌≡◌ {A = ℕ} 0 1 = cc in absurd (omega arith)

-- A token that is laid out fits, and is not refused.
pub laid_fits : (size i : ℕ) (s : State) → Ok tt ≡ pushed_of (checked size i s) → length s.out ≤ size
laid_fits size i s q =
    split (ltb size (length s.out))
    (λ e. let w : ◌≡◌ {A = Result (Unit {0}) WalkError} (Ok tt) (Err (error_of full i)) = rw e at q in let y : ◌≡◌ {A = ℕ} 0 1 = cc in absurd (omega arith))
    (λ e. ltb-false size (length s.out) e)

pub laid_shallow : (size i : ℕ) (s : State) → Ok tt ≡ pushed_of (checked size i s) → s.formatter.too_deep ≡ none
laid_shallow size i s q =
    let w : ◌≡◌ {A = Result (Unit {0}) WalkError} (Ok tt) (pushed_of (cond (is_some s.formatter.too_deep) (stopped deep i) (finished s))) = rw (le-ltb size (length s.out) (laid_fits size i s q)) at q in
    unrefused s.formatter.too_deep i s w

-- ---- the counts

-- Each count is at most n.
pub record AtMost (n : ℕ) (f : Formatter) : Type 0 where
  pub indent : f.indent ≤ n
  pub group : f.group_depth.0 ≤ n
  pub inline : f.inline_depth.0 ≤ n
  pub records : f.record_depth.0 ≤ n
  pub signature : depth_of f.sig_break_depth ≤ n
  pub commas : f.commas ≤ n

-- ---- what holds between two tokens: i of them are laid out, and the next one's rows begin at `at`

-- How the definition's walk over what z gives ends, in an output of this length.
abbrev pub walk_over : Given → List ℕ → Ended
walk_over z l = walk_of z.source.rows.now z.source.text.now (options_of z.options) l

pub record Going (z : Given) (l₀ : List ℕ) (i at : ℕ) (x : Locals) (p : CodeState) : Type 0 where
  pub head : TokenBoundary z.source.rows.now z.source.text.now at
  pub index : 16 * i ≤ at
  pub size : length p.sink.out.now ≡ length l₀
  pub room : p.sink.len ≤ length p.sink.out.now
  pub lays :
      lay_from (options_of z.options) (length l₀) (finished (state_of x p)) i (tokens_of (drop at z.source.rows.now) z.source.text.now)
      ≡ walk_over z l₀
  pub rest : drop p.sink.len p.sink.out.now ≡ drop p.sink.len l₀
  pub shallow : x.too_deep ≡ none
  pub told : Told (state_of x p).formatter
  pub counts : AtMost (20 * i) p.form

-- The last kind is a kind.
pub last_few : {z : Given} {l₀ : List ℕ} {i at : ℕ} {x : Locals} {p : CodeState} → Going z l₀ i at x p → kind_of p.form.prev ≤ 34
last_few {p = p} γ = rw (kinds_same p.form.prev) at γ.told.last

fresh_state : {f : CodeState} → Fresh f.form f.sink → state_of (locals_of Formatter.new) f ≡ begun
fresh_state φ = rw (φ.new, φ.empty, φ.none)

pub starts : {f : CodeState} → CheckedRows f.form.rows.now f.form.text.now → Fresh f.form f.sink → Going (given f.form) f.sink.out.now 0 0 (locals_of Formatter.new) f
starts {f} ω φ =
    record {
      head = head_first ω;
      index = omega arith;
      size = refl;
      room = let z = φ.empty in omega arith;
      lays = rw (fresh_state φ);
      rest = refl;
      shallow = refl;
      told = rw φ.new (record { last = omega arith; mid_line = λ e. let z : ◌≡◌ {A = ℕ} 0 1 = cc in absurd (omega arith) });
      counts =
          record {
            indent = le_zero (ap (λ g. g.indent) φ.new);
            group = le_zero (ap (λ g. g.group_depth) φ.new);
            inline = le_zero (ap (λ g. g.inline_depth) φ.new);
            records = le_zero (ap (λ g. g.record_depth) φ.new);
            signature = le_zero (sym (depth-signature f.form.sig_break_depth) ∙ ap (λ g. depth g.sig_break_depth) φ.new);
            commas = le_zero φ.none;
          };
    }
  where
    le_zero : {n : ℕ} → n ≡ 0 → n ≤ 20 * 0
    le_zero e = omega arith

-- ---- one turn

module _ {z : Given} {l₀ : List ℕ} {x : Locals} {p : CodeState} {i at : ℕ} (ω : CheckedRows z.source.rows.now z.source.text.now) (γ : Going z l₀ i at x p) where
  pub few_tokens : i ≤ 65535
  few_tokens = let a = γ.index in let b = γ.head.within in let c = ω.few in omega arith

  module _ (h : at < length z.source.rows.now) where
    abbrev t : Token
    t = token_here z.source.rows.now z.source.text.now at

    abbrev ts : List Token
    ts = tokens_next z.source.rows.now z.source.text.now at

    abbrev o : Options.Options
    o = options_of z.options

    abbrev after : State
    after = run (turn o i t ts) (state_of x p)

    onto : lay_from o (length l₀) (checked (length l₀) i after) (i + 1) ts ≡ walk_over z l₀
    onto =
        sym (lay-more o (length l₀) (state_of x p) i t ts)
        ∙ ap (λ us. lay_from o (length l₀) (finished (state_of x p)) i us) (sym (tokens_here ω γ.head h))
        ∙ γ.lays

    -- Where the walk stops at the token, it ends so.
    pub stops : {e : WalkError} → Err e ≡ pushed_of (checked (length p.sink.out.now) i after) → Err e ≡ formatted_of (walk_over z l₀)
    stops {e} q = walk-stops o (length l₀) (i + 1) ts (checked (length l₀) i after) (rw γ.size at q) ∙ ap formatted_of onto

    module _ {q : CodeState} (δ : Does (turn o i t ts) x p q) (fits : length after.out ≤ length p.sink.out.now) (shallow : after.formatter.too_deep ≡ none) where
      abbrev locals : Locals
      locals = locals_of after.formatter

      pub fit : Arrives after p q
      fit = δ.fits γ.room fits

      grown : Grown 20 (state_of x p) (state_of locals q)
      grown = rw fit.state (turn_grown o i t ts (state_of x p))

      with_room : checked (length l₀) i after ≡ finished (state_of locals q)
      with_room =
          let u = fit in
          let e : length (take q.sink.len q.sink.out.now) ≤ length l₀ = omega (arith, length-take-le q.sink.len q.sink.out.now u.within, u.within, δ.size, γ.size) in
          ap (checked (length l₀) i) (sym u.state) ∙ rw (shallow, le-ltb _ _ e)

      pub goes_on : Going z l₀ (i + 1) (next_row z.source.rows.now (own_row z.source.rows.now at)) locals q
      goes_on =
          let u = fit in
          let w = grown in
          let c = γ.counts in
          record {
            head = head-next ω γ.head h;
            index = let j = γ.index in omega arith;
            size = δ.size ∙ γ.size;
            room = u.within;
            lays = rw (tokens_next_lem ω γ.head h) (rw with_room at onto);
            rest = u.rest ∙ later p.sink.len q.sink.len p.sink.out.now l₀ (far (turn o i t ts) x u γ.room) γ.rest;
            shallow = shallow;
            told = subst (λ (s : State). Told s.formatter) (sym u.state) (turn_told o i t ts (kind_here ω γ.head h) (state_of x p) γ.told);
            counts =
                record {
                  indent = let a = w.indent in let b = c.indent in omega arith;
                  group = let a = w.group in let b = c.group in omega arith;
                  inline = let a = w.inline in let b = c.inline in omega arith;
                  records = let a = w.records in let b = c.records in omega arith;
                  signature = let a = w.signature in let b = c.signature in omega (arith, depth-signature p.form.sig_break_depth, depth-signature q.form.sig_break_depth);
                  commas = let a = w.commas in let b = c.commas in omega arith;
                };
          }

-- ---- the end

pub tokens_none : (rows text : List ℕ) (at : ℕ) → length rows ≤ at → tokens_of (drop at rows) text ≡ []
unfolding tokens_of Rattle.rows.specs.Token.tokens_from
tokens_none rows text at h = rw (Rattle.rows.proofs.RowList.part_none rows at (omega arith))

-- The answer of refusals 4 and 5.
pub laid_stopped :
    (z : Given) {l₀ m : List ℕ} {e : WalkError} → Err e ≡ formatted_of (walk_over z l₀) → length m ≡ length l₀
    → LaidOut z.source.rows.now z.source.text.now (options_of z.options) l₀ (Err e) m
laid_stopped z {l₀} {m} {e} q k =
    record {
      answer = q;
      size = k;
      output = λ s f. let w : ◌≡◌ {A = Result Finished WalkError} (Err e) (formatted_of (finished s)) = rw f at q in let y : ◌≡◌ {A = ℕ} 0 1 = cc in absurd (omega arith);
    }

module _ {z : Given} {l₀ : List ℕ} {x : Locals} {p : CodeState} {i at : ℕ} (γ : Going z l₀ i at x p) (h : length z.source.rows.now ≤ at) where
  ends : walk_over z l₀ ≡ finished (state_of x p)
  unfolding lay_from
  ends = sym γ.lays ∙ rw (tokens_none z.source.rows.now z.source.text.now at h)

  pub laid_done : LaidOut z.source.rows.now z.source.text.now (options_of z.options) l₀ (Ok (record { length = p.sink.len; commas = p.form.commas })) p.sink.out.now
  laid_done =
      let e = ends in
      let l = length-take-le p.sink.len p.sink.out.now γ.room in
      record {
        answer = rw (e, l);
        size = γ.size;
        output = λ s f.
            let g : state_of x p ≡ s = cc in
            rw (← g, l, ← γ.rest) (sym (take-append-drop p.sink.len p.sink.out.now));
      }
