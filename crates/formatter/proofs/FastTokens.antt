-- The loop over fast tokens: what holds at each turn, and what a turn does with it. Assumes nothing.
use mathlib.Core.Bool.{◌&&◌, true, false, cond, not, ◌||◌}
use mathlib.Core.List.{List, [], ◌∷◌, ◌++◌}
use mathlib.Core.Option.{none, some}
use mathlib.Core.Path.{◌≡◌, refl, sym, ap, ◌∙◌}
use Prim.Native.Nat.{ℕ, ◌+◌, ◌-◌, ◌/◌, ◌≤◌, ◌<◌}
use native.Mathlib.Omega.{arith}
use borrow.Author.Tests.{lt-ltb, le-ltb, eqb-true, not-true}
use lib.Dec.{eqb, ltb}
use lib.ListN.{length, take, drop, replicate, length-append, length-replicate}
use lib.Seq.{length-slice, length-take-le}
use Rattle.shared.proofs.Logic.{split, impossible', and_left, and_right}
use Rattle.rows.specs.Kinds.{TokenRow, RightBrace, Fn, Identifier, Other}
use Rattle.rows.specs.Row.{Row, row_at, rows_of}
use Rattle.rows.specs.Bounds.{Inside}
use Rattle.rows.specs.Options.{Options}
use Rattle.rows.specs.Checks.{top_kind}
use Rattle.rows.specs.Token.{bytes_of, tokens_of}
use Rattle.rows.proofs.RowList.{part_cons}
use Rattle.rows.proofs.Sound.{first_sound}
use Rattle.definition.specs.Formatter.{Formatter}
use Rattle.definition.specs.Act.{State, state, run}
use Rattle.definition.specs.Emit.{is_some, is_at}
use Rattle.spaces.specs.Space.{space_after}
use Rattle.definition.specs.Arms.{at_record_fields, in_broken_list}
use Rattle.definition.specs.PushToken.{turn}
use Rattle.definition.specs.Layout.{finished, lay_from}
use Rattle.sink.specs.Sink.{Writes}
use Rattle.sink.specs.Appends.{Appends}
use Rattle.spaces.specs.Between.{loose_after, bit, spaces}
use Rattle.spaces.proofs.Pairs.{bit-few}
use Rattle.sink.proofs.Sink.{later}
use Rattle.formatter.specs.declared.Formatter as code
use Rattle.std.specs.declared.option.Option.{Option}
use Rattle.std.specs.declared.option.Option.TheVariants.{None, Some}
use Rattle.formatter.specs.declared.SignatureDepth.{SignatureDepth}
use Rattle.formatter.specs.CodeState.{fn_number, Locals, CodeState, prev_of, signature_of, formatter_of, fields_of, given}
use Rattle.formatter.specs.Does.{Same}
use Rattle.formatter.specs.Trivia.{trivia_in}
use Rattle.formatter.specs.Format.{CheckedRows, TokenBoundary, own_row, next_row}
use Rattle.formatter.specs.FastTokens.{FastKinds, fast_kinds_of, fast_kind_bits, space_before, fn_after, group_after, is_closer, FastState, changing_kinds, fast_state_of, fast_state_after, with_fields, BareRow, IsFastToken, TracksFastToken, MayStartFastTokens, BeforeFastTokens, after_fast_tokens, FastTokens, FastTokensLaidOut, last_kind}
use Rattle.formatter.proofs.Comments.{no_trivia}
use Rattle.formatter.proofs.Place.{tokens_here, head-next, row_in}
use Rattle.formatter.proofs.BareRow.{row_token, lay-first}
use Rattle.formatter.proofs.FastTokenTurn.{is_fast_kind, fast_kind, fast_spaces, space-before, space-few, kept, fast_turn, fast_next}

-- ---- a row that is a token's without trivia

top_kind_lem : (what : ℕ) → top_kind what ≤ Other
top_kind_lem what = split (eqb what TokenRow) (λ e. rw e (omega arith)) (λ e. rw e (omega arith))

module _ {rows text : List ℕ} {at : ℕ} (ω : CheckedRows rows text) (η : TokenBoundary rows text at) (h : at < length rows) where
  pub whole_row : at + 16 ≤ length rows
  whole_row = let a = η.whole in let b = ω.whole in omega arith

  -- The row's kind is a token's, or a trivia's.
  pub row_known : (r : Row) → r ≡ row_at rows at → r.kind ≤ Other
  row_known r e =
      let good = rw (part_cons rows at whole_row) at η.checked.good in
      let k = (first_sound (length text) η.checked.before η.checked.number (row_at rows at) (rows_of (drop (at + 16) rows)) good).known_kind in
      rw e (let z = top_kind_lem (row_at rows at).what in omega arith)

  module _ (λ₁ : BareRow rows at) where
    own_is : own_row rows at ≡ at
    own_is = let e = λ₁.leads in omega arith

    next_is_lem : next_row rows at ≡ at + 16
    next_is_lem = let e = λ₁.trails in omega arith

    pub bare_row_inside : (r : Row) → r ≡ row_at rows at → Inside text r
    bare_row_inside r e = rw e (rw own_is at (row_in ω η h))

    pub bare_row_boundary : TokenBoundary rows text (at + 16)
    bare_row_boundary = rw (own_is, next_is_lem) at (head-next ω η h)

    leading-none : trivia_in rows text at at ≡ []
    leading-none = no_trivia rows text (omega arith)

    trailing-none : trivia_in rows text (at + 16) (at + 16) ≡ []
    trailing-none = no_trivia rows text (omega arith)

    bare_row_tokens : tokens_of (drop at rows) text ≡ row_token text (row_at rows at) ∷ tokens_of (drop (at + 16) rows) text
    bare_row_tokens = rw (own_is, next_is_lem, leading-none, trailing-none) at (tokens_here ω η h)

    -- The definition's loop goes on after it.
    pub lay_bare_row :
        (o : Options) (size i : ℕ) (s : State) {s' : State}
        → run (turn o i (row_token text (row_at rows at)) (tokens_of (drop (at + 16) rows) text)) s ≡ s' → length s'.out ≤ size
        → s'.formatter.too_deep ≡ none
        → lay_from o size (finished s) i (tokens_of (drop at rows) text) ≡ lay_from o size (finished s') (i + 1) (tokens_of (drop (at + 16) rows) text)
    lay_bare_row o size i s e f d = lay-first o size i s bare_row_tokens e f d

-- ---- what holds at the loop's head

abbrev ended : ℕ → ℕ → ℕ → FastState → FastTokens
ended at len prev m = record { at = at; prev = prev; len = len; state = m }

-- From the row at `from` and the output l, fast tokens of the kinds `fast` are laid out up to the row at `at` and the output k.
pub record FastTokensSoFar (rows text : List ℕ) (from n before : ℕ) (m₀ : FastState) (fast : ℕ) (l : List ℕ) (at len prev : ℕ) (m : FastState) (k : List ℕ) : Type 0 where
  pub known : prev ≤ Other
  pub room : len ≤ length k
  pub size : length k ≡ length l
  pub head : TokenBoundary rows text at
  pub done : (t : FastKinds) → fast ≡ fast_kind_bits t → FastTokensLaidOut rows text from n before m₀ t l k (ended at len prev m)
  pub still : (t : FastKinds) → fast ≡ fast_kind_bits t → (f : Formatter) → BeforeFastTokens f before m₀ t → BeforeFastTokens (after_fast_tokens (ltb from at) prev m f) prev m t

fn_few : (k n : ℕ) → fn_after k n ≤ 2
fn_few k n = split (eqb k Fn) (λ e. rw e (omega arith)) (λ e. rw e (split (eqb k Identifier && eqb n 1) (λ f. rw f (omega arith)) (λ f. rw f (omega arith))))

-- After a fast token `fn_state` is one of the three.
pub few_after : {p k : ℕ} {f g : code.Formatter} → TracksFastToken p k f g → fn_number g.fn_state ≤ 2
few_after {k = k} {f = f} τ = rw (ap (λ (s : FastState). s.fn_state) τ.state) (fn_few k (fn_number f.fn_state))

less_group : (k n : ℕ) → group_after k n ≤ n
less_group k n = split (is_closer k) (λ e. rw e (omega arith)) (λ e. rw e (omega arith))

module _ {rows text l k : List ℕ} {from n before at len fast prev : ℕ} {m₀ m : FastState} (ω : CheckedRows rows text) (α : FastTokensSoFar rows text from n before m₀ fast l at len prev m k) (h : at < length rows) where
  module _ (λ₁ : BareRow rows at) where
    abbrev kind : ℕ
    kind = (row_at rows at).kind

    abbrev next : FastState
    next = fast_state_after prev kind m

    abbrev gap : ℕ
    gap = cond (space_after (some prev) m.prev_minus_is_unary kind) 1 0

    abbrev bytes : List ℕ
    bytes = replicate gap 32 ++ bytes_of text (row_at rows at)

    bytes-length : length bytes ≡ gap + ((row_at rows at).end - (row_at rows at).start)
    bytes-length =
        omega (arith, length-append (replicate gap 32) (bytes_of text (row_at rows at)), length-replicate {A = ℕ} gap 32, length-slice (row_at rows at).start (row_at rows at).end text (bare_row_inside ω α.head h λ₁ (row_at rows at) refl).within)

    module _ {k' : List ℕ} {len' : ℕ} (fits : gap + ((row_at rows at).end - (row_at rows at).start) ≤ length k - len) (w : Writes k len bytes k' len') where
      all_fit : len + length bytes ≤ length k
      all_fit = let e = bytes-length in let r = α.room in omega arith

      text-fits : length (take len' k') ≤ length l
      text-fits =
          let u = (w.fits all_fit).far in
          let a = all_fit in
          let s = w.size in
          let z = α.size in
          omega (arith, length-take-le len' k' (omega arith))

      module _ (t : FastKinds) (q : fast ≡ fast_kind_bits t) (only : is_fast_kind t kind ≡ true) where
        step : (o : Options) (f : Formatter) (c j : ℕ) → BeforeFastTokens f before m₀ t
            → lay_from o (length l) (finished (state (after_fast_tokens (ltb from at) prev m f) (take len k) c)) j (tokens_of (drop at rows) text)
            ≡ lay_from o (length l) (finished (state (after_fast_tokens true kind next f) (take len' k') c)) (j + 1) (tokens_of (drop (at + 16) rows) text)
        step o f c j σ =
            let g = after_fast_tokens (ltb from at) prev m f in
            let e = fast_turn o j (row_token text (row_at rows at)) (tokens_of (drop (at + 16) rows) text) g (take len k) c t (α.still t q f σ) refl refl only in
            lay_bare_row ω α.head h λ₁ o (length l) j (state g (take len k) c) (e ∙ ap (λ x. state (after_fast_tokens true kind next f) x c) (sym (w.fits all_fit).text)) text-fits σ.shallow

        laid_further : FastTokensLaidOut rows text from n before m₀ t l k' (ended (at + 16) len' kind next)
        laid_further =
            let u = w.fits all_fit in
            let uf = u.far in
            let a = all_fit in
            let z = w.size in
            let δ = α.done t q in
            record {
              whole = let x = δ.whole in omega arith;
              head = bare_row_boundary ω α.head h λ₁;
              last = row_known ω α.head h (row_at rows at) refl;
              group = let g = δ.group in omega (arith, less_group kind m.group_depth);
              size = w.size ∙ δ.size;
              far = let y = δ.far in omega arith;
              room = omega arith;
              rest = u.rest ∙ later len len' k l (omega arith) δ.rest;
              lays = λ o f c i σ.
                  let x = δ.whole in
                  let j : i + (at + 16 - from) / 16 ≡ i + (at - from) / 16 + 1 = omega arith in
                  let e : ltb from (at + 16) ≡ true = lt-ltb from (at + 16) (omega arith) in
                  rw (j, e) (δ.lays o f c i σ ∙ step o f c (i + (at - from) / 16) σ);
            }

      more : ((t : FastKinds) → fast ≡ fast_kind_bits t → is_fast_kind t kind ≡ true) → from ≤ at → FastTokensSoFar rows text from n before m₀ fast l (at + 16) len' kind next k'
      more only far =
          let u = w.fits all_fit in
          let uf = u.far in
          let a = all_fit in
          let z = w.size in
          let e : ltb from (at + 16) ≡ true = lt-ltb from (at + 16) (omega arith) in
          record {
            known = row_known ω α.head h (row_at rows at) refl;
            room = omega arith;
            size = w.size ∙ α.size;
            head = bare_row_boundary ω α.head h λ₁;
            done = λ t q. laid_further t q (only t q);
            still = λ t q f σ. rw e (fast_next (α.still t q f σ) kind (only t q));
          }

  -- What is asked where a fast token is written.
  pub taken-fits :
      {room spaced : ℕ} → IsFastToken rows fast at room spaced → room ≡ length k - len → spaced < 2 → (r : Row) {space : ℕ} → r ≡ row_at rows at → space ≡ space_before spaced r.kind
      → ((r.start < r.end) × (r.end ≤ length text)) × ((space ≤ 1) × (len + (space + (r.end - r.start)) ≤ length k))
  taken-fits {spaced = spaced} τ q few r e z =
      let s = space-few spaced (row_at rows at).kind few in
      let f = τ.fits in
      let l = α.room in
      rw (z, e) ((τ.byte, (bare_row_inside ω α.head h τ.alone (row_at rows at) refl).within), (omega arith, omega arith))

  -- After one more fast token the same holds: by the code's row, its bits and its numbers of spaces.
  pub again :
      {room spaced loose : ℕ} → IsFastToken rows fast at room spaced → room ≡ length k - len → spaced ≡ bit loose prev → loose ≡ loose_after Other m.prev_minus_is_unary
      → (r : Row) {space len' : ℕ} {k' : List ℕ} {m' : FastState} → (t : FastKinds) → fast ≡ fast_kind_bits t
      → r ≡ row_at rows at → space ≡ space_before spaced r.kind
      → Writes k len (replicate space 32 ++ bytes_of text r) k' len' → m' ≡ fast_state_after prev r.kind m → FastTokensSoFar rows text from n before m₀ fast l (at + 16) len' r.kind m' k'
  again {spaced = spaced} {loose} τ q y o r t x e z w d =
      let κ = (row_at rows at).kind in
      let known = row_known ω α.head h (row_at rows at) refl in
      let only : (t : FastKinds) → fast ≡ fast_kind_bits t → is_fast_kind t κ ≡ true = λ t q. fast_kind t κ known (rw q at τ.kind) in
      let s : space_before spaced κ ≡ cond (space_after (some prev) m.prev_minus_is_unary κ) 1 0 =
      ap (λ n. space_before n κ) y
      ∙ space-before t loose prev κ known (only t x)
      ∙ ap (λ l. spaces l prev κ) o
      ∙ fast_spaces t m.prev_minus_is_unary prev κ α.known known (only t x) in
      let g = rw e at z ∙ s in
      let far = (α.done t x).whole in
      rw (d, e) (more τ.alone (rw (q, s) at τ.fits) (rw (g, e) at w) only (omega arith))

-- ---- the same of the code's states

-- From the code's state f at the call, fast tokens are laid out up to the state g: with the loop's sets, and whether a space may stand next.
pub record FastTokensLoop (rows text : List ℕ) (f g : CodeState) (from fast change after at prev spaced : ℕ) : Type 0 where
  pub so_far : FastTokensSoFar rows text from f.sink.len (last_kind f.form) (fast_state_of f.form) fast f.sink.out.now at g.sink.len prev (fast_state_of g.form) g.sink.out.now
  pub changing : change ≡ changing_kinds (fn_number g.form.fn_state) g.form.record_pending
  pub loose : after ≡ loose_after Other g.form.prev_minus_is_unary
  pub gap : spaced ≡ bit after prev
  pub form : (x : Locals) → formatter_of g.form x ≡ with_fields (fast_state_of g.form) (formatter_of f.form x)
  pub same : Same f g
  pub commas : g.form.commas ≡ f.form.commas

-- Before the first fast token.
pub starts :
    {rows text : List ℕ} {f : CodeState} {from fast change after prev spaced : ℕ} → TokenBoundary rows text from → f.sink.len ≤ length f.sink.out.now → last_kind f.form ≤ Other → prev ≡ last_kind f.form
    → change ≡ changing_kinds (fn_number f.form.fn_state) f.form.record_pending → after ≡ loose_after Other f.form.prev_minus_is_unary → spaced ≡ bit after prev
    → FastTokensLoop rows text f f from fast change after from prev spaced
starts {f = f} {from} head within known e c a z =
    let none_yet : ltb from from ≡ false = le-ltb from from (omega arith) in
    record {
      so_far =
          rw e (record {
            known = known;
            room = within;
            size = refl;
            head = head;
            done = λ t q.
                record {
                  whole = omega arith;
                  head = head;
                  last = known;
                  group = omega arith;
                  size = refl;
                  far = omega arith;
                  room = within;
                  rest = refl;
                  lays = λ o g c i σ. let n : i + (from - from) / 16 ≡ i = omega arith in rw (none_yet, n, σ.with_state);
                };
            still = λ t q g σ. rw (none_yet, σ.with_state) σ;
          });
      changing = c;
      loose = a;
      gap = z;
      form = λ x. refl;
      same = record { given = refl; lent = refl };
      commas = refl;
    }

-- From the code's state g, a fast token of the kind k is written after one of the kind p, and h keeps the fields.
pub record FastTokenWritten (p k : ℕ) (xs : List ℕ) (g h : CodeState) : Type 0 where
  pub state : fast_state_of h.form ≡ fast_state_after p k (fast_state_of g.form)
  pub form : (x : Locals) → formatter_of h.form x ≡ with_fields (fast_state_of h.form) (formatter_of g.form x)
  pub given : given h.form ≡ given g.form
  pub sink : Appends g.sink xs h.sink
  pub commas : h.form.commas ≡ g.form.commas

module _ {rows text : List ℕ} {f g : CodeState} {from fast change after at prev spaced : ℕ} (ω : CheckedRows rows text) (β : FastTokensLoop rows text f g from fast change after at prev spaced) where
  -- A kind that changes no field.
  pub unchanged : (k : ℕ) → k ≤ Other → (bit change k ≡ 1 → ⊥) → fast_state_of g.form ≡ fast_state_after prev k (fast_state_of g.form)
  unchanged k h n =
      let b = bit-few change k in
      let z : bit change k ≡ 0 = omega arith in
      sym (kept prev k (fast_state_of g.form) h (rw β.changing at z))

  pub few : spaced < 2
  few = let b = bit-few after prev in let e = β.gap in omega arith

  -- After one more fast token the same holds: by the code's row and its number of spaces.
  pub goes_on :
      {g' h : CodeState} {room change' after' spaced' space : ℕ} → g' ≡ h → IsFastToken rows fast at room spaced → room ≡ length g.sink.out.now - g.sink.len
      → (r : Row) → r ≡ row_at rows at → space ≡ space_before spaced r.kind → fast ≡ fast_kind_bits (fast_kinds_of f.form)
      → FastTokenWritten prev r.kind (replicate space 32 ++ bytes_of text r) g h
      → change' ≡ changing_kinds (fn_number h.form.fn_state) h.form.record_pending → after' ≡ loose_after Other h.form.prev_minus_is_unary → spaced' ≡ bit after' r.kind
      → FastTokensLoop rows text f g' from fast change' after' (at + 16) r.kind spaced'
  goes_on {h = h} e τ q r s z t w c a y =
      rw e (record {
        so_far = again ω β.so_far τ.ahead τ q β.gap β.loose r (fast_kinds_of f.form) t s z w.sink.writes w.state;
        changing = c;
        loose = a;
        gap = y;
        form = λ x. w.form x ∙ ap (with_fields (fast_state_of h.form)) (β.form x);
        same = record { given = w.given ∙ β.same.given; lent = w.sink.lent ∙ β.same.lent };
        commas = w.commas ∙ β.commas;
      })

-- ---- what the walk has before fast tokens

unbroken : (b : Option SignatureDepth) → not (is_some (signature_of b)) ≡ true → signature_of b ≡ none
unbroken None e = refl
unbroken (Some d) e = impossible' e

is_nil : (l : List ℕ) → length l ≡ 0 → l ≡ []
is_nil [] e = refl
is_nil (x ∷ l) e = absurd (omega arith)

pub before_fast_tokens :
    {f : code.Formatter} → MayStartFastTokens f → (x : Locals) → prev_of f.prev ≡ some (last_kind f) → x.skip_next ≡ false → x.too_deep ≡ none
    → BeforeFastTokens (formatter_of f x) (last_kind f) (fast_state_of f) (fast_kinds_of f)
before_fast_tokens {f} β x p s d =
    record {
      mid_line = β.mid_line;
      not_closed = β.not_closed;
      no_skip = s;
      shallow = d;
      with_state = rw (← p);
      no_fn = λ e. (rw e, β.no_fn e);
      unbroken = not-true (at_record_fields (fields_of f) || in_broken_list (fields_of f));
      no_brace = λ e. rw p at (not-true (is_at (prev_of f.prev) RightBrace) e);
      whole = λ e.
          let a = and_left (not (is_some (signature_of f.sig_break_depth))) (eqb (length f.break_stack) 0) e in
          let b = and_right (not (is_some (signature_of f.sig_break_depth))) (eqb (length f.break_stack) 0) e in
          (unbroken f.sig_break_depth a, is_nil f.break_stack (eqb-true (length f.break_stack) 0 b));
    }
