-- How what methods do is put together: tests, one act after the other, and the write rule for a straight-line method.
-- Assumes nothing.
use mathlib.Core.Bool.{Bool, true, false, cond, not}
use mathlib.Core.List.{List, [], ◌∷◌, ◌++◌, append-nil}
use mathlib.Core.Path.{◌≡◌, refl, sym, ap, ◌∙◌}
use Prim.Native.Nat.{ℕ, ◌+◌, ◌≤◌, ◌<◌}
use native.Mathlib.Nat.{add-zero}
use native.Mathlib.Omega.{arith}
use borrow.Author.Tests.{leb-true, leb-false}
use lib.Dec.{leb}
use lib.ListN.{length, take, length-append}
use lib.Seq.{length-take-le}
use Rattle.definition.specs.Formatter.{Formatter}
use Rattle.definition.specs.Act.{State, state, Act, update, gap, lexeme, insert, ◌⨾◌, choose, if, run}
use Rattle.definition.proofs.Said.{said, run_said}
use Rattle.sink.specs.Sink.{count_comma}
use Rattle.sink.specs.Appends.{Appends}
use Rattle.sink.proofs.Sink.{later}
use Rattle.sink.proofs.Appends.{nothing}
use Rattle.formatter.specs.CodeState.{Locals, CodeState, Given, state_of, locals_of, formatter_of, given}
use Rattle.formatter.specs.Does.{Arrives, Same, Does}

pub grows : (a : Act) (s : State) → length s.out ≤ length (run a s).out
grows a s = rw (run_said a s) (omega (arith, length-append s.out (said a s)))

-- ---- a test

module _ {x : Locals} {p q : CodeState} {t : State → Bool} {a b : Act} where
  pub yes : (p.sink.len ≤ length p.sink.out.now → t (state_of x p) ≡ true) → Does a x p q → Does (choose t a b) x p q
  unfolding run
  yes e d = record { same = d.same; size = d.size; fits = λ n. rw (e n) (d.fits n); over = λ n. rw (e n) (d.over n); stays = d.stays }

  pub no : (p.sink.len ≤ length p.sink.out.now → t (state_of x p) ≡ false) → Does b x p q → Does (choose t a b) x p q
  unfolding run
  no e d = record { same = d.same; size = d.size; fits = λ n. rw (e n) (d.fits n); over = λ n. rw (e n) (d.over n); stays = d.stays }

pub told : {r b v : Bool} → r ≡ b → r ≡ v → b ≡ v
told e h = sym e ∙ h

-- By what the code's test answered.
module _ {x : Locals} {p q : CodeState} {t : State → Bool} {a b : Act} {r : Bool} (e : r ≡ t (state_of x p)) where
  pub when : r ≡ true → Does a x p q → Does (choose t a b) x p q
  when h d = yes (λ n. told e h) d

  pub unless : r ≡ false → Does b x p q → Does (choose t a b) x p q
  unless h d = no (λ n. told e h) d

-- ---- what no method changes

pub then : {p q r : CodeState} → Same p q → Same q r → Same p r
then u v = record { given = v.given ∙ u.given; lent = v.lent ∙ u.lent }

pub same_options : {p q : CodeState} → Same p q → q.form.options ≡ p.form.options
same_options s = ap (λ (z : Given). z.options) s.given

-- ---- one act after the other

pub reached : (s : State) (p q : CodeState) → Arrives s p q → q.sink.len ≡ length s.out
reached s p q u = sym (length-take-le q.sink.len q.sink.out.now u.within) ∙ ap (λ (x : State). length x.out) u.state

-- The text after an act is no shorter than before it.
pub far : (a : Act) (x : Locals) {p q : CodeState} → Arrives (run a (state_of x p)) p q → p.sink.len ≤ length p.sink.out.now → p.sink.len ≤ q.sink.len
far a x {p} {q} u h = omega (arith, reached (run a (state_of x p)) p q u, grows a (state_of x p), length-take-le p.sink.len p.sink.out.now h)

onward : (b : Act) {s : State} {p q r : CodeState} → Arrives s p q → Arrives (run b (state_of (locals_of s.formatter) q)) q r → Arrives (run b s) p r
onward b {s} {p} {q} {r} u v =
    let e = ap (run b) u.state in
    let far : q.sink.len ≤ r.sink.len = omega (arith, reached s p q u, reached (run b (state_of (locals_of s.formatter) q)) q r v, grows b s, ap (λ (x : State). length x.out) e) in
    record {
      state = ap (λ (z : State). state_of (locals_of z.formatter) r) (sym e) ∙ v.state ∙ e;
      within = v.within;
      rest = v.rest ∙ later q.sink.len r.sink.len q.sink.out.now p.sink.out.now far u.rest;
    }

pub seq : {a b : Act} {x : Locals} {p q r : CodeState} → Does a x p q → Does b (locals_of (run a (state_of x p)).formatter) q r → Does (a ⨾ b) x p r
unfolding run
seq {a} {b} {x} {p} {q} {r} d e = record {
  same = then d.same e.same;
  size = e.size ∙ d.size;
  fits = λ n h.
      let u = d.fits n (omega (arith, grows b (run a (state_of x p)))) in
      onward b u (e.fits u.within (rw (u.state, d.size) h));
  over = λ n h. go n h (leb (length (run a (state_of x p)).out) (length p.sink.out.now)) refl;
  stays = λ n. e.stays (d.stays n);
}
  where
    go :
        p.sink.len ≤ length p.sink.out.now → length p.sink.out.now < length (run b (run a (state_of x p))).out → (z : Bool)
        → leb (length (run a (state_of x p)).out) (length p.sink.out.now) ≡ z → length r.sink.out.now < r.sink.len
    go n h true i = let u = d.fits n (leb-true _ _ i) in e.over u.within (rw (u.state, d.size) h)
    go n h false i = e.stays (d.over n (leb-false _ _ i))

joined : (s : State) {c : Formatter} {l : List ℕ} {n : ℕ} → s.formatter ≡ c → l ≡ s.out → s.commas ≡ n → state c l n ≡ s
joined s e f g = rw (← e, f, ← g)

-- ---- the write rule: the state updates as the act's does, and the bytes that the act says are written

module _ {a : Act} {x : Locals} {p q : CodeState} where
  pub does :
      given q.form ≡ given p.form → (run a (state_of x p)).formatter ≡ formatter_of q.form (locals_of (run a (state_of x p)).formatter)
      → (run a (state_of x p)).commas ≡ q.form.commas → Appends p.sink (said a (state_of x p)) q.sink
      → Does a x p q
  does z c k y =
      let w = y.writes in
      let e = run_said a (state_of x p) in
      let f = length-append (take p.sink.len p.sink.out.now) (said a (state_of x p)) in
      let g = ap length e in
      let h = w.size in
      record {
        same = record { given = z; lent = y.lent };
        size = h;
        fits = λ n y.
            let i = length-take-le p.sink.len p.sink.out.now n in
            let v = w.fits (omega arith) in
            let vf = v.far in
            record { state = joined (run a (state_of x p)) c (v.text ∙ sym e) k; within = omega arith; rest = v.rest };
        over = λ n y.
            let i = length-take-le p.sink.len p.sink.out.now n in
            let v = w.over (omega arith) in
            omega arith;
        stays = λ n. let v = w.over (omega arith) in omega arith;
      }

pub updated :
    {g : Formatter → Formatter} {x : Locals} {p q : CodeState}
    → given q.form ≡ given p.form → g (formatter_of p.form x) ≡ formatter_of q.form (locals_of (g (formatter_of p.form x)))
    → p.form.commas ≡ q.form.commas → Appends p.sink [] q.sink → Does (update g) x p q
unfolding run said
updated z c k w = does z c k w

-- An act and then an update are done in one write.
pub does_then :
    {a : Act} {g : Formatter → Formatter} {x : Locals} {p q : CodeState}
    → given q.form ≡ given p.form → g (run a (state_of x p)).formatter ≡ formatter_of q.form (locals_of (g (run a (state_of x p)).formatter))
    → (run a (state_of x p)).commas ≡ q.form.commas → Appends p.sink (said a (state_of x p)) q.sink
    → Does (a ⨾ update g) x p q
unfolding run said
does_then {a} {g} {x} {p} {q} z c k w = does z c k (rw (append-nil (said a (state_of x p))) w)

pub stays : {x : Locals} {p : CodeState} → Does (update (λ c. c)) x p p
stays = updated refl refl refl nothing

-- Where two acts come to the same state, what does one does the other.
pub same-run : {a b : Act} {x : Locals} {p q : CodeState} → run a (state_of x p) ≡ run b (state_of x p) → Does a x p q → Does b x p q
same-run e d = record { same = d.same; size = d.size; fits = rw e at d.fits; over = rw e at d.over; stays = d.stays }

turned : (b : Bool) {r : Bool} → r ≡ not b → b ≡ not r
turned true e = rw e
turned false e = rw e

-- ---- a closer, with a comma of the layout's own before it where one is wanted

module _ {g h : Formatter → Formatter} (u : Formatter → List ℕ) (w : List ℕ) {x : Locals} {p q : CodeState} where
  pub closing :
      (wanted : Bool) → given q.form ≡ given p.form → h (g (state_of x p).formatter) ≡ formatter_of q.form (locals_of (h (g (state_of x p).formatter)))
      → p.form.commas + count_comma wanted ≡ q.form.commas
      → Appends p.sink (cond wanted (44 ∷ []) [] ++ (u (g (state_of x p).formatter) ++ w)) q.sink
      → Does (update g ⨾ cond wanted (insert u w) (gap u ⨾ lexeme w) ⨾ update h) x p q
  unfolding run said
  closing false z c k y = does z c (sym (add-zero p.form.commas) ∙ k) (rw (append-nil (u (g (state_of x p).formatter) ++ w)) y)
  closing true z c k y = does z c k (rw (append-nil (u (g (state_of x p).formatter) ++ w)) y)

-- The same where a test of the definition picks between the two.
module _ (t : Formatter → Bool) {a b c : Act} {g : Formatter → Formatter} {x : Locals} {p q : CodeState} where
  pub picked : (wanted : Bool) → wanted ≡ not (t (g (state_of x p).formatter)) → Does (update g ⨾ cond wanted b a ⨾ c) x p q → Does (update g ⨾ if t a b ⨾ c) x p q
  unfolding run
  picked true e d = same-run {a = update g ⨾ b ⨾ c} (ap (λ z. run c (cond z (run a (run (update g) (state_of x p))) (run b (run (update g) (state_of x p))))) (sym (turned (t (g (state_of x p).formatter)) e))) d
  picked false e d = same-run {a = update g ⨾ a ⨾ c} (ap (λ z. run c (cond z (run a (run (update g) (state_of x p))) (run b (run (update g) (state_of x p))))) (sym (turned (t (g (state_of x p).formatter)) e))) d
