-- A plain list that is laid out to its end leaves a text that holds its lexemes. Assumes nothing.
use Rattle.std.proofs.Common.{◌≡◌, ℕ, ◌+◌, true, false, ltb, List, [], ◌∷◌, ◌++◌, length, sym, refl, ◌∙◌, append_assoc, append-nil, arith}
use mathlib.Core.Option.{Option, none, some}
use Rattle.rows.specs.Options.{Options}
use Rattle.rows.specs.Token.{Token}
use Rattle.pieces.proofs.Whole.{Left, clear}
use Rattle.pieces.proofs.Written.{Written, written_none}
use Rattle.shared.specs.Report.{deep, full}
use Rattle.shared.proofs.Logic.{impossible, and_left, and_right, split}
use Rattle.definition.specs.Formatter.{new}
use Rattle.definition.specs.Act.{State, run}
use Rattle.definition.specs.Emit.{is_some}
use Rattle.definition.specs.PushToken.{turn, begun}
use Rattle.definition.specs.Plain.{is_mute, plain}
use Rattle.definition.specs.Layout.{finished, stopped, checked, lay_from, lay}
use Rattle.definition.specs.Demand3.{lexemes_of}
use Rattle.definition.proofs.PlainScan.{Seen, unseen, see, fits, plain_from, plain_scan}
use Rattle.definition.proofs.Inv.{free, Wrote, Kept, Inv}
use Rattle.definition.proofs.Turn.{own, turn_keeps}

-- ---- a walk that comes to its end has met no refusal

stays : (o : Options) (size : ℕ) (ts : List Token) (i n j : ℕ) → lay_from o size (stopped n j) i ts ≡ stopped n j
unfolding lay_from
stays o size [] i n j = refl
stays o size (t ∷ ts) i n j = stays o size ts (i + 1) n j

not_stopped : {C : Type 0} (o : Options) (size : ℕ) (ts : List Token) (i n j : ℕ) (s : State) → lay_from o size (stopped n j) i ts ≡ finished s → C
not_stopped o size ts i n j s e = let z : ◌≡◌ {A = ℕ} 0 1 = cc (stays o size ts i n j) in absurd (omega arith)

none_of : (d : Option ℕ) → is_some d ≡ false → d ≡ none
none_of none e = refl
none_of (some j) e = impossible e

-- behind one token, if the walk goes on to its end
goes_on : (o : Options) (size : ℕ) (ts : List Token) (i j : ℕ) (n s : State) → lay_from o size (checked size j n) i ts ≡ finished s
    → (lay_from o size (finished n) i ts ≡ finished s) × (n.formatter.too_deep ≡ none)
goes_on o size ts i j n s e =
    split (ltb size (length n.out)) (λ p. not_stopped o size ts i full j s (rw p at e))
    (λ p. split (is_some n.formatter.too_deep) (λ q. not_stopped o size ts i deep j s (rw (p, q) at e))
    (λ q. (rw (p, q) at e, none_of n.formatter.too_deep q)))

-- ---- the lexemes that are written

-- the text of a state holds the lexemes xs
pub record Holds (s : State) (xs : List (List ℕ)) : Type 0 where
  pub left : Left
  pub written : Written s.out left xs s.commas

own-lexemes : (xs : List (List ℕ)) (t : Token) (ts : List Token) → xs ++ own t ++ lexemes_of ts ≡ xs ++ lexemes_of (t ∷ ts)
unfolding lexemes_of
own-lexemes xs t ts = append_assoc xs (own t) (lexemes_of ts) ∙ split (is_mute t) (λ e. rw e) (λ e. rw e)

walk_holds : (o : Options) (size : ℕ) (ts : List Token) (q : Seen) (xs : List (List ℕ)) (s s' : State) (i : ℕ) → Inv q ts xs s → plain_from q ts ≡ true → lay_from o size (finished s) i ts ≡ finished s'
    → Holds s' (xs ++ lexemes_of ts)
unfolding lay_from plain_from lexemes_of
walk_holds o size [] q xs s s' i ι p e = let f : s ≡ s' = cc in rw (append-nil, ← f) (record { left = ι.0.left; written = ι.0.written })
walk_holds o size (t ∷ ts) q xs s s' i ι p e =
    let r = goes_on o size ts (i + 1) i (run (turn o i t ts) s) s' e in
    let ι' = (turn_keeps o i q t ts (and_left (fits q t ts) _ p) xs s ι.0 ι.1).holds r.1 in
    rw (← own-lexemes xs t ts) (walk_holds o size ts (see q t) (xs ++ own t) (run (turn o i t ts) s) s' (i + 1) ι' (and_right (fits q t ts) _ p) r.0)

begins : (ts : List Token) → Inv unseen ts [] begun
begins ts = (wrote, kept)
  where
    wrote : Wrote [] none begun
    wrote = record { left = clear; written = written_none; stands = free }

    kept : Kept unseen ts new
    kept = record { block = λ n. absurd (omega arith); start = λ n a b. absurd (omega arith); armed = λ e. e; unskipped = refl }

pub lay_holds : (o : Options) (size : ℕ) (ts : List Token) (s : State) → plain ts ≡ true → lay o size ts ≡ finished s → Holds s (lexemes_of ts)
lay_holds o size ts s p e = walk_holds o size ts unseen [] begun s 0 (begins ts) (sym (plain_scan ts) ∙ p) e
