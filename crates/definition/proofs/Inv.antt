-- What the walk of a plain list keeps, and what a write does to it. Assumes nothing.
use Rattle.std.proofs.Common.{◌≡◌, ℕ, zero, suc, ◌+◌, ◌*◌, ◌<◌, ◌≤◌, Bool, true, false, cond, T, List, [], ◌∷◌, ◌++◌, replicate, refl}
use mathlib.Core.Option.{Option, some}
use Rattle.rows.specs.Options.{Options}
use Rattle.rows.specs.Token.{Token}
use Rattle.lookahead.specs.Measure.{single_line_from}
use Rattle.pieces.specs.declared.bytes.Class.TheVariants.{Single}
use Rattle.pieces.specs.Class.{class}
use Rattle.pieces.specs.Commas.{closer}
use Rattle.pieces.proofs.Whole.{Left, clear, left_by, Apart, ReadsWhole}
use Rattle.pieces.proofs.Segments.{Gaps, after_gap}
use Rattle.pieces.proofs.Written.{Written, apart_single, written-gap, written-lexeme, written-comma}
use Rattle.shared.proofs.Logic.{either}
use Rattle.definition.specs.Formatter.{Formatter}
use Rattle.definition.specs.Act.{State}
use Rattle.shared.specs.Bytes.{line_feed, space}
use Rattle.definition.specs.Emit.{indent_str, indent_or_space, on_new_line, token_gap}
use Rattle.spaces.specs.Space.{space_after}
use Rattle.definition.specs.Plain.{may_meet, no_dot_after}
use Rattle.definition.proofs.PlainScan.{Seen}
use Rattle.definition.proofs.Beside.{Sound, reads_whole_lem, apart}

-- How the reader stands behind what is written: nothing is open; or the lexeme of the last token, whose kind is `prev`, and not at a line's start.
pub data Stands : Bool → Option ℕ → Option Token → Left → Type 0 where
  free : {b : Bool} {p : Option ℕ} {l : Option Token} → Stands b p l clear
  behind : {t : Token} → Sound t → Stands false (some t.kind) (some t) (left_by t.lexeme)

-- The lexemes xs are written, the last token is l. Over the fields, so that an update of other fields changes nothing.
pub record WroteBy (xs : List (List ℕ)) (l : Option Token) (out : List ℕ) (commas : ℕ) (at_line_start : Bool) (prev : Option ℕ) : Type 0 where
  pub left : Left
  pub written : Written out left xs commas
  pub stands : Stands at_line_start prev l left

abbrev pub Wrote : List (List ℕ) → Option Token → State → Type 0
Wrote xs l s = WroteBy xs l s.out s.commas s.formatter.at_line_start s.formatter.prev

-- Before the tokens ts, where the scan of the plain mark has seen q.
pub record Keeps (q : Seen) (ts : List Token) (inline_depth : ℕ) (at_line_start in_record record_pending skip_next : Bool) : Type 0 where
  -- in a one-line block the tokens go on to its end, which lies no less deep than the walk counts
  pub block : 0 < inline_depth → (d : ℕ) × (inline_depth ≤ d) × (single_line_from d ts ≡ true)
  -- at a line's start in it, outside a record: behind a comma
  pub start : 0 < inline_depth → at_line_start ≡ true → in_record ≡ false → q.comma ≡ true
  pub armed : record_pending ≡ true → q.armed ≡ true
  pub unskipped : skip_next ≡ false

abbrev pub Kept : Seen → List Token → Formatter → Type 0
Kept q ts f = Keeps q ts f.inline_depth f.at_line_start f.in_record f.record_pending f.skip_next

-- What the walk keeps, where the lexemes xs are written.
abbrev pub Inv : Seen → List Token → List (List ℕ) → State → Type 0
Inv q ts xs s = Wrote xs q.last s × Kept q ts s.formatter

-- ---- gaps

pub feed : Gaps line_feed
unfolding class
feed = (refl, tt)

pub blank : Gaps space
unfolding class
blank = (refl, tt)

gaps_append : (g h : List ℕ) → Gaps g → Gaps h → Gaps (g ++ h)
gaps_append [] h x y = y
gaps_append (b ∷ g) h x y = (x.0, gaps_append g h x.1 y)

spaces : (n : ℕ) → Gaps (replicate n 32)
unfolding class
spaces zero = tt
spaces (suc n) = (refl, spaces n)

module _ (o : Options) (f : Formatter) where
  pub indent_gaps : Gaps (indent_str o f)
  indent_gaps = spaces (o.indent_width * f.indent)

  pub feed_gaps : Gaps (line_feed ++ indent_str o f)
  feed_gaps = gaps_append line_feed (indent_str o f) feed indent_gaps

  pub line_gaps : Gaps (on_new_line o f)
  line_gaps = gaps_append (cond f.at_line_start [] line_feed) (indent_str o f) (either Gaps f.at_line_start (λ e. tt) (λ e. feed)) indent_gaps

  pub space_gaps : Gaps (indent_or_space o f)
  space_gaps = either Gaps f.at_line_start (λ e. indent_gaps) (λ e. blank)

  pub token_gaps : (k : ℕ) → Gaps (token_gap o k f)
  token_gaps k = either Gaps f.at_line_start (λ e. indent_gaps) (λ e. either Gaps (space_after f.prev f.prev_minus_is_unary k) (λ h. blank) (λ h. tt))

  pub close_gaps : (b : Bool) → Gaps (cond f.at_line_start (indent_str o f) (cond b [] space))
  close_gaps b = either Gaps f.at_line_start (λ e. indent_gaps) (λ e. either Gaps b (λ h. tt) (λ h. blank))

-- ---- writes

after_clear : (g w : List ℕ) → Apart (after_gap clear g) w
after_clear [] w = tt
after_clear (b ∷ g) w = tt

-- the gap before a token, as `emit_token_text` writes it, keeps its lexeme apart
pub kept_apart : {b : Bool} {p : Option ℕ} {l : Option Token} {n : Left} → Stands b p l n → (u : Token) → Sound u → may_meet l u ≡ true → no_dot_after l u ≡ true → (i : List ℕ) (unary : Bool)
    → Apart (after_gap n (cond b i (cond (space_after p unary u.kind) space []))) u.lexeme
kept_apart (free {b = b} {p = p}) u τ m d i unary = after_clear (cond b i (cond (space_after p unary u.kind) space [])) u.lexeme
kept_apart (behind {t = t} σ) u τ m d i unary =
    either (λ g. Apart (after_gap (left_by t.lexeme) g) u.lexeme) (space_after (some t.kind) unary u.kind) (λ h. tt) (λ h. apart t u unary σ τ m d h)

-- the token u has been written last
pub record Put (out : List ℕ) (xs : List (List ℕ)) (c : ℕ) (u : Token) : Type 0 where
  pub written : Written out (left_by u.lexeme) (xs ++ (u.lexeme ∷ [])) c

module _ {out : List ℕ} {n : Left} {xs : List (List ℕ)} {c : ℕ} (ω : Written out n xs c) (u : Token) (τ : Sound u) where
  whole : ReadsWhole u.lexeme
  whole = reads_whole_lem u.lexeme τ.reads

  -- a gap, and the lexeme
  pub put : (g : List ℕ) → Gaps g → (v : List ℕ) → u.lexeme ≡ v → Apart (after_gap n g) u.lexeme → Put (out ++ g ++ v) xs c u
  put g h v e a = rw (← e) (record { written = written-lexeme (written-gap ω g h) u.lexeme whole a })

  -- a lexeme that is a single byte, with no gap before it
  pub put_byte : (b : ℕ) → u.lexeme ≡ b ∷ [] → class b ≡ Single → Put (out ++ (b ∷ [])) xs c u
  put_byte b e h = rw (← e) (record { written = written-lexeme ω u.lexeme whole (rw e (apart_single n b h)) })

  -- an inserted comma, a gap, and a closer
  pub put-comma : (g : List ℕ) → Gaps g → (v : List ℕ) → u.lexeme ≡ v → T (closer v) → Put (out ++ (44 ∷ g ++ v)) xs (c + 1) u
  put-comma g h v e t = rw (← e) (record { written = written-comma ω g u.lexeme h whole (rw e t) })

pub wrote-put : {out : List ℕ} {xs : List (List ℕ)} {c : ℕ} {u : Token} → Put out xs c u → Sound u → (j : ℕ) → u.kind ≡ j → WroteBy (xs ++ (u.lexeme ∷ [])) (some u) out c false (some j)
wrote-put {u = u} p τ j k = record { left = left_by u.lexeme; written = p.written; stands = rw (← k) (behind τ) }
