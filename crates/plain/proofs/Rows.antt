-- The pass over checked rows is the plain mark of the tokens that they name. Assumes nothing.
use mathlib.Core.Bool.{Bool, true, false, not, ◌&&◌, ◌||◌, and_assoc, and_comm, and-false, and-true}
use mathlib.Core.List.{List, [], ◌∷◌, ◌++◌}
use mathlib.Core.Option.{Option, none, some}
use mathlib.Core.Path.{◌≡◌, refl, sym, ap, ◌∙◌}
use Prim.Native.Nat.{ℕ, ◌+◌}
use native.Mathlib.Omega.{arith}
use lib.Dec.{eqb}
use lib.ListN.{length}
use borrow.Author.Tests.{eqb-true, eqb-false}
use Rattle.shared.proofs.Logic.{split, impossible, impossible', or_cases}
use Rattle.rows.specs.Kinds.{Leading, TokenRow, Trailing, Eof, Newline, LeftBrace, RightBrace, Dot}
use Rattle.rows.specs.Row.{Row, rows_of}
use Rattle.rows.specs.Token.{Trivia, Token, trivia_of, token_of, tokens_from, tokens_of}
use Rattle.rows.specs.Checks.{Before, at_start, after, bad_from, GoodRows}
use Rattle.rows.proofs.Sound.{first_sound, rest-good}
use Rattle.lookahead.proofs.Tokens.{no_trailing}
use Rattle.lookahead.specs.Scan.{trails}
use Rattle.lookahead.specs.Measure.{next_is}
use Rattle.definition.specs.Plain.{is_mute, has_its_lexeme, reads_whole, ends_operator, begins_operator, begins_digit, tight_before, tight_after, clause₂, clause₃, clause₄, clause₅, clause₆, clause₇, plain}
use Rattle.definition.proofs.PlainScan
use Rattle.definition.proofs.PlainScan.{see, plain_from, plain_scan}
use Rattle.plain.specs.Scan.{Facts, unseen, mute, forbids, collides, fits, facts_after, plain_rows}

-- ---- what the code keeps of what has been seen

-- a test of the last token but Newline and Eof
abbrev of_last : (Token → Bool) → Option Token → Bool
of_last f none = false
of_last f (some t) = f t

abbrev facts_at : PlainScan.Seen → Bool → Facts
facts_at q opened = record {
  operator = of_last (λ t. ends_operator t.lexeme) q.last;
  tight = of_last (λ t. tight_before t.kind) q.last;
  digit = of_last (λ t. begins_digit t.lexeme) q.last;
  comma = q.comma;
  armed = q.armed;
  opened = opened;
}

after_is : (q : PlainScan.Seen) (opened : Bool) (t : Token) → facts_after (facts_at q opened) t.kind t.lexeme ≡ facts_at (see q t) (eqb t.kind LeftBrace && q.armed)
after_is q opened t = split (is_mute t) (λ e. rw e) (λ e. rw e)

-- ---- the clauses at one token

-- the second to the sixth, and that no record is left empty here
abbrev clauses : PlainScan.Seen → Bool → Token → Bool
clauses q opened t = not (eqb t.kind RightBrace && opened) && (clause₂ t && (clause₃ t && (clause₄ q.last t && (clause₅ q.last t && clause₆ q.comma t))))

-- operator bytes that meet, by what is kept
meets : (o b x : Bool) → not (o && b) || not x ≡ not (o && (b && x))
meets false b x = refl
meets true false x = refl
meets true true x = refl

clause₄_is : (q : PlainScan.Seen) (opened : Bool) (t : Token) → clause₄ q.last t ≡ mute t.kind || not (collides (facts_at q opened) t.kind t.lexeme)
clause₄_is q opened t = go q.last
  where
    go : (last : Option Token) → clause₄ last t
        ≡ mute t.kind || not (of_last (λ u. ends_operator u.lexeme) last && (begins_operator t.lexeme && (of_last (λ u. tight_before u.kind) last || tight_after t.kind)))
    go none = refl
    go (some u) = rw (meets (ends_operator u.lexeme) (begins_operator t.lexeme) (tight_before u.kind || tight_after t.kind))

clause₅_is : (q : PlainScan.Seen) (t : Token) → clause₅ q.last t ≡ mute t.kind || not (eqb t.kind Dot && of_last (λ u. begins_digit u.lexeme) q.last)
clause₅_is q t = go q.last
  where
    go : (last : Option Token) → clause₅ last t ≡ mute t.kind || not (eqb t.kind Dot && of_last (λ u. begins_digit u.lexeme) last)
    go none = rw (and-false (eqb t.kind Dot))
    go (some u) = rw (and_comm (begins_digit u.lexeme) (eqb t.kind Dot))

-- the tests in another order
order : (f h r c : Bool) → f && (h && r && c) ≡ h && (r && (c && f))
order f h r c = and_comm f (h && r && c) ∙ simp and_assoc

-- the code's test by the kinds that it asks for: h and r are clauses 2 and 3, c clause 4
by_kind : (s : Facts) (k : ℕ) (h r c : Bool) → (mute k ≡ true → h ≡ true) → mute k || (not (forbids s k) && (h && r && c))
    ≡ not (eqb k RightBrace && s.opened) && (h && ((mute k || r) && ((mute k || c) && ((mute k || not (eqb k Dot && s.digit)) && not (eqb k LeftBrace && s.comma)))))
by_kind s k h r c m =
    split (eqb k Eof) (λ e. let z = eqb-true k Eof e in rw (m (rw z), z))
    (λ e₀. split (eqb k Newline) (λ e. let z = eqb-true k Newline e in rw (m (rw z), z))
    (λ e₁. split (eqb k Dot) (λ e. rw (eqb-true k Dot e, and-true (not s.digit)) (order (not s.digit) h r c))
    (λ e₂. split (eqb k LeftBrace) (λ e. rw (eqb-true k LeftBrace e) (order (not s.comma) h r c))
    (λ e₃. split (eqb k RightBrace) (λ e. rw (eqb-true k RightBrace e) (ap (λ x. not s.opened && x) (order true h r c)))
    (λ e₄. rw (e₀, e₁, e₂, e₃, e₄) (order true h r c))))))

-- Newline and Eof have no fixed lexeme
mute-lexeme : (k : ℕ) (w : List ℕ) → mute k ≡ true → has_its_lexeme k w ≡ true
unfolding has_its_lexeme
mute-lexeme k w e = or_cases (eqb k Eof) (eqb k Newline || false) e (λ z. rw (eqb-true k Eof z)) (λ z. rw (eqb-true k Newline (or_cases (eqb k Newline) false z (λ y. y) impossible')))

fits_is : (q : PlainScan.Seen) (opened : Bool) (t : Token) → fits (facts_at q opened) t.kind t.lexeme ≡ clauses q opened t
fits_is q opened t = rw (clause₄_is q opened t, clause₅_is q t) (by_kind (facts_at q opened) t.kind (clause₂ t) (reads_whole t.lexeme) (not (collides (facts_at q opened) t.kind t.lexeme)) (mute-lexeme t.kind t.lexeme))

-- ---- trivia rows

-- no row of another what
third : (size : ℕ) (b : Before) (i : ℕ) (r : Row) (rs : List Row) → bad_from size b i (r ∷ rs) ≡ none → eqb r.what TokenRow ≡ false → eqb r.what Leading ≡ false → r.what ≡ Trailing
third size b i r rs e f g = omega (arith, (first_sound size b i r rs e).known_what, eqb-false r.what TokenRow f, eqb-false r.what Leading g)

-- leading rows belong to a token ahead
leading_marks : (text : List ℕ) (x : Trivia) (xs : List Trivia) (q : PlainScan.Seen) (i : ℕ) (rs : List Row) → bad_from (length text) (after Leading) i rs ≡ none → plain_from q (tokens_from text (x ∷ xs) rs) ≡ false
unfolding tokens_from plain_from bad_from
leading_marks text x xs q i [] e = let z : ◌≡◌ {A = ℕ} 0 1 = cc in absurd (omega arith)
leading_marks text x xs q i (r ∷ rs) e =
    split (eqb r.what TokenRow) (λ f. rw f)
    (λ f. split (eqb r.what Leading)
    (λ g. rw (f, g) (leading_marks text x (xs ++ (trivia_of text r ∷ [])) q (i + 1) rs (rw (eqb-true r.what Leading g) at (rest-good (length text) (after Leading) i r rs e))))
    (λ g. impossible (rw (third (length text) (after Leading) i r rs e f g) at (first_sound (length text) (after Leading) i r rs e).trails)))

-- a trailing row does not stand first
no_trail : (size i : ℕ) (rs : List Row) → bad_from size at_start i rs ≡ none → trails rs ≡ false
no_trail size i [] e = refl
no_trail size i (r ∷ rs) e = sym (and-true (eqb r.what Trailing)) ∙ (first_sound size at_start i r rs e).trails

-- ---- the pass

-- what a token owes to the row after it is asked there
module _ (u nt no p : Bool) where
  later : (c : Bool) → u && c && (nt && (no && p)) ≡ u && (nt && (c && no) && p)
  later c = rw (and_assoc u c (nt && (no && p))) (ap (λ x. u && x) (go c nt))
    where
      go : (c nt : Bool) → c && (nt && (no && p)) ≡ nt && (c && no) && p
      go false false = refl
      go false true = refl
      go true false = refl
      go true true = refl

  later₅ : (a b c d e : Bool) → u && (a && (b && (c && (d && e)))) && (nt && (no && p)) ≡ u && (nt && (a && (b && (c && (d && (e && no))))) && p)
  later₅ a b c d e = later (a && (b && (c && (d && e)))) ∙ simp and_assoc

-- the empty record, asked at its `}` and at its `{`
emptied : (next brace armed : Bool) → not (next && (brace && armed)) ≡ not (brace && (armed && next))
emptied next brace armed = ap not (and_comm next (brace && armed) ∙ and_assoc brace armed next)

rows_plain : (text : List ℕ) (q : PlainScan.Seen) (opened : Bool) (b : Before) (i : ℕ) (rs : List Row) → bad_from (length text) b i rs ≡ none →
    plain_rows text (facts_at q opened) rs ≡ not (trails rs) && (not (next_is RightBrace (tokens_from text [] rs) && opened) && plain_from q (tokens_from text [] rs))
unfolding plain_rows tokens_from plain_from
rows_plain text q opened b i [] e = refl
rows_plain text q opened b i (r ∷ rs) e =
    let t = token_of text [] r rs in
    let ts = tokens_from text [] rs in
    let arms = eqb r.kind LeftBrace && q.armed in
    split (eqb r.what TokenRow)
    (λ f. rw (eqb-true r.what TokenRow f, fits_is q opened t, after_is q opened t, rows_plain text (see q t) arms (after r.what) (i + 1) rs (rest-good (length text) b i r rs e), emptied (next_is RightBrace ts) (eqb r.kind LeftBrace) q.armed, no_trailing text rs)
    (later₅ (not (eqb r.kind RightBrace && opened)) (not (trails rs)) (clause₇ q.armed t ts) (plain_from (see q t) ts) (clause₂ t) (clause₃ t) (clause₄ q.last t) (clause₅ q.last t) (clause₆ q.comma t)))
    (λ f. split (eqb r.what Leading)
    (λ g. let h = eqb-true r.what Leading g in
    let m = leading_marks text (trivia_of text r) [] q (i + 1) rs (rw h at (rest-good (length text) b i r rs e)) in
    rw (h, m) (sym (and-false (not (next_is RightBrace (tokens_from text (trivia_of text r ∷ []) rs) && opened)))))
    (λ g. rw (third (length text) b i r rs e f g)))

pub pass : (rows text : List ℕ) → GoodRows rows (length text) → plain (tokens_of rows text) ≡ plain_rows text unseen (rows_of rows)
unfolding tokens_of
pass rows text e =
    let ts = tokens_from text [] (rows_of rows) in
    let rest = rows_plain text PlainScan.unseen false at_start 0 (rows_of rows) e in
    plain_scan ts ∙ sym (rw (no_trail (length text) 0 (rows_of rows) e, and-false (next_is RightBrace ts)) at rest)
