-- Two neighbours of a plain list with no gap between them stand apart. Assumes nothing.
use Rattle.std.proofs.Common.{◌≡◌, ℕ, Bool, true, false, cond, not, ◌&&◌, ◌||◌, eqb, List, [], ◌∷◌, length, sym, refl, ◌∙◌, eqb-true}
use mathlib.Core.Option.{some}
use Rattle.shared.specs.Bytes.{one_of, digit, same_bytes}
use Rattle.shared.proofs.Bytes.{same_eq}
use Rattle.rows.specs.Kinds.{RightBrace, LeftParen, RightParen, LeftBracket, RightBracket, Comma, Colon, Semicolon, Question, Dot, DotDot, ColonColon, Hash, Bang, BangHash, Minus}
use Rattle.rows.specs.Token.{Token}
use Rattle.pieces.specs.declared.bytes.Class.{Class}
use Rattle.pieces.specs.declared.bytes.Class.TheVariants.{Gap, Single, Quote, Word, Operator, Unclassed}
use Rattle.pieces.specs.Class.{class, is_word, is_operator}
use Rattle.pieces.specs.Reading.{Reading, done, refused, piece, peek, read, reading}
use Rattle.pieces.proofs.Whole.{after_word, after_number, after_operator, leaves, left_by, Undigit, Apart, ReadsWhole, Operators, whole_operators}
use Rattle.pieces.proofs.Written.{apart_single}
use Rattle.shared.proofs.Logic.{impossible, impossible', and_left, and_right, or_left, or_right, split}
use Rattle.spaces.specs.Space.{space_after}
use Rattle.definition.specs.Plain.{operator_byte, only_operators, has_its_lexeme, is_one_piece, reads_whole, ends_operator, begins_operator, tight_before, tight_after, operators_meet, may_meet, begins_digit, no_dot_after}
use Rattle.definition.proofs.After.{among}

-- ---- what the tests of a lexeme say

one_piece : (n : ℕ) (r : Reading) → is_one_piece n r ≡ true → r ≡ piece 0 n done
one_piece n done e = impossible' e
one_piece n (refused i) e = impossible' e
one_piece n (piece s f done) e =
    let p : s ≡ 0 = eqb-true s 0 (and_left (eqb s 0) (eqb f n) e) in
    let q : f ≡ n = eqb-true f n (and_right (eqb s 0) (eqb f n) e) in
    cc
one_piece n (piece s f (refused i)) e = impossible' e
one_piece n (piece s f (piece s' f' r)) e = impossible' e

pub reads_whole_lem : (w : List ℕ) → reads_whole w ≡ true → ReadsWhole w
unfolding reads_whole
reads_whole_lem w e = one_piece (length w) (reading w) e

-- a token that is written: its kind's lexeme, and one whole piece
pub record Sound (t : Token) : Type 0 where
  pub fixed : has_its_lexeme t.kind t.lexeme ≡ true
  pub reads : reads_whole t.lexeme ≡ true

-- a kind with a lexeme of its own has that
pub lexeme_is : (k j : ℕ) (w v : List ℕ) → has_its_lexeme k w ≡ true → k ≡ j → has_its_lexeme j w ≡ same_bytes w v → w ≡ v
lexeme_is k j w v h e f = same_eq w v (sym f ∙ (rw e at h))

-- ---- operator bytes

ends-operator : (b : ℕ) (w : List ℕ) → Operators (b ∷ w) → ends_operator (b ∷ w) ≡ true
ends-operator b [] h = h.0
ends-operator b (c ∷ w) h = ends-operator c w h.1

-- a piece begun with an operator byte ends with one
whole-ends : (w : List ℕ) → ReadsWhole w → operator_byte (peek w) ≡ true → ends_operator w ≡ true
unfolding class
whole-ends [] r h = impossible' h
whole-ends (b ∷ w) r h = ends-operator b w (whole_operators (b ∷ w) r h)

begins-peek : (w : List ℕ) → begins_operator w ≡ operator_byte (peek w)
unfolding class
begins-peek [] = refl
begins-peek (b ∷ w) = refl

digit-peek : (w : List ℕ) → begins_digit w ≡ digit (peek w)
digit-peek [] = refl
digit-peek (b ∷ w) = refl

only_peek : (w : List ℕ) → reads_whole w ≡ true → only_operators w ≡ true → operator_byte (peek w) ≡ true
unfolding reads_whole read
only_peek [] r h = impossible' r
only_peek (b ∷ w) r h = and_left (operator_byte b) (only_operators w) h

-- ---- what a lexeme leaves open, by the class c of its first byte b

left-operator : (c : Class) (b : ℕ) (v : List ℕ) → is_operator c ≡ true → is_operator (class (peek v)) ≡ false → Apart (leaves c b) v
left-operator Gap b v h e = tt
left-operator Single b v h e = tt
left-operator Quote b v h e = tt
left-operator Word b v h e = impossible' h
left-operator Operator b v h e = e
left-operator Unclassed b v h e = tt

left_word : (x : Bool) (v : List ℕ) → is_word (class (peek v)) ≡ false → (x ≡ true → Undigit v) → Apart (cond x after_number after_word) v
left_word true v h d = d refl
left_word false v h d = h

left_by_lem : (c : Class) (b : ℕ) (v : List ℕ) → is_word (class (peek v)) ≡ false → (digit b ≡ true → Undigit v) → (is_operator c ≡ true → Apart after_operator v) → Apart (leaves c b) v
left_by_lem Gap b v h d o = tt
left_by_lem Single b v h d o = tt
left_by_lem Quote b v h d o = tt
left_by_lem Word b v h d o = left_word (digit b) v h d
left_by_lem Operator b v h d o = o refl
left_by_lem Unclassed b v h d o = tt

left_single : (b : ℕ) (v : List ℕ) → class b ≡ Single → Apart (left_by (b ∷ [])) v
left_single b v h = rw h tt

-- ---- clauses 4 and 5

clash : {C : Type 0} (m x : Bool) → not m || not x ≡ true → m ≡ true → x ≡ true → C
clash m x e p q = impossible' (rw (p, q) at e)

no_dot : {C : Type 0} (a b : Bool) → not (a && b) ≡ true → a ≡ true → b ≡ true → C
no_dot a b e p q = impossible' (rw (p, q) at e)

both : (a b : Bool) → a ≡ true → b ≡ true → a && b ≡ true
both a b p q = rw (p, q)

or_first : (a b : Bool) → a ≡ true → a || b ≡ true
or_first a b e = rw e

or_second : (a b : Bool) → b ≡ true → a || b ≡ true
or_second true b e = refl
or_second false b e = e

module _ (t u : Token) (σ : Sound t) (τ : Sound u) (meet : may_meet (some t) u ≡ true) (dot : no_dot_after (some t) u ≡ true) where
  abbrev Goal : Type 0
  Goal = Apart (left_by t.lexeme) u.lexeme

  meets : {C : Type 0} → ends_operator t.lexeme ≡ true → begins_operator u.lexeme ≡ true → tight_before t.kind || tight_after u.kind ≡ true → C
  meets p q r = clash (operators_meet t u) (tight_before t.kind || tight_after u.kind) meet (both _ _ p q) r

  t_ends : operator_byte (peek t.lexeme) ≡ true → ends_operator t.lexeme ≡ true
  t_ends h = whole-ends t.lexeme (reads_whole_lem t.lexeme σ.reads) h

  -- behind a round or a square opener
  opener_case : (d : ℕ) → t.lexeme ≡ d ∷ [] → class d ≡ Single → Goal
  opener_case d e h = rw e (left_single d u.lexeme h)

  -- behind an operator byte
  operator_case : operator_byte (peek t.lexeme) ≡ true → tight_before t.kind ≡ true → Goal
  operator_case h m =
      left-operator (class (peek t.lexeme)) (peek t.lexeme) u.lexeme h
      (split (begins_operator u.lexeme) (λ e. meets (t_ends h) e (or_first _ _ m)) (λ e. sym (begins-peek u.lexeme) ∙ e))

  -- before a single byte
  single_case : (d : ℕ) → u.lexeme ≡ d ∷ [] → class d ≡ Single → Goal
  single_case d e h = rw e (apart_single (left_by t.lexeme) d h)

  -- before a dot or a colon
  tight_case : tight_after u.kind ≡ true → operator_byte (peek u.lexeme) ≡ true → is_word (class (peek u.lexeme)) ≡ false → (digit (peek t.lexeme) ≡ true → Undigit u.lexeme) → Goal
  tight_case m h f d =
      left_by_lem (class (peek t.lexeme)) (peek t.lexeme) u.lexeme f d
      (λ e. meets (t_ends e) (begins-peek u.lexeme ∙ h) (or_second (tight_before t.kind) _ m))

  dotted : {C : Type 0} → u.kind ≡ Dot → digit (peek t.lexeme) ≡ true → C
  dotted e d = no_dot (begins_digit t.lexeme) (eqb u.kind Dot) dot (digit-peek t.lexeme ∙ d) (rw e)

  u_is : (k : ℕ) (v : List ℕ) → u.kind ≡ k → has_its_lexeme k u.lexeme ≡ same_bytes u.lexeme v → u.lexeme ≡ v
  u_is k v e f = lexeme_is u.kind k u.lexeme v τ.fixed e f

  t_is : (k : ℕ) (v : List ℕ) → t.kind ≡ k → has_its_lexeme k t.lexeme ≡ same_bytes t.lexeme v → t.lexeme ≡ v
  t_is k v e f = lexeme_is t.kind k t.lexeme v σ.fixed e f

  before_single : one_of (RightBrace ∷ LeftParen ∷ RightParen ∷ LeftBracket ∷ RightBracket ∷ Comma ∷ Semicolon ∷ Question ∷ []) u.kind ≡ true → Goal
  unfolding has_its_lexeme class
  before_single m =
      among (RightBrace ∷ LeftParen ∷ RightParen ∷ LeftBracket ∷ RightBracket ∷ Comma ∷ Semicolon ∷ Question ∷ []) u.kind m (
        λ e. single_case 125 (u_is RightBrace _ e refl) refl,
        (
          λ e. single_case 40 (u_is LeftParen _ e refl) refl,
          (
            λ e. single_case 41 (u_is RightParen _ e refl) refl,
            (
              λ e. single_case 91 (u_is LeftBracket _ e refl) refl,
              (
                λ e. single_case 93 (u_is RightBracket _ e refl) refl,
                (
                  λ e. single_case 44 (u_is Comma _ e refl) refl,
                  (
                    λ e. single_case 59 (u_is Semicolon _ e refl) refl,
                    (λ e. single_case 63 (u_is Question _ e refl) refl, tt),
                  ),
                ),
              ),
            ),
          ),
        ),
      )

  before-tight : tight_after u.kind ≡ true → Goal
  unfolding has_its_lexeme class
  before-tight m =
      among (Dot ∷ DotDot ∷ ColonColon ∷ Colon ∷ []) u.kind m (
        λ e. tight_case m (rw (u_is Dot (46 ∷ []) e refl)) (rw (u_is Dot (46 ∷ []) e refl)) (λ d. dotted e d),
        (
          λ e. tight_case m (rw (u_is DotDot (46 ∷ 46 ∷ []) e refl)) (rw (u_is DotDot (46 ∷ 46 ∷ []) e refl)) (λ d. rw (u_is DotDot (46 ∷ 46 ∷ []) e refl)),
          (
            λ e. tight_case m (rw (u_is ColonColon (58 ∷ 58 ∷ []) e refl)) (rw (u_is ColonColon (58 ∷ 58 ∷ []) e refl)) (λ d. rw (u_is ColonColon (58 ∷ 58 ∷ []) e refl)),
            (λ e. tight_case m (rw (u_is Colon (58 ∷ []) e refl)) (rw (u_is Colon (58 ∷ []) e refl)) (λ d. rw (u_is Colon (58 ∷ []) e refl)), tt),
          ),
        ),
      )

  behind_operator : tight_before t.kind ≡ true → Goal
  unfolding has_its_lexeme class
  behind_operator m =
      among (Dot ∷ DotDot ∷ ColonColon ∷ Hash ∷ Bang ∷ BangHash ∷ Minus ∷ []) t.kind m (
        λ e. operator_case (rw (t_is Dot (46 ∷ []) e refl)) m,
        (
          λ e. operator_case (rw (t_is DotDot (46 ∷ 46 ∷ []) e refl)) m,
          (
            λ e. operator_case (rw (t_is ColonColon (58 ∷ 58 ∷ []) e refl)) m,
            (
              λ e. operator_case (rw (t_is Hash (35 ∷ []) e refl)) m,
              (
                λ e. operator_case (rw (t_is Bang (33 ∷ []) e refl)) m,
                (
                  λ e. operator_case (only_peek t.lexeme σ.reads (rw e at σ.fixed)) m,
                  (λ e. operator_case (rw (t_is Minus (45 ∷ []) e refl)) m, tt),
                ),
              ),
            ),
          ),
        ),
      )

  behind_opener : one_of (LeftParen ∷ LeftBracket ∷ []) t.kind ≡ true → Goal
  unfolding has_its_lexeme class
  behind_opener m =
      among (LeftParen ∷ LeftBracket ∷ []) t.kind m (λ e. opener_case 40 (t_is LeftParen _ e refl) refl, (λ e. opener_case 91 (t_is LeftBracket _ e refl) refl, tt))

-- ---- where none of the four cases holds, there is a space

abbrev NoneOf : List ℕ → ℕ → Type 0
NoneOf [] k = Unit {0}
NoneOf (j ∷ js) k = (eqb k j ≡ false) × NoneOf js k

none_of : (js : List ℕ) (k : ℕ) → one_of js k ≡ false → NoneOf js k
none_of [] k e = tt
none_of (j ∷ js) k e = (or_left (eqb k j) (one_of js k) e, none_of js k (or_right (eqb k j) (one_of js k) e))

spaced : (p k : ℕ) (unary : Bool) → one_of (LeftParen ∷ LeftBracket ∷ []) p ≡ false → tight_before p ≡ false
    → one_of (RightBrace ∷ LeftParen ∷ RightParen ∷ LeftBracket ∷ RightBracket ∷ Comma ∷ Semicolon ∷ Question ∷ []) k ≡ false → tight_after k ≡ false → space_after (some p) unary k ≡ true
spaced p k unary a b c d =
    let a' = none_of (LeftParen ∷ LeftBracket ∷ []) p a in
    let b' = none_of (Dot ∷ DotDot ∷ ColonColon ∷ Hash ∷ Bang ∷ BangHash ∷ Minus ∷ []) p b in
    let c' = none_of (RightBrace ∷ LeftParen ∷ RightParen ∷ LeftBracket ∷ RightBracket ∷ Comma ∷ Semicolon ∷ Question ∷ []) k c in
    let d' = none_of (Dot ∷ DotDot ∷ ColonColon ∷ Colon ∷ []) k d in
    rw (b'.1.1.1.1.1.1.0, a'.0, a'.1.0, b'.0, b'.1.0, b'.1.1.0, b'.1.1.1.0, b'.1.1.1.1.0, b'.1.1.1.1.1.0, c'.1.1.0, c'.1.1.1.1.0, d'.0, d'.1.0, d'.1.1.0, c'.1.1.1.1.1.0, d'.1.1.1.0, c'.1.1.1.1.1.1.0, c'.1.1.1.1.1.1.1.0, c'.0, c'.1.0, c'.1.1.1.0)

-- no gap is written between t and u, so they stand apart
pub apart : (t u : Token) (unary : Bool) → Sound t → Sound u → may_meet (some t) u ≡ true → no_dot_after (some t) u ≡ true → space_after (some t.kind) unary u.kind ≡ false → Apart (left_by t.lexeme) u.lexeme
apart t u unary σ τ m d e =
    split (one_of (LeftParen ∷ LeftBracket ∷ []) t.kind) (behind_opener t u σ τ m d)
    (λ x. split (tight_before t.kind) (behind_operator t u σ τ m d)
    (λ y. split (one_of (RightBrace ∷ LeftParen ∷ RightParen ∷ LeftBracket ∷ RightBracket ∷ Comma ∷ Semicolon ∷ Question ∷ []) u.kind) (before_single t u σ τ m d)
    (λ z. split (tight_after u.kind) (before-tight t u σ τ m d)
    (λ v. impossible (sym (spaced t.kind u.kind unary x y z v) ∙ e)))))
