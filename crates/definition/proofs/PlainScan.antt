-- The plain mark in one pass over the tokens, as the code takes it: it is the mark. Assumes nothing.
use Rattle.std.proofs.Common.{◌≡◌, Bool, true, false, ◌&&◌, List, [], ◌∷◌, refl, ap, ◌∙◌}
use mathlib.Core.Option.{Option, none}
use Rattle.rows.specs.Token.{Token}
use Rattle.definition.specs.Plain.{clause₁, clause₂, clause₃, clause₄, clause₅, clause₆, clause₇, every, every_pair, no_brace_after_comma, no_empty_record, neighbour, comma_last, record_open, plain}

-- what has been seen: the last token but Newline and Eof; that the last but Eof is a Comma; a Record, and no `{` since
pub record Seen : Type 0 where
  pub last : Option Token
  pub comma : Bool
  pub armed : Bool

abbrev pub unseen : Seen
unseen = record { last = none; comma = false; armed = false }

abbrev pub see : Seen → Token → Seen
see q t = record { last = neighbour q.last t; comma = comma_last q.comma t; armed = record_open q.armed t }

-- the seven clauses at one token
abbrev pub fits : Seen → Token → List Token → Bool
fits q t ts = clause₁ t && (clause₂ t && (clause₃ t && (clause₄ q.last t && (clause₅ q.last t && (clause₆ q.comma t && clause₇ q.armed t ts)))))

unfoldable pub plain_from : Seen → List Token → Bool
plain_from q [] = true
plain_from q (t ∷ ts) = fits q t ts && plain_from (see q t) ts

-- two conjunctions, taken together
zip : (a x b y : Bool) → a && x && (b && y) ≡ a && b && (x && y)
zip false x b y = refl
zip true false false y = refl
zip true false true y = refl
zip true true b y = refl

module _ (a₁ x₁ a₂ x₂ a₃ x₃ a₄ x₄ a₅ x₅ a₆ x₆ a₇ x₇ : Bool) where
  zip₇ : a₁ && x₁ && (a₂ && x₂ && (a₃ && x₃ && (a₄ && x₄ && (a₅ && x₅ && (a₆ && x₆ && (a₇ && x₇))))))
      ≡ a₁ && (a₂ && (a₃ && (a₄ && (a₅ && (a₆ && a₇))))) && (x₁ && (x₂ && (x₃ && (x₄ && (x₅ && (x₆ && x₇))))))
  zip₇ = rw (zip a₆ x₆ a₇ x₇, zip a₅ x₅ (a₆ && a₇) (x₆ && x₇), zip a₄ x₄ (a₅ && (a₆ && a₇)) (x₅ && (x₆ && x₇)), zip a₃ x₃ (a₄ && (a₅ && (a₆ && a₇))) (x₄ && (x₅ && (x₆ && x₇))), zip a₂ x₂ (a₃ && (a₄ && (a₅ && (a₆ && a₇)))) (x₃ && (x₄ && (x₅ && (x₆ && x₇)))))
      (zip a₁ x₁ (a₂ && (a₃ && (a₄ && (a₅ && (a₆ && a₇))))) (x₂ && (x₃ && (x₄ && (x₅ && (x₆ && x₇))))))

-- the clauses from one place on
clauses : (q : Seen) (ts : List Token)
    → every clause₁ ts && (every clause₂ ts && (every clause₃ ts && (every_pair clause₄ q.last ts && (every_pair clause₅ q.last ts && (no_brace_after_comma q.comma ts && no_empty_record q.armed ts))))) ≡ plain_from q ts
unfolding every every_pair no_brace_after_comma no_empty_record plain_from
clauses q [] = refl
clauses q (t ∷ ts) =
    zip₇ (clause₁ t) (every clause₁ ts) (clause₂ t) (every clause₂ ts) (clause₃ t) (every clause₃ ts) (clause₄ q.last t) (every_pair clause₄ (see q t).last ts)
    (clause₅ q.last t) (every_pair clause₅ (see q t).last ts) (clause₆ q.comma t) (no_brace_after_comma (see q t).comma ts) (clause₇ q.armed t ts) (no_empty_record (see q t).armed ts)
    ∙ ap (λ r. fits q t ts && r) (clauses (see q t) ts)

pub plain_scan : (ts : List Token) → plain ts ≡ plain_from unseen ts
unfolding plain
plain_scan ts = clauses unseen ts
