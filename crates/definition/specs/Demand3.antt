-- Demand 3 (specification, 'What the mark promises'). proofs/Demand3.antt proves both halves. Assumes nothing.
use Rattle.std.specs.Prelude.{◌≡◌, ℕ, ◌+◌, ◌*◌, ◌≤◌, cond, List, [], ◌∷◌, length, take}
use Rattle.shared.specs.Report.{Report, success}
use Rattle.rows.specs.Token.{Token, tokens_of}
use Rattle.pieces.specs.Answer.{read_answer, read_slots, cut}
use Rattle.pieces.specs.Commas.{Inserted, struck}
use Rattle.definition.specs.Plain.{is_mute}
use Rattle.definition.specs.Layout.{Layout, layout}

-- the lexemes of all tokens but Newline and Eof
unfoldable pub lexemes_of : List Token → List (List ℕ)
lexemes_of [] = []
lexemes_of (t ∷ ts) = cond (is_mute t) (lexemes_of ts) (t.lexeme ∷ lexemes_of ts)

abbrev pub lexemes : List ℕ → List ℕ → List (List ℕ)
lexemes rows text = lexemes_of (tokens_of rows text)

-- the answer's length, commas count and plain mark
abbrev pub length_of : Layout → ℕ
length_of l = l.report.first

abbrev pub commas_of : Layout → ℕ
commas_of l = l.report.second

-- it is no refusal, and bears the plain mark
abbrev pub IsPlain : Layout → Type 0
IsPlain l = (l.report.refusal ≡ 0) × (l.report.third ≡ 1)

-- the text: the output's first bytes, as many as the answer's length
abbrev pub text_of : Layout → List ℕ
text_of l = take (length_of l) l.out

-- The text reads back without a refusal. The pieces in the slots are the lexemes xs with commas inserted, at most one for each `]` or `}`,
-- directly before it, and their number is that of the lexemes and the answer's commas.
pub record ReadsBack (xs : List (List ℕ)) (l : Layout) (read : Report) (slots : List ℕ) : Type 0 where
  pub answer : read ≡ success (length xs + commas_of l) 0 0
  pub pieces : Inserted xs (cut (text_of l) (length xs + commas_of l) slots) (commas_of l)

-- The first half, of the lexemes xs, a layout, the reading's report, and the slice of pieces before and after the reading: if the answer bears
-- the plain mark, the text has at most 4,294,967,295 bytes and there is space for the pieces, then the text reads back.
abbrev pub FirstHalfOf : List (List ℕ) → Layout → Report → List ℕ → List ℕ → Type 0
FirstHalfOf xs l read space slots =
    IsPlain l → length (text_of l) ≤ 4294967295 → 2 * (length xs + commas_of l) ≤ length space
    → ReadsBack xs l read slots

-- The first half, for every layout call.
abbrev pub FirstHalf : Type 0
FirstHalf = (style indent signature list : ℕ) (rows text out space : List ℕ)
    → let l = layout style indent signature list rows text out in
    FirstHalfOf (lexemes rows text) l (read_answer (text_of l) (length space)) space (read_slots (text_of l) space)

-- The second half, of two layouts and their lexemes: if both answers bear the plain mark and show the same text, then the lexemes are equal once
-- each run of commas directly before a `]` or `}` is struck out.
abbrev pub SecondHalfOf : List (List ℕ) → Layout → List (List ℕ) → Layout → Type 0
SecondHalfOf xs l ys m = IsPlain l → IsPlain m → text_of l ≡ text_of m → struck xs ≡ struck ys

-- The second half, for any two layout calls.
abbrev pub SecondHalf : Type 0
SecondHalf = (style indent signature list : ℕ) (rows text out : List ℕ) (style' indent' signature' list' : ℕ) (rows' text' out' : List ℕ)
    → SecondHalfOf (lexemes rows text) (layout style indent signature list rows text out)
    (lexemes rows' text') (layout style' indent' signature' list' rows' text' out')
