-- Demand 3 for the shebang wrapper's calls, whatever the source: its answer bears the plain mark only where no line comes first.
-- proofs/Demand3.antt proves both halves.
-- Assumes nothing.
use Rattle.std.specs.Prelude.{List, ℕ, length}
use Rattle.pieces.specs.Answer.{read_answer, read_slots}
use Rattle.definition.specs.Layout.{layout}
use Rattle.definition.specs.Demand3.{lexemes, text_of, FirstHalfOf, SecondHalfOf}
use Rattle.format_source.specs.Source.{layout_source}

-- The first half, for every call of the wrapper.
abbrev pub FirstHalfSource : Type 0
FirstHalfSource = (source rows text out space : List ℕ)
    → let l = layout_source source rows text out in
    FirstHalfOf (lexemes rows text) l (read_answer (text_of l) (length space)) space (read_slots (text_of l) space)

-- The second half, for any two calls of the wrapper.
abbrev pub SecondHalfSource : Type 0
SecondHalfSource = (source rows text out source' rows' text' out' : List ℕ)
    → SecondHalfOf (lexemes rows text) (layout_source source rows text out)
    (lexemes rows' text') (layout_source source' rows' text' out')

-- The second half, for any call of the wrapper and any layout call.
abbrev pub SecondHalfBeside : Type 0
SecondHalfBeside = (source rows text out : List ℕ) (style indent signature list : ℕ) (rows' text' out' : List ℕ)
    → SecondHalfOf (lexemes rows text) (layout_source source rows text out)
    (lexemes rows' text') (layout style indent signature list rows' text' out')
