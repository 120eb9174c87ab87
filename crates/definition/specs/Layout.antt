-- The layout call: from options, rows, text and output to the answer and the output after it (specification,
-- 'The walk' and 'Refusals', 1 to 5).
-- Assumes nothing.
use Rattle.std.specs.Prelude.{ℕ, ◌+◌, Bool, cond, List, [], ◌∷◌, length, nat_lt}
use Rattle.shared.specs.Report.{Report, success, refuse, accepted, zeroed, put_first, bit, deep, full}
use Rattle.rows.specs.Options.{Options, options_of}
use Rattle.rows.specs.Answer.{check_report}
use Rattle.rows.specs.Token.{Token, tokens_of}
use Rattle.definition.specs.Act.{State, run}
use Rattle.definition.specs.Emit.{is_some}
use Rattle.definition.specs.PushToken.{turn, begun}
use Rattle.definition.specs.Plain.{plain}

-- ---- the walk over an output of so many bytes

-- all tokens are laid out, or a refusal with its number and place
pub data Ended : Type 0 where
  finished : State → Ended
  stopped : ℕ → ℕ → Ended

-- Behind token i: 5 where its bytes don't fit, else 4 where its list is too deep. (Bytes written before that refusal came first.)
abbrev pub checked : ℕ → ℕ → State → Ended
checked size i s =
    cond (nat_lt size (length s.out)) (stopped full i)
    (cond (is_some s.formatter.too_deep) (stopped deep i) (finished s))

abbrev pub and_then : Ended → (State → Ended) → Ended
and_then (finished s) next = next s
and_then (stopped n i) next = stopped n i

unfoldable pub lay_from : Options → ℕ → Ended → ℕ → List Token → Ended
lay_from o size e i [] = e
lay_from o size e i (t ∷ ts) = lay_from o size (and_then e (λ s. checked size i (run (turn o i t ts) s))) (i + 1) ts

abbrev pub lay : Options → ℕ → List Token → Ended
lay o size ts = lay_from o size (finished begun) 0 ts

-- ---- the call

-- The answer, and the output after the call.
pub record Layout : Type 0 where
  pub report : Report
  pub out : List ℕ

-- length, commas and plain, and the text put first; or a refusal, and the output zeroed
abbrev pub laid_out : Ended → Bool → List ℕ → Layout
laid_out (finished s) mark out = record { report = success (length s.out) s.commas (bit mark); out = put_first s.out out }
laid_out (stopped n i) mark out = record { report = refuse n i; out = zeroed out }

-- the layout l, unless the checks refuse: then that refusal, and the output unchanged
abbrev pub after_checks : Report → List ℕ → Layout → Layout
after_checks checks out l = cond (accepted checks) l (record { report = checks; out = out })

unfoldable pub layout : ℕ → ℕ → ℕ → ℕ → List ℕ → List ℕ → List ℕ → Layout
layout style indent signature list rows text out =
    after_checks (check_report style indent signature list rows (length text)) out
    (laid_out (lay (options_of style indent signature list) (length out) (tokens_of rows text)) (plain (tokens_of rows text)) out)
