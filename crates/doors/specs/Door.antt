-- What a C door returns and leaves, by what the call that it makes answers (specification, 'The doors').
-- Assumes nothing.
use Rattle.std.specs.Prelude.{Bool, cond, List, ℕ, eqb, length}
use Rattle.shared.specs.Report.{Report, report, report_size, report_bytes}

-- Refusal 11 is for a report slice that isn't 24 bytes.
abbrev pub is_report : List ℕ → Bool
is_report xs = eqb (length xs) report_size

-- What the door returns: the refusal or 0.
abbrev pub door_refusal : List ℕ → Report → ℕ
door_refusal xs r = cond (is_report xs) r.refusal report

-- The report slice xs after it.
abbrev pub door_report : List ℕ → Report → List ℕ
door_report xs r = cond (is_report xs) (report_bytes r) xs

-- Another lent slice after it, which the call takes from `before` to `after`: refusal 11 comes first and changes nothing.
abbrev pub door_slice : List ℕ → List ℕ → List ℕ → List ℕ
door_slice xs before after = cond (is_report xs) after before
