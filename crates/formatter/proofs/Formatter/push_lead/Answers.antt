-- `formatter::Formatter::push_lead` meets its contract. Assumes nothing.
use Rattle.formatter.proofs.Gaps.{gapped, indent_or_space_lem}
use Rattle.formatter.proofs.Does.{does_then}
use Rattle.formatter.proofs.Comments.{blank_row, lead-comment}
use Rattle.formatter.specs.CodeState.{code_state, options_of, formatter_of}
use Rattle.sink.proofs.Appends.{and_then}
use Rattle.rows.specs.Bounds.{row_of}
use Rattle.definition.proofs.Said.{said}
use Rattle.definition.specs.Act.{run, comment}
use Rattle.definition.specs.Formatter.{set_at_line_start}
use Rattle.shared.specs.Bytes.{line_feed}
use mathlib.Core.Bool.{cond, true}
use mathlib.Core.List.{[]}
use mathlib.Core.Path.{refl}
use borrow.Author.Rules.{rules}
use Rattle.formatter.proofs.Formatter.push_lead.Goals as goal

pub returns-then-is_blank_line-clause-does : goal.returns-then-is_blank_line-clause-does
unfolding run said
returns-then-is_blank_line-clause-does c = λ x.
    rw (blank_row c.args.self.now.text.now (row_of c.args.row) (search rules))
    (does_then {a = comment (λ f. cond f.in_record [] line_feed)} {g = set_at_line_start true} {x = x} {p = code_state c.args.self.now c.args.sink.now} refl refl refl c.write_blank_line.ensures)

pub returns-clause-does : goal.returns-clause-does
returns-clause-does c = λ x.
    lead-comment (options_of c.args.self.now.options) _ (row_of c.args.row) (search rules) refl refl refl
    (gapped _ _ _ (indent_or_space_lem (options_of c.args.self.now.options) (formatter_of c.args.self.now x)) c.indent_or_space-gap.ensures.0 (and_then c.write_spaces.ensures c.write_lead.ensures))
