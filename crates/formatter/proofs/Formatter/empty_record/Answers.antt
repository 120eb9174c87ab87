-- `formatter::Formatter::empty_record` meets its contract. Assumes nothing.
use mathlib.Core.Path.{refl}
use Rattle.shared.specs.Bytes.{bytes}
use Rattle.rows.specs.Kinds.{LeftBrace}
use Rattle.definition.specs.Act.{run}
use Rattle.definition.specs.Arms.{empty_record}
use Rattle.definition.specs.Emit.{token_gap}
use Rattle.definition.proofs.Said.{said}
use Rattle.sink.proofs.Appends.{same_bytes}
use Rattle.formatter.specs.Parts.{gap_size}
use Rattle.formatter.specs.CodeState.{options_of, fields_of}
use Rattle.formatter.specs.Token.{lexeme_of}
use Rattle.formatter.proofs.Blocks.{closed_up}
use Rattle.formatter.proofs.Does.{does}
use Rattle.formatter.proofs.Gaps.{token_gap_lem, gapped}
use Rattle.formatter.proofs.Formatter.empty_record.Goals as goal

pub returns : goal.returns
unfolding run said empty_record
returns c = λ x.
    let o = options_of c.args.self.now.options in
    let f = fields_of c.args.self.now in
    let w = lexeme_of c.args.token c.args.self.now in
    does refl refl refl
    (same_bytes
    (closed_up (token_gap o LeftBrace f) w (bytes "{}"))
    (gapped (gap_size o LeftBrace f) _ _ (token_gap_lem o f LeftBrace) c.gap_before-gap.ensures.0 c.write_lexeme.ensures))
