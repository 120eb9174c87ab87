-- `plain::lexeme::is_itself` meets its contract. Assumes nothing.
use mathlib.Core.List.{[], ◌∷◌}
use mathlib.Core.Path.{◌≡◌, refl, ap, ◌∙◌}
use native.Mathlib.Omega.{arith}
use Rattle.shared.specs.Bytes.{else_word}
use Rattle.rows.specs.Kinds.{Colon, Semicolon, Question, Dot, DotDot, ColonColon, Hash, Bang, Minus, Else}
use Rattle.rows.specs.KindNumber.{kind_number}
use Rattle.pieces.specs.Class.{class}
use Rattle.pieces.specs.Reading.{read}
use Rattle.definition.specs.Plain.{has_its_lexeme, reads_whole}
use Rattle.plain.proofs.Fixed.{itself_fixed, itself_operators}
use Rattle.plain.proofs.Named.{other}
use Rattle.plain.proofs.lexeme.is_itself.Goals as goal

pub returns-in-Colon : goal.returns-in-Colon
unfolding has_its_lexeme reads_whole read class
returns-in-Colon c = c.is_just.ensures ∙ itself_fixed Colon c.args.lexeme.now (58 ∷ []) (ap kind_number c.in-Colon.is) refl refl

pub returns-in-Semicolon : goal.returns-in-Semicolon
unfolding has_its_lexeme reads_whole read class
returns-in-Semicolon c = c.is_just-in-Semicolon.ensures ∙ itself_fixed Semicolon c.args.lexeme.now (59 ∷ []) (ap kind_number c.in-Semicolon.is) refl refl

pub returns-in-Question : goal.returns-in-Question
unfolding has_its_lexeme reads_whole read class
returns-in-Question c = c.is_just-in-Question.ensures ∙ itself_fixed Question c.args.lexeme.now (63 ∷ []) (ap kind_number c.in-Question.is) refl refl

pub returns-in-Dot : goal.returns-in-Dot
unfolding has_its_lexeme reads_whole read class
returns-in-Dot c = c.is_just-in-Dot.ensures ∙ itself_fixed Dot c.args.lexeme.now (46 ∷ []) (ap kind_number c.in-Dot.is) refl refl

pub returns-in-DotDot : goal.returns-in-DotDot
unfolding has_its_lexeme reads_whole read class
returns-in-DotDot c = c.is_just-in-DotDot.ensures ∙ itself_fixed DotDot c.args.lexeme.now (46 ∷ 46 ∷ []) (ap kind_number c.in-DotDot.is) refl refl

pub returns-in-ColonColon : goal.returns-in-ColonColon
unfolding has_its_lexeme reads_whole read class
returns-in-ColonColon c = c.is_just-in-ColonColon.ensures ∙ itself_fixed ColonColon c.args.lexeme.now (58 ∷ 58 ∷ []) (ap kind_number c.in-ColonColon.is) refl refl

pub returns-in-Hash : goal.returns-in-Hash
unfolding has_its_lexeme reads_whole read class
returns-in-Hash c = c.is_just-in-Hash.ensures ∙ itself_fixed Hash c.args.lexeme.now (35 ∷ []) (ap kind_number c.in-Hash.is) refl refl

pub returns-in-Bang : goal.returns-in-Bang
unfolding has_its_lexeme reads_whole read class
returns-in-Bang c = c.is_just-in-Bang.ensures ∙ itself_fixed Bang c.args.lexeme.now (33 ∷ []) (ap kind_number c.in-Bang.is) refl refl

pub returns-in-Minus : goal.returns-in-Minus
unfolding has_its_lexeme reads_whole read class
returns-in-Minus c = c.is_just-in-Minus.ensures ∙ itself_fixed Minus c.args.lexeme.now (45 ∷ []) (ap kind_number c.in-Minus.is) refl refl

pub returns-in-BangHash : goal.returns-in-BangHash
returns-in-BangHash c = c.is_operators.ensures ∙ itself_operators c.args.lexeme.now (ap kind_number c.in-BangHash.is)

pub returns-in_default : goal.returns-in_default
unfolding has_its_lexeme reads_whole read class
returns-in_default c =
    let n = c.in_default in
    let a = other _ n.not-Colon in
    let b = other _ n.not-Semicolon in
    let d = other _ n.not-Question in
    let e = other _ n.not-Dot in
    let f = other _ n.not-DotDot in
    let g = other _ n.not-ColonColon in
    let h = other _ n.not-Hash in
    let i = other _ n.not-Bang in
    let j = other _ n.not-BangHash in
    let k = other _ n.not-Minus in
    let z : kind_number c.args.kind ≡ Else = omega (arith, a, b, d, e, f, g, h, i, j, k) in
    c.is_just-in_default.ensures ∙ itself_fixed Else c.args.lexeme.now else_word z refl refl
