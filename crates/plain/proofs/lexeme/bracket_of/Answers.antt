-- `plain::lexeme::bracket_of` meets its contract. Assumes nothing.
use Rattle.std.proofs.Common.{◌≡◌, arith}
use Rattle.rows.specs.Kinds as number
use Rattle.rows.specs.KindNumber.{kind_number}
use Rattle.plain.specs.Scan.{bracket_of}
use Rattle.plain.proofs.Named.{other}
use Rattle.plain.proofs.lexeme.bracket_of.Goals as goal

pub returns-in_default : goal.returns-in_default
unfolding bracket_of
returns-in_default c =
    let n = c.in_default in
    let a = other _ n.not-LeftBrace in
    let b = other _ n.not-RightBrace in
    let d = other _ n.not-LeftParen in
    let e = other _ n.not-RightParen in
    let f = other _ n.not-LeftBracket in
    let g = other _ n.not-RightBracket in
    let z : kind_number c.args.kind ≡ number.Comma = omega (arith, a, b, d, e, f, g) in
    rw z
