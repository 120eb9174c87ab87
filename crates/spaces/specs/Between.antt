-- The spaces between two kinds, as the layout finds them. proofs/Pairs.antt shows that they are those of `space_after`.
-- Assumes nothing.
use Rattle.std.specs.Prelude.{Bool, cond, ℕ, ◌-◌, ◌*◌, ◌/◌, ◌%◌, ◌^◌, eqb}
use Rattle.rows.specs.Kinds.{RightBrace, LeftParen, LeftBracket}

-- the kinds after which a token of the kind k may stand with a space, as the bits of a number
abbrev pub loose_kinds : ℕ → ℕ
loose_kinds k =
    cond (eqb k RightBrace) 0x7_fffc_0fab
    (cond (eqb k LeftParen) 0x7_ffbc_0f0f
    (cond (eqb k LeftBracket) 0x4_3fbc_0f0f 0x7_fffc_0faf))

-- a unary `-` is none of them
abbrev pub loose_after : ℕ → Bool → ℕ
loose_after k unary = cond unary (loose_kinds k - 0x4_0000) (loose_kinds k)

-- the bit k of a mask
abbrev pub bit : ℕ → ℕ → ℕ
bit mask k = mask / 2 ^ k % 2

-- none or one: one after the kinds `loose`, but for some kinds before which there is none
abbrev pub spaces : ℕ → ℕ → ℕ → ℕ
spaces loose p k = bit loose p * bit 0x7_ffff_805f k
