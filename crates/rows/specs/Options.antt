-- `FormatOptions`, with the bounds (specification, 'Options'), and refusal 1.
-- Assumes nothing.
use Rattle.std.specs.Prelude.{cond, ℕ, ltb, eqb}
use Rattle.std.proofs.Math.Option.{Option, none, some}

pub data BraceStyle : Type 0 where
  SameLine Allman : BraceStyle

pub record Options : Type 0 where
  pub brace_style : BraceStyle
  pub indent_width : ℕ
  pub fn_sig_width : ℕ
  pub list_width : ℕ

-- style 0 is SameLine, 1 Allman
abbrev pub options_of : ℕ → ℕ → ℕ → ℕ → Options
options_of style indent signature list =
    record { brace_style = cond (eqb style 0) SameLine Allman; indent_width = indent; fn_sig_width = signature; list_width = list }

-- the bounds: style 0 or 1, indent width at most 16, both other widths at most 65,535
abbrev pub most_style : ℕ
most_style = 1

abbrev pub most_indent_width : ℕ
most_indent_width = 16

abbrev pub most_width : ℕ
most_width = 65535

-- The defaults: Allman, 4, 40 and 40.
abbrev pub default_style : ℕ
default_style = 1

abbrev pub default_indent_width : ℕ
default_indent_width = 4

abbrev pub default_width : ℕ
default_width = 40

-- Refusal 1: the position of the first option out of bounds.
unfoldable pub bad_option : ℕ → ℕ → ℕ → ℕ → Option ℕ
bad_option style indent signature list =
    cond (ltb most_style style) (some 0)
    (cond (ltb most_indent_width indent) (some 1)
    (cond (ltb most_width signature) (some 2)
    (cond (ltb most_width list) (some 3) none)))
