-- The nine stated cases (specification, 'Cases'), as one proof over a joint list, and others, the 65th broken
-- list among them. Each is a whole layout call by computation: options, row bytes, text bytes and output go
-- in, the report and the output come out. Assumes nothing.
use Rattle.std.proofs.Common.{◌≡◌, ℕ, zero, suc, ◌+◌, cond, eqb, List, [], ◌∷◌, ◌++◌, length, drop, replicate, refl}
use Prim.Native.String.{String, [] as empty, ◌∷◌ as ◌before◌}
use Rattle.shared.specs.Bytes.{byte, bytes, slashes}
use Rattle.shared.specs.Report.{success, refuse, zeroed, deep}
use Rattle.rows.specs.Kinds.{TokenRow, Trailing, LineComment, Newline, LeftBrace, RightBrace, LeftParen, RightParen, LeftBracket, RightBracket, Comma, Colon, Minus, Else, Fn, Record, Identifier, NumberLiteral, Other}
use Rattle.rows.specs.Row.{first_rows, rows_of}
use Rattle.rows.specs.Options.{bad_option}
use Rattle.rows.specs.Checks.{bad_from}
use Rattle.rows.specs.Answer.{each_row_report, rows_report, check_report}
use Rattle.rows.specs.Token.{trailing_of, tokens_from, tokens_of}
use Rattle.lookahead.specs.Measure.{any_comment, single_line_from, measure_from, should_break_sig, should_break_list}
use Rattle.pieces.specs.Class.{class}
use Rattle.pieces.specs.Reading.{read}
use Rattle.definition.specs.Act.{run}
use Rattle.definition.specs.Emit.{leading_trivia, trailing_trivia, open_block_multiline}
use Rattle.definition.specs.Arms.{ends_with_two_feeds, newline_arm, right_brace_arm, empty_record, left_brace_arm, left_paren_arm, left_bracket_arm, right_paren_arm, right_bracket_arm, comma_arm, else_arm}
use Rattle.definition.specs.Plain.{every, every_pair, has_its_lexeme, reads_whole, no_brace_after_comma, no_empty_record, plain}
use Rattle.definition.specs.Layout.{Layout, lay_from, layout}

-- ---- a call's arguments

-- a row of a case: its what, its kind, and the bytes that it names
record Named : Type 0 where
  what : ℕ
  kind : ℕ
  named : List ℕ

-- a 32-bit number below 256, little-endian
abbrev number : ℕ → List ℕ
number n = n ∷ 0 ∷ 0 ∷ 0 ∷ []

-- the rows' bytes; what they name stands in the text one behind the other, from an index on
abbrev row_bytes : ℕ → List Named → List ℕ
row_bytes at [] = []
row_bytes at (r ∷ rs) = number r.what ++ number r.kind ++ number at ++ number (at + length r.named) ++ row_bytes (at + length r.named) rs

-- the text's bytes
abbrev text_bytes : List Named → List ℕ
text_bytes [] = []
text_bytes (r ∷ rs) = r.named ++ text_bytes rs

-- the output before the call
abbrev output : ℕ → List ℕ
output size = replicate size 7

-- ---- a case: options and rows, and what comes out of the call

record Case : Type 0 where
  indent_width : ℕ
  fn_sig_width : ℕ
  list_width : ℕ
  rows : List Named
  size : ℕ
  comes : Layout

-- the layout call in Allman style, into an output of the case's size
abbrev laid : Case → Layout
laid c = layout 1 c.indent_width c.fn_sig_width c.list_width (row_bytes 0 c.rows) (text_bytes c.rows) (output c.size)

abbrev laid_all : List Case → List Layout
laid_all [] = []
laid_all (c ∷ cs) = laid c ∷ laid_all cs

abbrev come_all : List Case → List Layout
come_all [] = []
come_all (c ∷ cs) = c.comes ∷ come_all cs

-- the text, the commas and the plain mark; past the text the output is unchanged
abbrev says : ℕ → List ℕ → ℕ → ℕ → Layout
says size text commas mark = record { report = success (length text) commas mark; out = text ++ drop (length text) (output size) }

-- by signature width and list width, with the indent width 4, into 64 bytes
abbrev case : ℕ → ℕ → List Named → List ℕ → ℕ → ℕ → Case
case signature list rs text commas mark = record { indent_width = 4; fn_sig_width = signature; list_width = list; rows = rs; size = 64; comes = says 64 text commas mark }

-- a text as the specification prints it: `/` is a line feed and `_` a space
abbrev shown : String → List ℕ
shown empty = []
shown (c before s) = cond (eqb (byte c) (byte "/")) (byte "\n") (cond (eqb (byte c) (byte "_")) (byte " ") (byte c)) ∷ shown s

-- ---- the tokens of the cases

abbrev token : ℕ → String → Named
token k w = record { what = TokenRow; kind = k; named = bytes w }

abbrev name : String → Named
name w = token Identifier w

abbrev F : Named
F = token Fn "F"

abbrev R : Named
R = token Record "R"

abbrev open_paren : Named
open_paren = token LeftParen "("

abbrev close_paren : Named
close_paren = token RightParen ")"

abbrev open_bracket : Named
open_bracket = token LeftBracket "["

abbrev close_bracket : Named
close_bracket = token RightBracket "]"

abbrev open_brace : Named
open_brace = token LeftBrace "{"

abbrev close_brace : Named
close_brace = token RightBrace "}"

abbrev comma : Named
comma = token Comma ","

abbrev newline : Named
newline = token Newline ""

-- ---- the nine that are marked P; the first has two texts

abbrev cases : List Case
cases =
    -- `log(a, b)`, list width 8: one line; 7: log(/____a,/____b/)
    case 40 8 (name "log" ∷ open_paren ∷ name "a" ∷ comma ∷ name "b" ∷ close_paren ∷ []) (shown "log(a,_b)") 0 1 ∷
    case 40 7 (name "log" ∷ open_paren ∷ name "a" ∷ comma ∷ name "b" ∷ close_paren ∷ []) (shown "log(/____a,/____b/)") 0 1 ∷
    -- `x[a, b]`, 7: x[/____a,/____b,/], commas 1
    case 40 7 (name "x" ∷ open_bracket ∷ name "a" ∷ comma ∷ name "b" ∷ close_bracket ∷ []) (shown "x[/____a,/____b,/]") 1 1 ∷
    -- `F f()`, signature width 2: F f(); 1: F f(/____/____)
    case 2 40 (F ∷ name "f" ∷ open_paren ∷ close_paren ∷ []) (shown "F_f()") 0 1 ∷
    case 1 40 (F ∷ name "f" ∷ open_paren ∷ close_paren ∷ []) (shown "F_f(/____/____)") 0 1 ∷
    -- `F f(a, b, c, d)`: F f(/____a, b, c, d/____); three parameters: one line
    case 40 40 (F ∷ name "f" ∷ open_paren ∷ name "a" ∷ comma ∷ name "b" ∷ comma ∷ name "c" ∷ comma ∷ name "d" ∷ close_paren ∷ []) (shown "F_f(/____a,_b,_c,_d/____)") 0 1 ∷
    case 40 40 (F ∷ name "f" ∷ open_paren ∷ name "a" ∷ comma ∷ name "b" ∷ comma ∷ name "c" ∷ close_paren ∷ []) (shown "F_f(a,_b,_c)") 0 1 ∷
    -- `R E {}`: R E {{}, plain 0
    case 40 40 (R ∷ name "E" ∷ open_brace ∷ close_brace ∷ []) (shown "R_E_{{}") 0 0 ∷
    -- `g(a, { b, { c } })`, list width 0: g(/____a,/____{ b,/_____c } }/), plain 0
    case 40 0 (name "g" ∷ open_paren ∷ name "a" ∷ comma ∷ open_brace ∷ name "b" ∷ comma ∷ open_brace ∷ name "c" ∷ close_brace ∷ close_brace ∷ close_paren ∷ []) (shown "g(/____a,/____{_b,/_____c_}_}/)") 0 0 ∷
    -- `x[a, b,` Newline Newline `]`, 0: x[/____a,/____b,//,], commas 1
    case 40 0 (name "x" ∷ open_bracket ∷ name "a" ∷ comma ∷ name "b" ∷ comma ∷ newline ∷ newline ∷ close_bracket ∷ []) (shown "x[/____a,/____b,//,]") 1 1 ∷ []

pub paper : laid_all cases ≡ come_all cases
unfolding bad_option bad_from each_row_report rows_report check_report first_rows rows_of trailing_of tokens_from tokens_of class read any_comment single_line_from measure_from should_break_sig should_break_list run leading_trivia trailing_trivia open_block_multiline ends_with_two_feeds newline_arm right_brace_arm empty_record left_brace_arm left_paren_arm left_bracket_arm right_paren_arm right_bracket_arm comma_arm else_arm every every_pair has_its_lexeme reads_whole no_brace_after_comma no_empty_record plain lay_from layout
paper = refl

-- ---- others; the texts are those that the Rust wrote

abbrev minus : Named
minus = token Minus "-"

abbrev colon : Named
colon = token Colon ":"

-- lists `[a,`, each open in the one before, with widths 0 and no indent
abbrev nested : ℕ → List Named
nested zero = []
nested (suc n) = open_bracket ∷ name "a" ∷ comma ∷ nested n

abbrev nested_text : ℕ → List ℕ
nested_text zero = []
nested_text (suc n) = shown "[/a,/" ++ nested_text n

abbrev deep_case : ℕ → Layout → Case
deep_case n comes = record { indent_width = 0; fn_sig_width = 0; list_width = 0; rows = nested n; size = 400; comes = comes }

abbrev more_cases : List Case
more_cases =
    -- a unary and a binary minus: x = -1 - a
    case 40 40 (name "x" ∷ token Other "=" ∷ minus ∷ token NumberLiteral "1" ∷ minus ∷ name "a" ∷ []) (shown "x_=_-1_-_a") 0 1 ∷
    -- `else` behind a block of several lines: a/{/____b/}/else { c }
    case 40 40 (name "a" ∷ open_brace ∷ newline ∷ name "b" ∷ newline ∷ close_brace ∷ token Else "else" ∷ open_brace ∷ name "c" ∷ close_brace ∷ []) (shown "a/{/____b/}/else_{_c_}") 0 1 ∷
    -- a Newline counts in the width: x[/____a,/____b,/]
    case 40 8 (name "x" ∷ open_bracket ∷ name "a" ∷ comma ∷ newline ∷ name "b" ∷ close_bracket ∷ []) (shown "x[/____a,/____b,/]") 1 1 ∷
    -- a record field with a trailing comment after its comma: the comment's mark swallows the next field
    case 40 40 (R ∷ name "E" ∷ open_brace ∷ name "x" ∷ colon ∷ name "n" ∷ comma ∷ record { what = Trailing; kind = LineComment; named = bytes "c" } ∷ newline ∷ name "y" ∷ colon ∷ name "n" ∷ close_brace ∷ []) (shown "R_E/{/____x:_n,/" ++ slashes ++ shown "_c____y:_n,/}") 1 0 ∷
    -- 64 lists, each open in the one before, and a 65th, which is refused at its index
    deep_case 64 (says 400 (nested_text 64) 0 1) ∷
    deep_case 65 (record { report = refuse deep 192; out = zeroed (output 400) }) ∷ []

pub more : laid_all more_cases ≡ come_all more_cases
unfolding bad_option bad_from each_row_report rows_report check_report first_rows rows_of trailing_of tokens_from tokens_of class read any_comment single_line_from measure_from should_break_sig should_break_list run leading_trivia trailing_trivia open_block_multiline ends_with_two_feeds newline_arm right_brace_arm empty_record left_brace_arm left_paren_arm left_bracket_arm right_paren_arm right_bracket_arm comma_arm else_arm every every_pair has_its_lexeme reads_whole no_brace_after_comma no_empty_record plain lay_from layout
more = refl
