-- What the methods ask of the state and of a token, and the definition's token that the code's token stands for.
-- Assumes nothing.
use Rattle.std.specs.Prelude.{true, List, [], ◌∷◌, ◌≡◌, ℕ, ◌+◌, ◌≤◌, ◌<◌, length, drop, Option, None, Some, unwrap_or}
use Rattle.shared.specs.Numbers.{most32}
use Rattle.rows.specs.Kinds.{Comma, RightBrace, Other}
use Rattle.rows.specs.Options.{most_indent_width}
use Rattle.rows.specs.Row.{row_size, row_at, rows_of}
use Rattle.rows.specs.Bounds.{Inside, InBounds}
use Rattle.rows.specs.Token.{Token, bytes_of, tokens_of}
use Rattle.lookahead.specs.Scan.{lacks, width_rows}
use Rattle.sink.specs.declared.write.Sink.{Sink}
use Rattle.formatter.specs.declared.Formatter.{Formatter}
use Rattle.formatter.specs.declared.Ends.{Ends}
use Rattle.formatter.specs.declared.TokenAt.{TokenAt}
use Rattle.formatter.specs.declared.SignatureDepth.{SignatureDepth}

-- ---- the state

-- The last token's kind; 0 where there is none.
abbrev pub kind_of : Option ℕ → ℕ
kind_of p = unwrap_or p 0

-- The paren depth inside a broken signature; outside one, 0.
abbrev pub depth_of : Option SignatureDepth → ℕ
depth_of None = 0
depth_of (Some d) = d.0

-- The bounds below are asked at a call, and are no invariant of the type: a method may bring a count to its top, and the length
-- of a full sink is past the end.

-- The indent width is at most 16, and the indent is a 32-bit number.
abbrev pub IndentBounds : Formatter → Type 0
IndentBounds f = (f.options.indent_width ≤ most_indent_width) × (f.indent ≤ most32)

-- The text fits the output so far, and the indent may grow by one.
pub record CanWrite (f : Formatter) (s : Sink) : Type 0 where
  pub within : s.len ≤ length s.out.now
  pub width : f.options.indent_width ≤ most_indent_width
  pub indent : f.indent < most32

-- What a lexeme asks besides: the last kind is a kind.
pub record CanWriteLexeme (f : Formatter) (s : Sink) : Type 0 where
  pub fits : CanWrite f s
  pub last : kind_of f.prev ≤ Other

-- What an arm asks: the text fits so far, each count may grow by one, and the last kind is a kind.
pub record Ready (f : Formatter) (s : Sink) : Type 0 where
  pub fits : CanWrite f s
  pub group : f.group_depth.0 < most32
  pub inline : f.inline_depth.0 < most32
  pub records : f.record_depth.0 < most32
  pub signature : depth_of f.sig_break_depth < most32
  pub commas : f.commas < most32
  pub last : kind_of f.prev ≤ Other

-- What a lexeme leaves as it was.
pub record Kept (f g : Formatter) : Type 0 where
  pub indent : g.indent ≡ f.indent
  pub group : g.group_depth.0 ≡ f.group_depth.0
  pub stack : g.break_stack ≡ f.break_stack

-- ---- a token

-- The token's rows lie in the rows, and its lexeme lies in the text.
pub record InRows (token : TokenAt) (rows text : List ℕ) : Type 0 where
  pub lead : token.lead ≤ token.own
  pub own : token.own + row_size ≤ token.next
  pub next : token.next ≤ length rows
  pub inside : Inside text (row_at rows token.own)
  pub kind : token.kind ≤ Other
  pub index : token.index < most32

-- The same of the formatter's rows and text.
abbrev pub HasRows : TokenAt → Formatter → Type 0
HasRows token f = InRows token f.rows.now f.text.now

-- What `ends` tells is true of the rows from the index `lead` on: which kinds they lack, and how wide their tokens are at most.
pub record Ahead (ends : Ends) (lead : ℕ) (rows : List ℕ) : Type 0 where
  pub commas : ends.commas ≤ lead → lacks Comma (rows_of (drop lead rows)) ≡ true
  pub braces : ends.braces ≤ lead → lacks RightBrace (rows_of (drop lead rows)) ≡ true
  pub width : 0 < ends.width → width_rows (rows_of (drop lead rows)) ≤ ends.width

-- The same of what the formatter was told, from the token on.
abbrev pub HasEnds : TokenAt → Formatter → Type 0
HasEnds token f = (token.lead ≤ length f.rows.now) × Ahead f.ends token.lead f.rows.now

-- The bytes of a token's lexeme.
abbrev pub lexeme_of : TokenAt → Formatter → List ℕ
lexeme_of token f = bytes_of f.text.now (row_at f.rows.now token.own)

-- The definition's token without trivia that has this kind and lexeme.
abbrev pub bare_token : ℕ → List ℕ → Token
bare_token kind lexeme = record { kind = kind; lexeme = lexeme; leading = []; trailing = [] }

-- The code's token stands for the definition's token t, and the tokens ts come after it.
pub record StandsFor (token : TokenAt) (rows text : List ℕ) (t : Token) (ts : List Token) : Type 0 where
  pub kind : t.kind ≡ token.kind
  pub lexeme : t.lexeme ≡ bytes_of text (row_at rows token.own)
  pub ahead : tokens_of (drop token.lead rows) text ≡ t ∷ ts
  pub after : tokens_of (drop (token.own + row_size) rows) text ≡ ts
  pub bounds : InBounds text (rows_of (drop token.lead rows))

-- P holds of the definition's token that the code's token stands for, and of the tokens after it.
abbrev pub AtTokenOf : TokenAt → List ℕ → List ℕ → (Token → List Token → Type 0) → Type 0
AtTokenOf token rows text P = (t : Token) (ts : List Token) → StandsFor token rows text t ts → P t ts

-- The same of the formatter's rows and text.
abbrev pub AtToken : TokenAt → Formatter → (Token → List Token → Type 0) → Type 0
AtToken token f P = AtTokenOf token f.rows.now f.text.now P
