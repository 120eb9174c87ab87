-- The loop over checked rows: which rows are a token's, and what a layout comes to.
-- Assumes nothing.
use Rattle.std.specs.Prelude.{Bool, true, false, cond, ◌&&◌, List, [], ◌∷◌, ◌++◌, ◌≡◌, ℕ, zero, suc, ◌+◌, ◌*◌, ◌/◌, ◌%◌, ◌≤◌, ◌<◌, eqb, length, drop, Result, Ok, Err}
use Rattle.shared.specs.Numbers.{most32}
use Rattle.std.proofs.Math.Option.{none}
use Rattle.shared.specs.Report.{deep}
use Rattle.rows.specs.Kinds.{Leading, TokenRow, Trailing}
use Rattle.rows.specs.Options
use Rattle.rows.specs.Row.{Row, row_size, row_at, rows_of}
use Rattle.rows.specs.Checks.{Before, bad_from, GoodRows, most_row_bytes}
use Rattle.rows.specs.Token.{tokens_of}
use Rattle.definition.specs.Formatter.{new}
use Rattle.definition.specs.Act.{State, run}
use Rattle.definition.specs.PushToken.{turn}
use Rattle.definition.specs.Layout.{Ended, finished, stopped, checked, lay}
use Rattle.sink.specs.declared.write.Sink.{Sink}
use Rattle.formatter.specs.declared.Formatter.{Formatter}
use Rattle.formatter.specs.declared.Ends.{Ends}
use Rattle.formatter.specs.declared.TokenAt.{TokenAt}
use Rattle.formatter.specs.declared.token.Place.{Place}
use Rattle.formatter.specs.declared.Finished.{Finished}
use Rattle.formatter.specs.declared.WalkError.{WalkError}
use Rattle.formatter.specs.declared.WalkError.TheVariants.{Deep, Full}
use Rattle.formatter.specs.CodeState.{Locals, CodeState, formatter_of, locals_of, options_of, state_of}
use Rattle.formatter.specs.Does.{Same, Does}
use Rattle.formatter.specs.Token.{Ready, Ahead, AtToken}

-- ---- rows

-- Rows that refusals 2 and 3 let pass.
pub record CheckedRows (rows text : List ℕ) : Type 0 where
  pub whole : length rows % row_size ≡ 0
  pub few : length rows ≤ most_row_bytes
  pub good : GoodRows rows (length text)

-- The rest of checked rows, whatever stood before it.
pub record CheckedFrom (size : ℕ) (rs : List Row) : Type 0 where
  pub before : Before
  pub number : ℕ
  pub good : bad_from size before number rs ≡ none

-- No row is a trivia row.
unfoldable pub only_tokens : List Row → Bool
only_tokens [] = true
only_tokens (r ∷ rs) = eqb r.what TokenRow && only_tokens rs

-- Where `bare` is true, no row is a trivia row.
abbrev pub NoTriviaIf : Bool → List ℕ → Type 0
NoTriviaIf bare rows = bare ≡ true → only_tokens (rows_of rows) ≡ true

-- From the index on, a whole number of rows is left.
abbrev pub RowsLeft : List ℕ → ℕ → Type 0
RowsLeft rows at = (at ≤ length rows) × (length rows % row_size ≡ at % row_size)

-- How many rows of this what come first.
unfoldable pub run_rows : ℕ → List Row → ℕ
run_rows what [] = zero
run_rows what (r ∷ rs) = cond (eqb r.what what) (suc (run_rows what rs)) zero

-- At the index a token's rows begin, or all rows end.
pub record TokenBoundary (rows text : List ℕ) (at : ℕ) : Type 0 where
  pub within : at ≤ length rows
  pub whole : at ≡ row_size * (at / row_size)
  pub checked : CheckedFrom (length text) (rows_of (drop at rows))
  pub bare : run_rows Trailing (rows_of (drop at rows)) ≡ 0

-- Of a token whose leading rows start at the index `lead`: where its own row is.
abbrev pub own_row : List ℕ → ℕ → ℕ
own_row rows lead = lead + row_size * run_rows Leading (rows_of (drop lead rows))

-- Of a token whose own row is at the index `own`: where its trailing rows end.
abbrev pub next_row : List ℕ → ℕ → ℕ
next_row rows own = own + row_size + row_size * run_rows Trailing (rows_of (drop (own + row_size) rows))

-- There is a token whose leading rows start at the index `lead`; where `bare` says so, it has no trivia.
pub record NextToken (rows : List ℕ) (lead : ℕ) (bare : Bool) : Type 0 where
  pub inside : own_row rows lead + row_size ≤ length rows
  pub leads : bare ≡ true → run_rows Leading (rows_of (drop lead rows)) ≡ 0
  pub trails : bare ≡ true → run_rows Trailing (rows_of (drop (lead + row_size) rows)) ≡ 0

-- The code's token is the one whose leading rows start at the index `first`, and it has this number among the tokens.
pub record TokenRows (rows : List ℕ) (first number : ℕ) (token : TokenAt) : Type 0 where
  pub kind : token.kind ≡ (row_at rows token.own).kind
  pub index : token.index ≡ number
  pub lead : token.lead ≡ first
  pub own : token.own ≡ own_row rows first
  pub next : token.next ≡ next_row rows token.own

-- Where the token after this one starts, and its index; or the one after that, where this token took the next one along.
pub record NextPlace (rows : List ℕ) (token : TokenAt) (taken : Bool) (place : Place) : Type 0 where
  pub at : place.at ≡ cond taken (next_row rows (own_row rows token.next)) token.next
  pub index : place.index ≡ token.index + cond taken 2 1

-- What `ends` tells is true at each row.
pub record Ending (rows : List ℕ) (ends : Ends) : Type 0 where
  pub ahead : (j : ℕ) → Ahead ends (row_size * j) rows

-- ---- a token

-- What `push_token` asks: the rows are checked, the token is the one whose rows begin at its index `lead`, what all rows tell is
-- true, and an arm may begin.
pub record HasToken (token : TokenAt) (f : Formatter) (s : Sink) : Type 0 where
  pub checked : CheckedRows f.rows.now f.text.now
  pub boundary : TokenBoundary f.rows.now f.text.now token.lead
  pub inside : token.lead < length f.rows.now
  pub its_rows : TokenRows f.rows.now token.lead token.index token
  pub index : token.index < most32
  pub ends : Ending f.rows.now f.ends
  pub ready : Ready f s

-- A refusal of the walk, as the code tells it.
abbrev pub error_of : ℕ → ℕ → WalkError
error_of n i = cond (eqb n deep) (Deep i) (Full i)

-- How the code tells that a token is laid out, or that the walk stops at it.
abbrev pub pushed_of : Ended → Result (Unit {0}) WalkError
pushed_of (finished s) = Ok tt
pushed_of (stopped n i) = Err (error_of n i)

-- From p, laying out a token answers r and comes to q, as the turn of the definition's walk does.
pub record TokenPushed (token : TokenAt) (p : CodeState) (r : Result (Unit {0}) WalkError) (q : CodeState) : Type 0 where
  pub same : Same p q
  pub size : length q.sink.out.now ≡ length p.sink.out.now
  pub answer :
      AtToken token p.form (λ t ts. (x : Locals) → x.too_deep ≡ none → x.skip_next ≡ false
      → r ≡ pushed_of (checked (length p.sink.out.now) token.index (run (turn (options_of p.form.options) token.index t ts) (state_of x p))))
  pub does :
      r ≡ Ok tt → AtToken token p.form (λ t ts. (x : Locals) → x.too_deep ≡ none → x.skip_next ≡ false
      → Does (turn (options_of p.form.options) token.index t ts) x p q)

-- ---- the layout

-- A state as `Formatter::new` makes it, and a sink without text.
pub record Fresh (f : Formatter) (s : Sink) : Type 0 where
  pub new : formatter_of f (locals_of new) ≡ new
  pub empty : s.len ≡ 0
  pub none : f.commas ≡ 0

-- How the definition's walk over all tokens ends.
abbrev pub walk_of : List ℕ → List ℕ → Options.Options → List ℕ → Ended
walk_of rows text o out = lay o (length out) (tokens_of rows text)

-- The same as the code tells it.
abbrev pub formatted_of : Ended → Result Finished WalkError
formatted_of (finished s) = Ok (record { length = length s.out; commas = s.commas })
formatted_of (stopped n i) = Err (error_of n i)

-- r is the answer of a layout into the output l, and m is the output after it: the walk's text, and l after the text.
pub record LaidOut (rows text : List ℕ) (o : Options.Options) (l : List ℕ) (r : Result Finished WalkError)
    (m : List ℕ) : Type 0 where
  pub answer : r ≡ formatted_of (walk_of rows text o l)
  pub size : length m ≡ length l
  pub output : (s : State) → walk_of rows text o l ≡ finished s → m ≡ s.out ++ drop (length s.out) l
