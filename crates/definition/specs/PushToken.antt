-- `push_token`, line 277 of format.rs: one token of the walk.
-- Assumes nothing.
use Rattle.std.specs.Prelude.{ℕ, Bool, false, not, ◌&&◌, ◌||◌, List, [], length, ◌==◌, nat_eq, nat_le}
use Rattle.std.proofs.Math.Option.{some}
use Rattle.rows.specs.Kinds.{Eof, Newline, LeftBrace, RightBrace, LeftParen, RightParen, LeftBracket, RightBracket, Comma, Else}
use Rattle.rows.specs.Options.{Options}
use Rattle.rows.specs.Token.{Token}
use Rattle.lookahead.specs.Measure.{is_empty}
use Rattle.definition.specs.Formatter.{Formatter, new, set_just_closed_inline, set_inline_close, set_returned, set_skip_next, set_too_deep}
use Rattle.definition.specs.Act.{State, state, Act, update, ◌⨾◌, nothing, if}
use Rattle.definition.specs.Emit.{is_some, track_fn_state, leading_trivia, trailing_trivia}
use Rattle.definition.specs.Arms.{newline_arm, right_brace_arm, left_brace_arm, breaks_list, at_signature, left_paren_arm, left_bracket_arm, right_paren_arm, right_bracket_arm, comma_arm, else_arm, other_arm}

-- the arm of the token's kind
abbrev pub arm : Options → ℕ → Token → List Token → Act
arm o i t ts =
    if (λ f. nat_eq t.kind Eof) nothing
    (if (λ f. nat_eq t.kind Newline) (newline_arm i ts)
    (if (λ f. nat_eq t.kind RightBrace) (right_brace_arm o)
    (if (λ f. nat_eq t.kind LeftBrace) (left_brace_arm o i t ts)
    (if (λ f. nat_eq t.kind LeftParen) (left_paren_arm o i t ts)
    (if (λ f. nat_eq t.kind LeftBracket) (left_bracket_arm o i t ts)
    (if (λ f. nat_eq t.kind RightParen) (right_paren_arm o t)
    (if (λ f. nat_eq t.kind RightBracket) (right_bracket_arm o t)
    (if (λ f. nat_eq t.kind Comma) (comma_arm o i t)
    (if (λ f. nat_eq t.kind Else) (else_arm o t)
    (other_arm o t))))))))))

-- before the arm: `let inline_close = !saw_trivia && std::mem::take(..)`; where trivia was seen the mark stays
abbrev pub take_inline_close : Bool → Formatter → Formatter
take_inline_close bare f =
    set_returned false
    (set_inline_close (bare && f.just_closed_inline) (set_just_closed_inline (not bare && f.just_closed_inline) f))

-- Refusal 4: the broken-group stack is full, and the token would open one more broken list.
abbrev pub overflows : Options → Token → List Token → Formatter → Bool
overflows o t ts f =
    nat_le 64 (length f.break_stack)
    && ((t.kind == LeftParen && (not (at_signature f) && breaks_list o t ts f))
    || (t.kind == LeftBracket && breaks_list o t ts f))

-- `push_token` at index i, where the tokens ts come after t. Refusal 4 is looked at after the leading trivia.
abbrev pub push_token : Options → ℕ → Token → List Token → Act
push_token o i t ts =
    leading_trivia o t.leading ⨾ update (take_inline_close (is_empty t.leading))
    ⨾ if (overflows o t ts) (update (set_too_deep (some i)))
    (arm o i t ts ⨾ if (λ f. f.returned) nothing (trailing_trivia t.trailing) ⨾ update (track_fn_state t.kind))

-- a token of the walk: nothing after a refusal, and nothing for one that was taken along
abbrev pub turn : Options → ℕ → Token → List Token → Act
turn o i t ts = if (λ f. is_some f.too_deep) nothing (if (λ f. f.skip_next) (update (set_skip_next false)) (push_token o i t ts))

-- where the walk begins: `Formatter::new`
abbrev pub begun : State
begun = state new [] 0
