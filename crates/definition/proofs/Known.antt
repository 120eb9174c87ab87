-- Each act of the walk leaves two fields among their values, where they were: the last kind is one of the 35, and `fn_state` is 0,
-- 1 or 2. Unlike `Told` of proofs/Last.antt, this asks nothing of a line's start. Assumes nothing.
use Rattle.std.proofs.Common.{ℕ, ◌≤◌, ◌&&◌, ◌==◌, List, [], ◌∷◌, arith}
use Rattle.shared.proofs.Logic.{either}
use Rattle.rows.specs.Kinds.{Newline, Fn, Identifier}
use Rattle.rows.specs.Options.{Options}
use Rattle.rows.specs.Token.{Trivia, line_comment, doc_comment, block_comment, blank_line, Token}
use Rattle.definition.specs.Formatter.{Formatter}
use Rattle.definition.specs.Act.{Act, update}
use Rattle.definition.specs.Emit.{is_some, track_fn_state, leading_trivia, trailing_trivia, open_block_multiline, push_lexeme, emit_token_text}
use Rattle.definition.specs.Arms.{newline_arm, right_brace_arm, empty_record, open_block, left_brace_arm, open_list, open_group, left_paren_arm, left_bracket_arm, close_group, right_paren_arm, right_bracket_arm, comma_arm, else_arm, other_arm}
use Rattle.definition.specs.PushToken.{arm, turn}
use Rattle.definition.proofs.Preserves.{Preserves, updated, idle, gapped, worded, inserted, commented, ◌then◌, pick}
use Rattle.definition.proofs.Last.{kind_of}

abbrev pub Known : Formatter → Type 0
Known f = (kind_of f.prev ≤ 34) × (f.fn_state ≤ 2)

abbrev pub KeepsKnown : Act → Type 0
KeepsKnown a = Preserves Known a

-- ---- trivia

pub leading_known : (o : Options) (ts : List Trivia) → KeepsKnown (leading_trivia o ts)
unfolding leading_trivia
leading_known o [] = idle
leading_known o (line_comment c ∷ ts) = commented then leading_known o ts
leading_known o (doc_comment c ∷ ts) = commented then leading_known o ts
leading_known o (block_comment c ∷ ts) = commented then leading_known o ts
leading_known o (blank_line ∷ ts) = (commented then updated (λ f h. h)) then leading_known o ts

pub trailing_known : (ts : List Trivia) → KeepsKnown (trailing_trivia ts)
unfolding trailing_trivia
trailing_known [] = idle
trailing_known (line_comment c ∷ ts) = commented then trailing_known ts
trailing_known (doc_comment c ∷ ts) = commented then trailing_known ts
trailing_known (block_comment c ∷ ts) = commented then trailing_known ts
trailing_known (blank_line ∷ ts) = idle then trailing_known ts

-- ---- the fn state

pub track_fn_state_known : (k : ℕ) → KeepsKnown (update (track_fn_state k))
track_fn_state_known k =
    let few : ℕ → Type 0 = λ n. n ≤ 2 in
    updated (λ f h. (
      h.0,
      either few (is_some f.sig_break_depth) (λ e. h.1)
          (λ e. either few (k == Fn) (λ y. omega arith)
          (λ y. either few (k == Identifier && f.fn_state == 1) (λ z. omega arith) (λ z. either few (k == Newline) (λ x. h.1) (λ x. omega arith)))),
    ))

-- ---- the arms

pub newline_known : (i : ℕ) (ts : List Token) → KeepsKnown (newline_arm i ts)
unfolding newline_arm
newline_known i ts =
    pick (updated (λ f h. h))
    (pick idle
    (pick idle
    (pick (gapped then updated (λ f h. (omega arith, h.1))) (pick (gapped then updated (λ f h. (omega arith, h.1))) idle))))

pub right_brace_known : (o : Options) → KeepsKnown (right_brace_arm o)
unfolding right_brace_arm
right_brace_known o =
    pick (updated (λ f h. h) then gapped then worded then updated (λ f h. (omega arith, h.1)))
    (pick (updated (λ f h. h) then pick (gapped then worded) inserted then updated (λ f h. (omega arith, h.1)))
    (updated (λ f h. h) then gapped then worded then updated (λ f h. (omega arith, h.1))))

open_block_known : (o : Options) (i : ℕ) → KeepsKnown (open_block o i)
unfolding open_block_multiline
open_block_known o i =
    pick (gapped then worded then gapped then updated (λ f h. h)) (gapped then worded then updated (λ f h. h))
    then updated (λ f h. (omega arith, h.1))

module _ (o : Options) (t : Token) (few : t.kind ≤ 34) where
  pub emit_token_text_known : KeepsKnown (emit_token_text o t)
  emit_token_text_known = gapped then worded then updated (λ f h. (few, h.1))

  pub push_lexeme_known : KeepsKnown (push_lexeme o t)
  push_lexeme_known = gapped then worded then updated (λ f h. (few, h.1))

  close_group_known : KeepsKnown (close_group o t)
  close_group_known = push_lexeme_known then updated (λ f h. h)

  open_group_known : KeepsKnown (open_group o t)
  open_group_known = push_lexeme_known then updated (λ f h. h)

  module _ (i : ℕ) where
    open_list_known : KeepsKnown (open_list o i t)
    open_list_known = emit_token_text_known then gapped then updated (λ f h. h)

    module _ (ts : List Token) where
      pub left_brace_known : KeepsKnown (left_brace_arm o i t ts)
      unfolding left_brace_arm empty_record
      left_brace_known =
          pick (pick (push_lexeme_known then worded then updated (λ f h. (omega arith, h.1))) (updated (λ f h. h) then open_block_known o i))
          (pick (updated (λ f h. h) then open_block_known o i)
          (pick (pick gapped (gapped then worded) then updated (λ f h. (omega arith, h.1)))
          (pick (gapped then worded then updated (λ f h. (omega arith, h.1))) (open_block_known o i))))

      pub left_paren_known : KeepsKnown (left_paren_arm o i t ts)
      unfolding left_paren_arm
      left_paren_known =
          pick
          (updated (λ f h. (h.0, omega arith))
          then pick (worded then updated (λ f h. h) then gapped then updated (λ f h. (omega arith, h.1))) open_group_known)
          (pick open_list_known (updated (λ f h. h) then open_group_known))

      pub left_bracket_known : KeepsKnown (left_bracket_arm o i t ts)
      unfolding left_bracket_arm
      left_bracket_known = pick open_list_known open_group_known

    pub comma_known : KeepsKnown (comma_arm o i t)
    unfolding comma_arm
    comma_known = pick (worded then gapped then updated (λ f h. (omega arith, h.1))) push_lexeme_known

  pub right_paren_known : KeepsKnown (right_paren_arm o t)
  unfolding right_paren_arm
  right_paren_known =
      updated (λ f h. h)
      then pick (updated (λ f h. h) then gapped then worded then updated (λ f h. (omega arith, h.1)))
      (pick (updated (λ f h. h) then gapped then worded then updated (λ f h. (omega arith, h.1))) close_group_known)

  pub right_bracket_known : KeepsKnown (right_bracket_arm o t)
  unfolding right_bracket_arm
  right_bracket_known =
      pick (updated (λ f h. h) then pick (gapped then worded) inserted then updated (λ f h. (omega arith, h.1))) close_group_known

  pub else_known : KeepsKnown (else_arm o t)
  unfolding else_arm
  else_known = pick (gapped then worded then updated (λ f h. (omega arith, h.1))) push_lexeme_known

  pub other_known : KeepsKnown (other_arm o t)
  other_known = updated (λ f h. h) then push_lexeme_known

  -- ---- a token

  pub turn_known : (i : ℕ) (ts : List Token) → KeepsKnown (turn o i t ts)
  turn_known i ts =
      pick idle
      (pick (updated (λ f h. h))
      (leading_known o t.leading
      then updated (λ f h. h)
      then pick (updated (λ f h. h)) (arm_known then pick idle (trailing_known t.trailing) then track_fn_state_known t.kind)))
    where
      arm_known : KeepsKnown (arm o i t ts)
      arm_known =
          pick idle
          (pick (newline_known i ts)
          (pick (right_brace_known o)
          (pick (left_brace_known i ts)
          (pick (left_paren_known i ts)
          (pick (left_bracket_known i ts)
          (pick right_paren_known (pick right_bracket_known (pick (comma_known i) (pick else_known other_known)))))))))
