-- From one token to the next each counter of the formatter grows by at most 20, and the stack of broken lists keeps within 64 entries.
-- Assumes nothing.
use Rattle.std.proofs.Common.{◌≡◌, ℕ, ◌+◌, ◌-◌, ◌<◌, ◌≤◌, Bool, true, false, cond, not, ◌&&◌, ◌||◌, eqb, leb, List, [], ◌∷◌, length, drop, arith, leb-false}
use mathlib.Core.Option.{Option, none, some, map}
use Rattle.shared.proofs.Logic.{impossible, or_right, split, either}
use Rattle.rows.specs.Kinds.{LeftParen, LeftBracket}
use Rattle.rows.specs.Options.{Options}
use Rattle.rows.specs.Token.{Trivia, line_comment, doc_comment, block_comment, blank_line, Token}
use Rattle.definition.specs.Formatter.{Formatter}
use Rattle.definition.specs.Act.{State, Act, run, update, gap, lexeme, insert, comment, ◌⨾◌, choose, nothing, if}
use Rattle.definition.specs.Emit.{track_fn_state, leading_trivia, trailing_trivia, open_block_multiline, push_lexeme}
use Rattle.definition.specs.Arms.{group_opened, newline_arm, right_brace_arm, empty_record, open_block, left_brace_arm, open_list, breaks_list, at_signature, left_paren_arm, left_bracket_arm, right_paren_arm, right_bracket_arm, comma_arm, else_arm, other_arm}
use Rattle.definition.specs.PushToken.{arm, overflows, push_token, turn}
use Rattle.definition.proofs.After.{After, chosen, in_turn, implied}

-- The paren depth in a broken signature; outside one, 0.
abbrev pub depth : Option ℕ → ℕ
depth none = 0
depth (some d) = d

-- Each counter grows by at most k, and the stack keeps within 64 entries.
pub record Grown (k : ℕ) (s s' : State) : Type 0 where
  pub indent : s'.formatter.indent ≤ s.formatter.indent + k
  pub group : s'.formatter.group_depth ≤ s.formatter.group_depth + k
  pub inline : s'.formatter.inline_depth ≤ s.formatter.inline_depth + k
  pub records : s'.formatter.record_depth ≤ s.formatter.record_depth + k
  pub signature : depth s'.formatter.sig_break_depth ≤ depth s.formatter.sig_break_depth + k
  pub commas : s'.commas ≤ s.commas + k
  pub stack : length s.formatter.break_stack ≤ 64 → length s'.formatter.break_stack ≤ 64

-- ---- acts that let the stack grow by at most n entries, and each counter by at most k

-- an update of the formatter
record Rises (n k : ℕ) (f f' : Formatter) : Type 0 where
  indent : f'.indent ≤ f.indent + k
  group : f'.group_depth ≤ f.group_depth + k
  inline : f'.inline_depth ≤ f.inline_depth + k
  records : f'.record_depth ≤ f.record_depth + k
  signature : depth f'.sig_break_depth ≤ depth f.sig_break_depth + k
  entries : length f'.break_stack ≤ length f.break_stack + n

record Grows (n k : ℕ) (s s' : State) : Type 0 where
  fields : Rises n k s.formatter s'.formatter
  commas : s'.commas ≤ s.commas + k

record Slow (n k : ℕ) (a : Act) : Type 0 where
  grows : (s : State) → Grows n k s (run a s)

updated : {n k : ℕ} {g : Formatter → Formatter} → ((f : Formatter) → Rises n k f (g f)) → Slow n k (update g)
unfolding run
updated r = record { grows = λ s. record { fields = r s.formatter; commas = omega arith } }

keeps : {g : Formatter → Formatter} → ((f : Formatter) → Rises 0 0 f (g f)) → Slow 0 0 (update g)
keeps r = updated r

raises : {g : Formatter → Formatter} → ((f : Formatter) → Rises 0 1 f (g f)) → Slow 0 1 (update g)
raises r = updated r

idle : Slow 0 0 nothing
idle = keeps (λ f. search arith)

gapped : {g : Formatter → List ℕ} → Slow 0 0 (gap g)
unfolding run
gapped = record { grows = λ s. search arith }

written : {w : List ℕ} → Slow 0 0 (lexeme w)
unfolding run
written = record { grows = λ s. search arith }

commented : {g : Formatter → List ℕ} → Slow 0 0 (comment g)
unfolding run
commented = record { grows = λ s. search arith }

inserted : {g : Formatter → List ℕ} {w : List ℕ} → Slow 0 1 (insert g w)
unfolding run
inserted = record { grows = λ s. search arith }

infixr 40 ◌then◌
◌then◌ : {m n j k : ℕ} {a b : Act} → Slow m j a → Slow n k b → Slow (m + n) (j + k) (a ⨾ b)
unfolding run
◌then◌ {a = a} p q = record { grows = λ s. let x = p.grows s in let y = q.grows (run a s) in search arith }

pick : {m n j k : ℕ} {t : State → Bool} {a b : Act} → Slow m j a → Slow n k b → Slow (m + n) (j + k) (choose t a b)
unfolding run
pick {m} {n} {j} {k} {t} p q =
    record { grows = λ s. either (Grows (m + n) (j + k) s) (t s) (λ e. let x = p.grows s in search arith) (λ e. let x = q.grows s in search arith) }

-- an opener: it pushes at most one entry, and none where the test fails
record Opens (test : State → Bool) (k : ℕ) (a : Act) : Type 0 where
  slow : Slow 1 k a
  kept : (s : State) → test s ≡ false → length (run a s).formatter.break_stack ≤ length s.formatter.break_stack

opens : {j k : ℕ} {t : State → Bool} {a b : Act} → Slow 1 j a → Slow 0 k b → Opens t (j + k) (choose t a b)
unfolding run
opens p q = record { slow = pick p q; kept = λ s e. rw e (let x = (q.grows s).fields in omega arith) }

otherwise : {j k : ℕ} {t u : State → Bool} {a b : Act} → Slow 0 j a → Opens u k b → Opens (λ s. not (t s) && u s) (j + k) (choose t a b)
unfolding run
otherwise {t = t} {u} {a} {b} p q = record {
  slow = pick p q.slow;
  kept = λ s e. split (t s) (λ x. rw x (let y = (p.grows s).fields in omega arith)) (λ x. rw x (q.kept s (rw x at e)));
}

-- ---- trivia, token text and blocks

leading : (o : Options) (ts : List Trivia) → Slow 0 0 (leading_trivia o ts)
unfolding leading_trivia
leading o [] = idle
leading o (line_comment c ∷ ts) = commented then leading o ts
leading o (doc_comment c ∷ ts) = commented then leading o ts
leading o (block_comment c ∷ ts) = commented then leading o ts
leading o (blank_line ∷ ts) = (commented then keeps (λ f. search arith)) then leading o ts

trailing : (ts : List Trivia) → Slow 0 0 (trailing_trivia ts)
unfolding trailing_trivia
trailing [] = idle
trailing (line_comment c ∷ ts) = commented then trailing ts
trailing (doc_comment c ∷ ts) = commented then trailing ts
trailing (block_comment c ∷ ts) = commented then trailing ts
trailing (blank_line ∷ ts) = idle then trailing ts

push_lexeme_lem : (o : Options) (t : Token) → Slow 0 0 (push_lexeme o t)
push_lexeme_lem o t = gapped then written then keeps (λ f. search arith)

open_block_multiline_lem : (o : Options) (i : ℕ) → Slow 0 2 (open_block_multiline o i)
unfolding open_block_multiline
open_block_multiline_lem o i =
    pick (gapped then written then gapped then raises (λ f. search arith)) (gapped then written then raises (λ f. search arith))

open_block_lem : (o : Options) (i : ℕ) → Slow 0 2 (open_block o i)
open_block_lem o i = open_block_multiline_lem o i then keeps (λ f. search arith)

-- ---- the arms

newline_arm_lem : (i : ℕ) (ts : List Token) → Slow 0 0 (newline_arm i ts)
unfolding newline_arm
newline_arm_lem i ts =
    pick (keeps (λ f. search arith))
    (pick idle
    (pick idle
    (pick (gapped then keeps (λ f. search arith))
    (pick (gapped then keeps (λ f. search arith)) idle))))

less : (b : Bool) (n k : ℕ) → cond b (n - 1) n ≤ n + k
less true n k = omega arith
less false n k = omega arith

right_brace-arm : (o : Options) → Slow 0 1 (right_brace_arm o)
unfolding right_brace_arm
right_brace-arm o =
    pick (keeps (λ f. search arith) then gapped then written then keeps (λ f. search arith))
    (pick (keeps (λ f. search arith) then pick (gapped then written) inserted then keeps (λ f. search arith))
    (keeps (λ f. search (arith, less)) then gapped then written then keeps (λ f. search arith)))

empty_record_lem : (o : Options) (t : Token) → Slow 0 0 (empty_record o t)
unfolding empty_record
empty_record_lem o t = push_lexeme_lem o t then written then keeps (λ f. search arith)

left_brace-arm : (o : Options) (i : ℕ) (t : Token) (ts : List Token) → Slow 0 10 (left_brace_arm o i t ts)
unfolding left_brace_arm
left_brace-arm o i t ts =
    pick (pick (empty_record_lem o t) (raises (λ f. search arith) then open_block_lem o i))
    (pick (raises (λ f. search arith) then open_block_lem o i)
    (pick (pick gapped (gapped then written) then raises (λ f. search arith))
    (pick (gapped then written then raises (λ f. search arith)) (open_block_lem o i))))

-- the one act that pushes an entry
open_list_lem : (o : Options) (i : ℕ) (t : Token) → Slow 1 1 (open_list o i t)
open_list_lem o i t = (gapped then written then keeps (λ f. search arith)) then gapped then updated {n = 1} {k = 1} (λ f. search arith)

-- a round or square bracket that breaks nothing
open_group_lem : (o : Options) (t : Token) → Slow 0 1 (push_lexeme o t ⨾ update group_opened)
open_group_lem o t = push_lexeme_lem o t then raises (λ f. search arith)

deeper_by_one : (d : Option ℕ) → depth (map (λ e. e + 1) d) ≤ depth d + 1
deeper_by_one none = omega arith
deeper_by_one (some d) = omega arith

left_paren-arm : (o : Options) (i : ℕ) (t : Token) (ts : List Token) → Opens (λ s. not (at_signature s.formatter) && breaks_list o t ts s.formatter) 6 (left_paren_arm o i t ts)
unfolding left_paren_arm
left_paren-arm o i t ts =
    otherwise
    (keeps (λ f. search arith)
    then pick (written then raises (λ f. search arith) then gapped then raises (λ f. search arith)) (open_group_lem o t))
    (opens (open_list_lem o i t) (raises (λ f. search (arith, deeper_by_one)) then open_group_lem o t))

left_bracket_arm_lem : (o : Options) (i : ℕ) (t : Token) (ts : List Token) → Opens (λ s. breaks_list o t ts s.formatter) 2 (left_bracket_arm o i t ts)
unfolding left_bracket_arm
left_bracket_arm_lem o i t ts = opens (open_list_lem o i t) (open_group_lem o t)

less_deep : (d : Option ℕ) (k : ℕ) → depth (map (λ e. e - 1) d) ≤ depth d + k
less_deep none k = omega arith
less_deep (some d) k = omega arith

less_long : (xs : List ℕ) (k : ℕ) → length (drop 1 xs) ≤ length xs + k
less_long [] k = omega arith
less_long (x ∷ xs) k = omega arith

right_paren-arm : (o : Options) (t : Token) → Slow 0 0 (right_paren_arm o t)
unfolding right_paren_arm
right_paren-arm o t =
    keeps (λ f. search (arith, less_deep))
    then pick (keeps (λ f. search arith) then gapped then written then keeps (λ f. search arith))
    (pick (keeps (λ f. search (arith, less_long)) then gapped then written then keeps (λ f. search arith))
    (push_lexeme_lem o t then keeps (λ f. search arith)))

right_bracket-arm : (o : Options) (t : Token) → Slow 0 1 (right_bracket_arm o t)
unfolding right_bracket_arm
right_bracket-arm o t =
    pick (keeps (λ f. search (arith, less_long)) then pick (gapped then written) inserted then keeps (λ f. search arith))
    (push_lexeme_lem o t then keeps (λ f. search arith))

comma-arm : (o : Options) (i : ℕ) (t : Token) → Slow 0 0 (comma_arm o i t)
unfolding comma_arm
comma-arm o i t = pick (written then gapped then keeps (λ f. search arith)) (push_lexeme_lem o t)

else_arm_lem : (o : Options) (t : Token) → Slow 0 0 (else_arm o t)
unfolding else_arm
else_arm_lem o t = pick (gapped then written then keeps (λ f. search arith)) (push_lexeme_lem o t)

other_arm_lem : (o : Options) (t : Token) → Slow 0 0 (other_arm o t)
other_arm_lem o t = keeps (λ f. search arith) then push_lexeme_lem o t

-- ---- a token

module _ (o : Options) (i : ℕ) (t : Token) (ts : List Token) where
  arms : Slow 2 20 (arm o i t ts)
  arms =
      pick idle
      (pick (newline_arm_lem i ts)
      (pick (right_brace-arm o)
      (pick (left_brace-arm o i t ts)
      (pick (left_paren-arm o i t ts).slow
      (pick (left_bracket_arm_lem o i t ts).slow
      (pick (right_paren-arm o t)
      (pick (right_bracket-arm o t)
      (pick (comma-arm o i t)
      (pick (else_arm_lem o t) (other_arm_lem o t))))))))))

  -- behind the arm
  tracked : Slow 0 0 (if (λ f. f.returned) nothing (trailing_trivia t.trailing) ⨾ update (track_fn_state t.kind))
  tracked = pick idle (trailing t.trailing) then keeps (λ f. search arith)

  turns : Slow 2 20 (turn o i t ts)
  turns =
      pick idle
      (pick (keeps (λ f. search arith))
      (leading o t.leading then keeps (λ f. search arith) then pick (keeps (λ f. search arith)) (arms then tracked)))

-- ---- the stack

abbrev Fits : State → Type 0
Fits s = length s.formatter.break_stack ≤ 64

-- an act that pushes nothing
level : {k : ℕ} {a : Act} {s : State} → Slow 0 k a → Fits s → After Fits a s
level {s = s} p h = record { holds = let x = (p.grows s).fields in omega arith }

-- an opener, which pushes only where there is room
roomy : {k : ℕ} {test : State → Bool} {a : Act} {s : State} → Opens test k a → Fits s → (test s ≡ true → length s.formatter.break_stack < 64) → After Fits a s
roomy {test = test} {s = s} p h room = record {
  holds = split (test s) (λ e. let r = room e in let x = (p.slow.grows s).fields in omega arith) (λ e. let x = p.kept s e in omega arith);
}

-- what it means that a token does not overflow the stack: for `(`, and for `[`
room-left : (n : ℕ) (k b c : Bool) → leb 64 n && ((k && b) || c) ≡ false → k ≡ true → b ≡ true → n < 64
room-left n k b c e x y = split (leb 64 n) (λ z. impossible (rw (z, x, y) at e)) (λ z. leb-false 64 n z)

room_right : (n : ℕ) (c k b : Bool) → leb 64 n && (c || (k && b)) ≡ false → k ≡ true → b ≡ true → n < 64
room_right n c k b e x y = split (leb 64 n) (λ z. impossible (rw (x, y) at (or_right c (k && b) (rw z at e)))) (λ z. leb-false 64 n z)

module _ (o : Options) (i : ℕ) (t : Token) (ts : List Token) where
  arm-stack : (s : State) → Fits s → overflows o t ts s.formatter ≡ false → After Fits (arm o i t ts) s
  arm-stack s h calm =
      chosen (λ e. level idle h)
      (λ e. chosen (λ e. level (newline_arm_lem i ts) h)
      (λ e. chosen (λ e. level (right_brace-arm o) h)
      (λ e. chosen (λ e. level (left_brace-arm o i t ts) h)
      (λ e. chosen (λ e. roomy (left_paren-arm o i t ts) h (λ b. room-left (length s.formatter.break_stack) (eqb t.kind LeftParen) _ _ calm e b))
      (λ e. chosen (λ e. roomy (left_bracket_arm_lem o i t ts) h (λ b. room_right (length s.formatter.break_stack) (eqb t.kind LeftParen && (not (at_signature s.formatter) && breaks_list o t ts s.formatter)) (eqb t.kind LeftBracket) _ calm e b))
      (λ e. chosen (λ e. level (right_paren-arm o t) h)
      (λ e. chosen (λ e. level (right_bracket-arm o t) h)
      (λ e. chosen (λ e. level (comma-arm o i t) h)
      (λ e. chosen (λ e. level (else_arm_lem o t) h) (λ e. level (other_arm_lem o t) h))))))))))

  push_stack : (s : State) → Fits s → After Fits (push_token o i t ts) s
  push_stack s h =
      in_turn (implied
      (λ s h. in_turn (implied
      (λ s h. chosen (λ e. level (keeps (λ f. search arith)) h) (λ e. in_turn (implied (λ s h. level (tracked o i t ts) h) (arm-stack s h e))))
      (level (keeps (λ f. search arith)) h)))
      (level (leading o t.leading) h))

  turn-after : (s : State) → Fits s → After Fits (turn o i t ts) s
  turn-after s h = chosen (λ e. level idle h) (λ e. chosen (λ e. level (keeps (λ f. search arith)) h) (λ e. push_stack s h))

  -- A token keeps the stack within 64 entries.
  pub turn-stack : (s : State) → length s.formatter.break_stack ≤ 64 → length (run (turn o i t ts) s).formatter.break_stack ≤ 64
  turn-stack s h = (turn-after s h).holds

  -- From one token to the next each counter grows by at most 20.
  pub turn_grown : (s : State) → Grown 20 s (run (turn o i t ts) s)
  turn_grown s =
      let x = ((turns o i t ts).grows s).fields in
      record {
        indent = x.indent;
        group = x.group;
        inline = x.inline;
        records = x.records;
        signature = x.signature;
        commas = ((turns o i t ts).grows s).commas;
        stack = turn-stack s;
      }
