-- Four laws of each setter of the formatter: it sets its field and no other, and what it sets can be put back. Assumes nothing.
use Rattle.std.proofs.Common.{◌≡◌, ℕ, Bool, List, [], ◌∷◌, set, refl}
use mathlib.Core.Option.{Option}
use Rattle.definition.specs.Formatter.{Formatter, set_indent, set_at_line_start, set_prev, set_prev_minus_is_unary, set_inline_depth, set_fn_state, set_sig_break_depth, set_record_pending, set_in_record, set_record_depth, set_just_closed_inline, set_suppress_newline_at, set_group_depth, set_break_stack, set_inline_close, set_returned, set_skip_next, set_too_deep}

-- a field's value, of whatever type
pub data Value : Type 0 where
  number : ℕ → Value
  flag : Bool → Value
  option : Option ℕ → Value
  list : List ℕ → Value

-- the fields in their order
abbrev pub fields : Formatter → List Value
fields f =
    number f.indent ∷ flag f.at_line_start ∷ option f.prev ∷ flag f.prev_minus_is_unary ∷ number f.inline_depth ∷
    number f.fn_state ∷ option f.sig_break_depth ∷ flag f.record_pending ∷ flag f.in_record ∷ number f.record_depth ∷
    flag f.just_closed_inline ∷ option f.suppress_newline_at ∷ number f.group_depth ∷ list f.break_stack ∷ flag f.inline_close ∷
    flag f.returned ∷ flag f.skip_next ∷ option f.too_deep ∷ []

-- of the field number i: of all fields that one changes; what was put is there; putting what is there changes nothing; what is put last stays
pub record Sets {A : Type 0} (value : A → Value) (i : ℕ) (get : Formatter → A) (put : A → Formatter → Formatter) : Type 0 where
  pub one : (v : A) (f : Formatter) → fields (put v f) ≡ set (fields f) i (value v)
  pub get-put : (v : A) (f : Formatter) → get (put v f) ≡ v
  pub put-get : (f : Formatter) → put (get f) f ≡ f
  pub put-put : (v w : A) (f : Formatter) → put w (put v f) ≡ put w f

pub sets_indent : Sets number 0 (λ f. f.indent) set_indent
sets_indent = record { one = λ v f. refl; get-put = λ v f. refl; put-get = λ f. refl; put-put = λ v w f. refl }

pub sets_at_line_start : Sets flag 1 (λ f. f.at_line_start) set_at_line_start
sets_at_line_start = record { one = λ v f. refl; get-put = λ v f. refl; put-get = λ f. refl; put-put = λ v w f. refl }

pub sets_prev : Sets option 2 (λ f. f.prev) set_prev
sets_prev = record { one = λ v f. refl; get-put = λ v f. refl; put-get = λ f. refl; put-put = λ v w f. refl }

pub sets_prev_minus_is_unary : Sets flag 3 (λ f. f.prev_minus_is_unary) set_prev_minus_is_unary
sets_prev_minus_is_unary = record { one = λ v f. refl; get-put = λ v f. refl; put-get = λ f. refl; put-put = λ v w f. refl }

pub sets_inline_depth : Sets number 4 (λ f. f.inline_depth) set_inline_depth
sets_inline_depth = record { one = λ v f. refl; get-put = λ v f. refl; put-get = λ f. refl; put-put = λ v w f. refl }

pub sets_fn_state : Sets number 5 (λ f. f.fn_state) set_fn_state
sets_fn_state = record { one = λ v f. refl; get-put = λ v f. refl; put-get = λ f. refl; put-put = λ v w f. refl }

pub sets_sig_break_depth : Sets option 6 (λ f. f.sig_break_depth) set_sig_break_depth
sets_sig_break_depth = record { one = λ v f. refl; get-put = λ v f. refl; put-get = λ f. refl; put-put = λ v w f. refl }

pub sets_record_pending : Sets flag 7 (λ f. f.record_pending) set_record_pending
sets_record_pending = record { one = λ v f. refl; get-put = λ v f. refl; put-get = λ f. refl; put-put = λ v w f. refl }

pub sets_in_record : Sets flag 8 (λ f. f.in_record) set_in_record
sets_in_record = record { one = λ v f. refl; get-put = λ v f. refl; put-get = λ f. refl; put-put = λ v w f. refl }

pub sets_record_depth : Sets number 9 (λ f. f.record_depth) set_record_depth
sets_record_depth = record { one = λ v f. refl; get-put = λ v f. refl; put-get = λ f. refl; put-put = λ v w f. refl }

pub sets_just_closed_inline : Sets flag 10 (λ f. f.just_closed_inline) set_just_closed_inline
sets_just_closed_inline = record { one = λ v f. refl; get-put = λ v f. refl; put-get = λ f. refl; put-put = λ v w f. refl }

pub sets_suppress_newline_at : Sets option 11 (λ f. f.suppress_newline_at) set_suppress_newline_at
sets_suppress_newline_at = record { one = λ v f. refl; get-put = λ v f. refl; put-get = λ f. refl; put-put = λ v w f. refl }

pub sets_group_depth : Sets number 12 (λ f. f.group_depth) set_group_depth
sets_group_depth = record { one = λ v f. refl; get-put = λ v f. refl; put-get = λ f. refl; put-put = λ v w f. refl }

pub sets_break_stack : Sets list 13 (λ f. f.break_stack) set_break_stack
sets_break_stack = record { one = λ v f. refl; get-put = λ v f. refl; put-get = λ f. refl; put-put = λ v w f. refl }

pub sets_inline_close : Sets flag 14 (λ f. f.inline_close) set_inline_close
sets_inline_close = record { one = λ v f. refl; get-put = λ v f. refl; put-get = λ f. refl; put-put = λ v w f. refl }

pub sets_returned : Sets flag 15 (λ f. f.returned) set_returned
sets_returned = record { one = λ v f. refl; get-put = λ v f. refl; put-get = λ f. refl; put-put = λ v w f. refl }

pub sets_skip_next : Sets flag 16 (λ f. f.skip_next) set_skip_next
sets_skip_next = record { one = λ v f. refl; get-put = λ v f. refl; put-get = λ f. refl; put-put = λ v w f. refl }

pub sets_too_deep : Sets option 17 (λ f. f.too_deep) set_too_deep
sets_too_deep = record { one = λ v f. refl; get-put = λ v f. refl; put-get = λ f. refl; put-put = λ v w f. refl }
