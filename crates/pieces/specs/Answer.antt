-- What reading a text into a lent slice answers, and the slice after it (specification, 'Reading back').
-- Assumes nothing.
use Rattle.std.specs.Prelude.{Bool, cond, ◌&&◌, List, [], ◌∷◌, ℕ, zero, suc, ◌+◌, ◌*◌, leb, length, Result, Ok, Err}
use Rattle.std.proofs.Math.Seq.{slice}
use Rattle.shared.specs.Numbers.{most32}
use Rattle.shared.specs.Report.{Report, success, refuse, accepted, zeroed, put_first, unreadable, pieces_full}
use Rattle.shared.specs.declared.refusal.Refused.{Refused}
use Rattle.shared.specs.declared.refusal.Refusal.TheVariants as refusal
use Rattle.pieces.specs.declared.ReadError.{ReadError}
use Rattle.pieces.specs.declared.ReadError.TheVariants.{Unreadable, PiecesFull}
use Rattle.pieces.specs.Reading.{Reading, done, refused, piece, reading}

-- The refusal that each error is, and its place.
abbrev pub refusal_of : ReadError → Refused
refusal_of (Unreadable i) = record { refusal = refusal.Unreadable; place = i }
refusal_of (PiecesFull s) = record { refusal = refusal.PiecesFull; place = s }

-- The number and values of the report for each answer of `read_pieces`.
abbrev pub reported : Result ℕ ReadError → Report
reported (Ok n) = success n 0 0
reported (Err (Unreadable i)) = refuse unreadable i
reported (Err (PiecesFull s)) = refuse pieces_full s

-- One more piece than n has room in a slice of that many numbers, and its end e is a 32-bit number.
abbrev pub fits : ℕ → ℕ → ℕ → Bool
fits size n e = leb (2 * n + 2) size && leb e most32

-- The answer for what is left to read, where n pieces stand already.
unfoldable pub answer_from : ℕ → ℕ → Reading → Report
answer_from size n done = success n 0 0
answer_from size n (refused i) = refuse unreadable i
answer_from size n (piece s e r) = cond (fits size n e) (answer_from size (suc n) r) (refuse pieces_full s)

-- Each piece's start and end, in order.
unfoldable pub numbers : Reading → List ℕ
numbers done = []
numbers (refused i) = []
numbers (piece s e r) = s ∷ e ∷ numbers r

-- The answer to a text, with a slice of so many numbers.
unfoldable pub read_answer : List ℕ → ℕ → Report
read_answer text size = answer_from size 0 (reading text)

-- The slice after it: the pieces and what lay past them, or, after a refusal, 0 in every place.
unfoldable pub read_slots : List ℕ → List ℕ → List ℕ
read_slots text xs =
    cond (accepted (read_answer text (length xs))) (put_first (numbers (reading text)) xs) (zeroed xs)

-- The bytes that n pieces of the slice stand for: the text's from each start to its end.
unfoldable pub cut : List ℕ → ℕ → List ℕ → List (List ℕ)
cut text zero xs = []
cut text (suc n) [] = []
cut text (suc n) (s ∷ []) = []
cut text (suc n) (s ∷ e ∷ xs) = slice s e text ∷ cut text n xs
