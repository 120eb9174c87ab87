-- The reader of pieces, step by step, and the number of a text's pieces.
-- Assumes nothing.
use Rattle.std.specs.Prelude.{List, ℕ, suc, Option, None, Some, Result, Ok, Err}
use Rattle.shared.specs.Report.{Report, success, refuse, unreadable}
use Rattle.pieces.specs.declared.Piece.{Piece}
use Rattle.pieces.specs.declared.Unreadable.{Unreadable}
use Rattle.pieces.specs.Reading.{Reading, done, refused, piece, reading, read_from}
use Rattle.pieces.specs.Next.{next}
use Rattle.piece_reader.specs.declared.PieceReader.{PieceReader}

-- What stands next in the reader's text.
abbrev pub found : PieceReader → Result (Option Piece) Unreadable
found r = next (read_from r.text.now r.at)

-- The end of the piece, where a piece is next, or the index itself.
abbrev pub end_of : ℕ → Result (Option Piece) Unreadable → ℕ
end_of at (Ok (Some p)) = p.end
end_of at (Ok None) = at
end_of at (Err u) = at

-- The reader after the piece that is next, or the same reader.
abbrev pub advanced : PieceReader → PieceReader
advanced r = record { text = r.text; at = end_of r.at (found r) }

-- The answer for what is left to read, where n pieces are counted already: their number, or refusal 9.
unfoldable pub count_from : ℕ → Reading → Report
count_from n done = success n 0 0
count_from n (refused i) = refuse unreadable i
count_from n (piece s e r) = count_from (suc n) r

-- The answer of `count_pieces` to a text.
unfoldable pub count_answer : List ℕ → Report
count_answer text = count_from 0 (reading text)
