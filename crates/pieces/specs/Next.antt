-- What stands from an index on: the answer of `next_piece`.
-- Assumes nothing.
use Rattle.std.specs.Prelude.{Option, None, Some, Result, Ok, Err}
use Rattle.pieces.specs.declared.Piece.{Piece}
use Rattle.pieces.specs.declared.Unreadable.{Unreadable}
use Rattle.pieces.specs.Reading.{Reading, done, refused, piece}

-- What a reading begins with: a piece with its start and its end, the text's end, or refusal 9 at its index.
abbrev pub next : Reading → Result (Option Piece) Unreadable
next done = Ok None
next (refused i) = Err (record { index = i })
next (piece s e r) = Ok (Some (record { start = s; end = e }))
