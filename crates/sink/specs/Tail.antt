-- What stands after a lexeme.
-- Assumes nothing.
use Rattle.std.specs.Prelude.{List, [], ℕ}
use Rattle.shared.specs.Bytes.{bytes, line_feed}
use Rattle.sink.specs.declared.write.Tail.{Tail}
use Rattle.sink.specs.declared.write.Tail.TheVariants.{Nothing, Feed, Braces}

abbrev pub tail_bytes : Tail → List ℕ
tail_bytes Nothing = []
tail_bytes Feed = line_feed
tail_bytes Braces = bytes "{}"
