-- Writing into a sink.
-- Assumes nothing.
use Rattle.std.specs.Prelude.{List, ◌≡◌, ℕ, ◌≤◌, ◌<◌, length}
use Rattle.sink.specs.declared.write.Sink.{Sink}
use Rattle.sink.specs.Sink.{Writes, past_gap}

-- writing xs takes the sink s to t, over the same output
pub record Appends (s : Sink) (xs : List ℕ) (t : Sink) : Type 0 where
  pub lent : t.out.ghost_name ≡ s.out.ghost_name
  pub writes : Writes s.out.now s.len xs t.out.now t.len

-- the text fits the output so far, and a gap is no large number: what a writer asks; it is no invariant, since a sink may be full
pub record Room (s : Sink) (gap : ℕ) : Type 0 where
  pub within : s.len ≤ length s.out.now
  pub small : gap < past_gap
