-- What a method is proved to do: an act of the definition, on a lent output that may fill up. The output is full exactly
-- where the text's length is past its end. Once it is full, nothing is promised but that it stays so: a test of the bytes
-- that are written need be right only while there is room.
-- Assumes nothing.
use Rattle.std.specs.Prelude.{◌≡◌, ◌≤◌, ◌<◌, length, drop}
use Rattle.definition.specs.Act.{State, Act, run}
use Rattle.sink.specs.declared.write.Sink.{Sink}
use Rattle.formatter.specs.declared.Formatter.{Formatter}
use Rattle.formatter.specs.CodeState.{Locals, CodeState, code_state, state_of, locals_of, given}

-- q stands for the definition's state s, and the output after its text is as it was in p.
pub record Arrives (s : State) (p q : CodeState) : Type 0 where
  pub state : state_of (locals_of s.formatter) q ≡ s
  pub within : q.sink.len ≤ length q.sink.out.now
  pub rest : drop q.sink.len q.sink.out.now ≡ drop q.sink.len p.sink.out.now

-- q has what p was given, and the same output is lent to its sink.
pub record Same (p q : CodeState) : Type 0 where
  pub given : given q.form ≡ given p.form
  pub lent : q.sink.out.ghost_name ≡ p.sink.out.ghost_name

-- The method does the act a: from p, with the locals x, it comes to q. If the act's text fits the output, q stands for the
-- act's state; if not, q is full; and if p was full, so is q.
pub record Does (a : Act) (x : Locals) (p q : CodeState) : Type 0 where
  pub same : Same p q
  pub size : length q.sink.out.now ≡ length p.sink.out.now
  pub fits :
      p.sink.len ≤ length p.sink.out.now → length (run a (state_of x p)).out ≤ length p.sink.out.now
      → Arrives (run a (state_of x p)) p q
  pub over :
      p.sink.len ≤ length p.sink.out.now → length p.sink.out.now < length (run a (state_of x p)).out
      → length q.sink.out.now < q.sink.len
  pub stays : length p.sink.out.now < p.sink.len → length q.sink.out.now < q.sink.len

-- The method does the act, whatever the locals are.
abbrev pub Done : Act → CodeState → CodeState → Type 0
Done a p q = (x : Locals) → Does a x p q

-- The same in one line: it takes the formatter f and the sink s to g and t.
abbrev pub Puts : Act → Formatter → Sink → Formatter → Sink → Type 0
Puts a f s g t = Done a (code_state f s) (code_state g t)
