-- `Draws::put`: what holds at each turn of its loop.
use Rattle.std.proofs.Common.{◌≡◌, ◌++◌}
use Rattle.demo_job.specs.Generator.{draws, after}
use Rattle.demo_job.proofs.draws.Draws.put.Given as goal

abbrev pub invariant-loop-draw : goal.invariant-loop-draw
invariant-loop-draw l = record {
  bytes : l.out.items ≡ l.initial.out.items ++ draws l._draw l.initial.self.state;
  state : l.self.state ≡ after l._draw l.initial.self.state;
}
