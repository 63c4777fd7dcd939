-- `Watch::cells_drop`: that the watch meets the clauses of its type.
use Rattle.std.proofs.Common.{rules}
use Rattle.bench_model.specs.State.{cells_half}
use Rattle.duty_trials.proofs.WatchLemmas.{seen_later}
use Rattle.duty_trials.proofs.watch.WatchBench.cells_drop.Goals as goal

pub invariant_of-self : goal.invariant_of-self
invariant_of-self g c = record {
  tracks = search rules;
  seen = λ told.
      seen_later c.args.self.now.outside (cells_half (g.B.Bench.state c.args.self.now.inner)) (cells_half (g.B.Bench.state c.cells_drop.new.self))
      c.cells_drop.ensures.does.moments.goes_on (c.args.self.now.seen told);
}

pub invariant_of-self-2 : goal.invariant_of-self-2
invariant_of-self-2 g c = record {
  tracks = search rules;
  seen = λ told.
      seen_later c.args.self.now.outside (cells_half (g.B.Bench.state c.args.self.now.inner)) (cells_half (g.B.Bench.state c.cells_drop.new.self))
      c.cells_drop.ensures.does.moments.goes_on (c.args.self.now.seen told);
}
