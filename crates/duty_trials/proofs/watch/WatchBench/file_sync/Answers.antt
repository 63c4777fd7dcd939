-- `Watch::file_sync`: that the watch meets the clauses of its type.
use Rattle.std.proofs.Common.{◌∙◌}
use Rattle.bench_model.specs.State.{cells_half}
use Rattle.duty_trials.proofs.WatchLemmas.{seen_later}
use Rattle.duty_trials.proofs.watch.WatchBench.file_sync.Goals as goal

pub invariant_of-self : goal.invariant_of-self
invariant_of-self g c = record {
  tracks = λ told. c.file_sync.ensures.does.cells.operation ∙ c.args.self.now.tracks told;
  seen = λ told.
      seen_later c.args.self.now.outside (cells_half (g.B.Bench.state c.args.self.now.inner)) (cells_half (g.B.Bench.state c.file_sync.new.self))
      c.file_sync.ensures.does.cells.half.goes_on (c.args.self.now.seen told);
}
