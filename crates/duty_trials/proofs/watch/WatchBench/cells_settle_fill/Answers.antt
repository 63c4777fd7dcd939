-- `Watch::cells_settle_fill`: that the watch meets the clauses of its type, and its clause `does` on a fault.
use Rattle.std.proofs.Common.{rules, arith}
use Rattle.bench_model.specs.State.{cells_half}
use Rattle.duty_trials.proofs.WatchLemmas.{seen_later, seen_none}
use Rattle.duty_trials.proofs.watch.WatchBench.cells_settle_fill.Goals as goal

pub invariant_of-self : goal.invariant_of-self
invariant_of-self g c = record {
  tracks = search rules;
  seen = λ told.
      seen_later c.args.self.now.outside (cells_half (g.B.Bench.state c.args.self.now.inner)) (cells_half (g.B.Bench.state c.cells_settle_fill.new.self))
      c.cells_settle_fill.ensures.does.moments.goes_on (c.args.self.now.seen told);
}

pub invariant_of-self-2 : goal.invariant_of-self-2
invariant_of-self-2 g c = record {
  tracks = search rules;
  seen = λ told.
      seen_later c.args.self.now.outside (cells_half (g.B.Bench.state c.args.self.now.inner)) (cells_half (g.B.Bench.state c.cells_settle_fill.new.self))
      c.cells_settle_fill.ensures.does.moments.goes_on (c.args.self.now.seen told);
}

pub returns-in_err-cells_settle_fill-clause-does : goal.returns-in_err-cells_settle_fill-clause-does
returns-in_err-cells_settle_fill-clause-does g c = grind (arith, seen_later, seen_none)
