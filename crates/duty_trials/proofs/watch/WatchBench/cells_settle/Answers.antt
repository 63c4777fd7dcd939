-- `Watch::cells_settle`: that the watch meets the clauses of its type, and its clause `does` on a fault.
use Rattle.std.proofs.Common.{rules, arith}
use Rattle.bench_model.specs.State.{cells_half}
use Rattle.duty_trials.proofs.WatchLemmas.{seen_later, seen_none}
use Rattle.duty_trials.proofs.watch.WatchBench.cells_settle.Goals as goal

pub invariant_of-self : goal.invariant_of-self
invariant_of-self g c = record {
  tracks = search rules;
  seen = λ told.
      seen_later c.args.self.now.outside (cells_half (g.B.Bench.state c.args.self.now.inner)) (cells_half (g.B.Bench.state c.cells_settle.new.self))
      c.cells_settle.ensures.does.moments.goes_on (c.args.self.now.seen told);
}

pub invariant_of-self-2 : goal.invariant_of-self-2
invariant_of-self-2 g c = record {
  tracks = search rules;
  seen = λ told.
      seen_later c.args.self.now.outside (cells_half (g.B.Bench.state c.args.self.now.inner)) (cells_half (g.B.Bench.state c.cells_settle.new.self))
      c.cells_settle.ensures.does.moments.goes_on (c.args.self.now.seen told);
}

pub returns-in_err-cells_settle-clause-does : goal.returns-in_err-cells_settle-clause-does
returns-in_err-cells_settle-clause-does g c = grind (arith, seen_later, seen_none)
