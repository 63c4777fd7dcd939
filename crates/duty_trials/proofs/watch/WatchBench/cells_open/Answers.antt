-- `Watch::cells_open`: that the watch meets the clauses of its type.
use Rattle.std.proofs.Common.{ℕ, Option, sym, subst, arith}
use Rattle.bench_model.specs.State.{cells_half, SameOutside}
use Rattle.duty_trials.proofs.WatchLemmas.{seen_now, seen_later}
use Rattle.duty_trials.proofs.watch.WatchBench.cells_open.Goals as goal

pub invariant_of-self : goal.invariant_of-self
invariant_of-self g c = record {
  tracks = λ told. c.in-Ok.ensures.does.ok told;
  seen = λ told.
      seen_now (c.args.at, c.args.len) (cells_half (g.B.Bench.state c.cells_open.new.self)) (g.B.Bench.state c.cells_open.new.self).cells c.requires.some
      (let all = g.met.B.Bench.all_told c.cells_open.new.self told in omega (arith, c.requires.range, all, c.in-Ok.ensures.does.count))
      (λ x same. (g.met.B.Bench.as_told c.cells_open.new.self x told).1
      (subst (λ (o : Option (ℕ × ℕ)). SameOutside o (g.B.Bench.state c.cells_open.new.self).cells x) (sym (c.in-Ok.ensures.does.ok told)) same));
}

pub invariant_of-self-else-not-lies_in : goal.invariant_of-self-else-not-lies_in
invariant_of-self-else-not-lies_in g c = record {
  tracks = λ told. c.in-Ok.ensures.does.ok told;
  seen = λ told.
      seen_later c.args.self.now.outside (cells_half (g.B.Bench.state c.args.self.now.inner)) (cells_half (g.B.Bench.state c.cells_open.new.self))
      c.in-Ok.ensures.does.moments.goes_on (c.args.self.now.seen told);
}

pub invariant_of-self-in-Err : goal.invariant_of-self-in-Err
invariant_of-self-in-Err g c = record {
  tracks = λ told. c.in-Err.ensures.does.err told;
  seen = λ told.
      seen_later c.args.self.now.outside (cells_half (g.B.Bench.state c.args.self.now.inner)) (cells_half (g.B.Bench.state c.cells_open.new.self))
      c.in-Err.ensures.does.moments.goes_on (c.args.self.now.seen told);
}
