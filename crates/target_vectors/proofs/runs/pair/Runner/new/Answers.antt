-- `Runner::new`: that its result meets the clauses of its type.
use Rattle.std.proofs.Common.{ap, length, arith}
use Rattle.bench_model.specs.Shown.{Memory}
use Rattle.target_core.proofs.UnitLemmas.{fresh_agrees}
use Rattle.target_vectors.proofs.runs.pair.Runner.new.Goals as goal

pub invariant_of-result : goal.invariant_of-result
invariant_of-result c = record {
  size = omega (arith, c.if-machine-ne-SIZE.false);
  agrees = fresh_agrees _ c.in_ok-machine.machine.unit _ _ c.in_ok-machine.ensures.state
      (omega (arith, ap (λ (m : Memory). length m.cells) c.in_ok-bench.ensures.made, c.if-cells-ne-CELLS.false, c.cells.ensures))
      c.in_ok-bench.ensures.rest.idle;
}
