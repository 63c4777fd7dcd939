-- `bench_with`: its clauses `cells` and `idle`.
use Rattle.std.proofs.Common.{ap, ◌∙◌}
use Rattle.bench_model.specs.Shown.{Memory}
use Rattle.bench_model.specs.declared.memory.MemoryBench.{MemoryBench}
use Rattle.duty_trials.proofs.stand.bench_with.Goals as goal

pub returns-clause-cells : goal.returns-clause-cells
returns-clause-cells c = ap (λ (b : MemoryBench). b.cells.items) c.new-2.ensures ∙ ap (λ (m : Memory). m.cells) c.in_ok-bench.ensures.made

pub returns-clause-idle : goal.returns-clause-idle
returns-clause-idle c = ap (λ (b : MemoryBench). b.operation) c.new-2.ensures ∙ c.in_ok-bench.ensures.rest.idle
