-- `bench`: that it keeps its contract.
use Rattle.std.proofs.Common.{ap}
use Rattle.bench_model.specs.Shown.{Memory}
use Rattle.session_vectors.proofs.session.apart.bench.Goals as goal

pub returns-clause-file : goal.returns-clause-file
returns-clause-file c = ap (λ (m : Memory). m.file) c.in_ok-bench.ensures.made

pub returns-clause-cells : goal.returns-clause-cells
returns-clause-cells c = ap (λ (m : Memory). m.cells) c.in_ok-bench.ensures.made

pub returns-clause-idle : goal.returns-clause-idle
returns-clause-idle c = ap (λ (m : Memory). m.operation) c.in_ok-bench.ensures.made

pub returns-clause-only : goal.returns-clause-only
returns-clause-only c = c.in_ok-bench.ensures.rest.file
