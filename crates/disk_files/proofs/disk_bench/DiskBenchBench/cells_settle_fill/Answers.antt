-- `cells_settle_fill`: that it keeps its contract.
use Rattle.std.proofs.Common.{arith, ◌∙◌, refl}
use Rattle.std.proofs.lemmas.Grind.{common_steps}
use Rattle.std.proofs.lemmas.Bool.{false≢true}
use Rattle.bench_model.proofs.Moments.{adds_nothing_then, stays_then}
use Rattle.disk_files.proofs.disk_bench.DiskBenchBench.cells_settle_fill.Goals as goal

pub returns-in-Ok-clause-does : goal.returns-in-Ok-clause-does
returns-in-Ok-clause-does g c = grind (arith, common_steps)

pub returns-in_default-clause-does : goal.returns-in_default-clause-does
returns-in_default-clause-does g c = grind (arith, common_steps)

pub returns-then-is_err-clause-does : goal.returns-then-is_err-clause-does
returns-then-is_err-clause-does g c = grind (arith, common_steps)

pub returns-in-Err-clause-acts : goal.returns-in-Err-clause-acts
returns-in-Err-clause-acts g c = grind (arith, common_steps)

pub returns-in-Ok-clause-acts : goal.returns-in-Ok-clause-acts
returns-in-Ok-clause-acts g c = grind (arith, common_steps)

pub returns-then-is_err-clause-acts : goal.returns-then-is_err-clause-acts
returns-then-is_err-clause-acts g c = grind (arith, common_steps)

pub invariant_of-self-in-Err : goal.invariant_of-self-in-Err
invariant_of-self-in-Err g c = grind (arith, common_steps)

pub returns-in-Err-clause-does : goal.returns-in-Err-clause-does
returns-in-Err-clause-does g c =
    let wrote = c.fill_range.ensures.does in
    let closed = c.close_range.ensures.does in
    record {
      ok = λ told. tt;
      err = λ told. record {
        operation = (c.in-Err.ensures.does.err told).operation ∙ wrote.operation told;
        cells = (c.in-Err.ensures.does.err told).cells ∙ wrote.cells told;
      };
      count = refl;
      moments = adds_nothing_then wrote.moments closed.moments;
      file = record { file = closed.job.file ∙ wrote.job.file; faults = refl; half = stays_then wrote.job.half closed.job.half };
      cause = record { later = c.raise-in-Err.ensures.later; on_fault = λ fault. c.raise-in-Err.ensures.rose; on_ok = λ ok. absurd (false≢true ok) };
    }
