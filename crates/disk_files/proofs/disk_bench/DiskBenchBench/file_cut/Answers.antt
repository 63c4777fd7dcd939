-- `file_cut`: that it keeps its contract.
use Rattle.std.proofs.Common.{arith, ◌∙◌, ap, subst, refl, ℕ, List, take}
use Rattle.std.proofs.lemmas.Grind.{common_steps}
use Rattle.std.proofs.lemmas.Bool.{false≢true}
use Rattle.bench_model.specs.Calls.{Cut, Shortened}
use Rattle.bench_model.proofs.Moments.{stays_then}
use Rattle.disk_files.proofs.FileLemmas.{adds_nothing_then_follows, cut_here}
use Rattle.disk_files.proofs.disk_bench.DiskBenchBench.file_cut.Goals as goal

pub returns-then-is_err-clause-does : goal.returns-then-is_err-clause-does
returns-then-is_err-clause-does g c = grind (arith, common_steps)

pub returns-in-Err-clause-acts : goal.returns-in-Err-clause-acts
returns-in-Err-clause-acts g c = grind (arith, common_steps)

pub returns-in-Ok-clause-acts : goal.returns-in-Ok-clause-acts
returns-in-Ok-clause-acts g c = grind (arith, common_steps)

pub returns-then-is_err-clause-acts : goal.returns-then-is_err-clause-acts
returns-then-is_err-clause-acts g c = grind (arith, common_steps)

pub invariant_of-self-in-Err : goal.invariant_of-self-in-Err
invariant_of-self-in-Err g c = grind (arith, common_steps)

pub job_set_len-requires-clause-len : goal.job_set_len-requires-clause-len
job_set_len-requires-clause-len g c = grind (arith, common_steps)

pub returns-in-Ok-clause-does : goal.returns-in-Ok-clause-does
returns-in-Ok-clause-does g c =
    let ready = c.ready_to_change.ensures.does in
    let cut = c.job_set_len.ensures.does in
    record {
      ok = λ told. c.in-Ok.ensures.does.ok told ∙ ap (λ (l : List ℕ). take c.args.len l) (ready.file told);
      err = λ told. tt;
      moments = adds_nothing_then_follows (Cut c.args.len) (cut_here c.args.len) ready.moments cut.moments;
      cells = record {
        cells = cut.cells.cells ∙ ready.cells;
        operation = cut.cells.operation ∙ ready.operation;
        count = refl;
        faults = refl;
        half = stays_then ready.half cut.cells.half;
      };
      cause = record { later = omega arith; on_fault = λ fault. absurd (false≢true fault); on_ok = λ ok. refl };
    }

pub returns-in-Err-clause-does : goal.returns-in-Err-clause-does
returns-in-Err-clause-does g c =
    let ready = c.ready_to_change.ensures.does in
    let cut = c.job_set_len.ensures.does in
    record {
      ok = λ told. tt;
      err = λ told. subst (λ (l : List ℕ). Shortened c.args.len l (g.F.Disk.state c.job_set_len.new.self).file) (ready.file told)
          (c.in-Err.ensures.does.err told);
      moments = adds_nothing_then_follows (Cut c.args.len) (cut_here c.args.len) ready.moments cut.moments;
      cells = record {
        cells = cut.cells.cells ∙ ready.cells;
        operation = cut.cells.operation ∙ ready.operation;
        count = refl;
        faults = refl;
        half = stays_then ready.half cut.cells.half;
      };
      cause = record { later = c.raise-in-Err.ensures.later; on_fault = λ fault. c.raise-in-Err.ensures.rose; on_ok = λ ok. absurd (false≢true ok) };
    }
