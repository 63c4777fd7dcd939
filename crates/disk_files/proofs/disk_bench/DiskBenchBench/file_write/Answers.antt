-- `DiskBenchBench::file_write`: that it keeps its contract.
use Rattle.std.proofs.lemmas.Grind.{common_steps}
use Rattle.std.proofs.Common.{◌∙◌, ap, subst, refl, arith, ℕ, List, length}
use Rattle.std.proofs.lemmas.Bool.{false≢true}
use Rattle.bench_model.specs.Calls.{written, Torn}
use Rattle.bench_model.proofs.Moments.{stays_then}
use Rattle.disk_files.proofs.WriteLemmas.{torn_here}
use Rattle.disk_files.proofs.FileLemmas.{adds_nothing_then_follows}
use Rattle.disk_files.proofs.disk_bench.DiskBenchBench.file_write.Goals as goal

pub returns-in-Ok-clause-does : goal.returns-in-Ok-clause-does
returns-in-Ok-clause-does g c =
    let ready = c.ready_to_change.ensures.does in
    let wrote = c.write_all.ensures in
    record {
      ok = λ told. c.in-Ok.ensures.ok told ∙ ap (λ (l : List ℕ). written c.args.at c.args.bytes.now l) (ready.file told);
      err = λ told. tt;
      moments = adds_nothing_then_follows (Torn c.args.at (length c.args.bytes.now)) (torn_here c.args.at (length c.args.bytes.now)) ready.moments
          wrote.moments;
      cells = record {
        cells = wrote.cells.cells ∙ ready.cells;
        operation = wrote.cells.operation ∙ ready.operation;
        count = refl;
        faults = refl;
        half = stays_then ready.half wrote.cells.half;
      };
      cause = record { later = omega arith; on_fault = λ fault. absurd (false≢true fault); on_ok = λ ok. refl };
    }

pub returns-in-Err-clause-does : goal.returns-in-Err-clause-does
returns-in-Err-clause-does g c =
    let ready = c.ready_to_change.ensures.does in
    let wrote = c.write_all.ensures in
    let n = length c.args.bytes.now in
    record {
      ok = λ told. tt;
      err = λ told. subst (λ (l : List ℕ). Torn c.args.at n l (g.F.Disk.state c.write_all.new.disk).file) (ready.file told) (wrote.torn told);
      moments = adds_nothing_then_follows (Torn c.args.at n) (torn_here c.args.at n) ready.moments wrote.moments;
      cells = record {
        cells = wrote.cells.cells ∙ ready.cells;
        operation = wrote.cells.operation ∙ ready.operation;
        count = refl;
        faults = refl;
        half = stays_then ready.half wrote.cells.half;
      };
      cause = record { later = c.raise-in-Err.ensures.later; on_fault = λ fault. c.raise-in-Err.ensures.rose; on_ok = λ ok. absurd (false≢true ok) };
    }

pub returns-then-is_err-clause-does : goal.returns-then-is_err-clause-does
returns-then-is_err-clause-does g c = grind (arith, common_steps)

pub returns-in-Ok-clause-acts : goal.returns-in-Ok-clause-acts
returns-in-Ok-clause-acts g c = grind (arith, common_steps)

pub returns-in-Err-clause-acts : goal.returns-in-Err-clause-acts
returns-in-Err-clause-acts g c = grind (arith, common_steps)

pub returns-then-is_err-clause-acts : goal.returns-then-is_err-clause-acts
returns-then-is_err-clause-acts g c = grind (arith, common_steps)

pub invariant_of-self-in-Err : goal.invariant_of-self-in-Err
invariant_of-self-in-Err g c = grind (arith, common_steps)

pub write_all-requires-clause-at : goal.write_all-requires-clause-at
write_all-requires-clause-at g c = grind (arith, common_steps)
