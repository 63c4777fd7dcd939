-- `job_read_at`: that it keeps its contract.
use Rattle.std.proofs.Common.{arith, ◌∙◌, refl}
use Rattle.std.proofs.lemmas.Grind.{common_steps}
use Rattle.bench_model.proofs.Moments.{adds_nothing_then, stays_then}
use Rattle.disk_files.proofs.memory_disk.MemoryDiskDisk.job_read_at.Goals as goal

pub returns-in-Ok-file_read-clause-reads : goal.returns-in-Ok-file_read-clause-reads
returns-in-Ok-file_read-clause-reads c = grind (arith, common_steps)

pub returns-in-Ok-file_read-clause-fails : goal.returns-in-Ok-file_read-clause-fails
returns-in-Ok-file_read-clause-fails c = grind (arith, common_steps)

pub returns-in-Err-file_read-clause-fails : goal.returns-in-Err-file_read-clause-fails
returns-in-Err-file_read-clause-fails c = grind (arith, common_steps)

pub returns-in-Ok-2-clause-fails : goal.returns-in-Ok-2-clause-fails
returns-in-Ok-2-clause-fails c = grind (arith, common_steps)

pub returns-in-Err-clause-fails : goal.returns-in-Err-clause-fails
returns-in-Err-clause-fails c = grind (arith, common_steps)

pub file_read-requires : goal.file_read-requires
file_read-requires c = grind (arith, common_steps)

pub returns-in-Err-file_read-clause-does : goal.returns-in-Err-file_read-clause-does
returns-in-Err-file_read-clause-does g c =
    let measured = c.file_len.ensures.does in
    let read = c.file_read.ensures.does in
    record {
      file = λ told. read.file told ∙ measured.file told;
      moments = adds_nothing_then measured.moments read.moments;
      cells = record {
        bytes = refl;
        cells = read.cells.cells ∙ measured.cells.cells;
        operation = read.cells.operation ∙ measured.cells.operation;
        unsynced = refl;
        earlier = refl;
        whole = refl;
        half = stays_then measured.cells.half read.cells.half;
      };
    }

pub returns-in-Ok-file_read-clause-does : goal.returns-in-Ok-file_read-clause-does
returns-in-Ok-file_read-clause-does g c =
    let measured = c.file_len.ensures.does in
    let read = c.file_read.ensures.does in
    record {
      file = λ told. read.file told ∙ measured.file told;
      moments = adds_nothing_then measured.moments read.moments;
      cells = record {
        bytes = refl;
        cells = read.cells.cells ∙ measured.cells.cells;
        operation = read.cells.operation ∙ measured.cells.operation;
        unsynced = refl;
        earlier = refl;
        whole = refl;
        half = stays_then measured.cells.half read.cells.half;
      };
    }
