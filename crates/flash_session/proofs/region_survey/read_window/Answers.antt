-- `read_window`: its clauses `wanted`, `reads`, `spares`, `store` and `device`, and what `want_cells` requires.
use Rattle.std.proofs.Common.{◌+◌, ◌∙◌, ℕ, Bool, List, Result, refl, arith}
use Rattle.std.proofs.lemmas.Grind.{common_steps}
use Rattle.std.proofs.lemmas.Bool.{false≢true}
use Rattle.bench_model.specs.Calls.{IsRead}
use Rattle.bench_model.specs.Does.{ReadsCells}
use Rattle.bench_model.specs.State.{BenchState}
use Rattle.bench_model.specs.declared.bench_fault.DeviceFault.{DeviceFault}
use Rattle.bench_model.proofs.CountLemmas.{none_counted, one_counted}
use Rattle.bench_model.proofs.Moments.{file_stays_then}
use Rattle.flash_session.proofs.ReadLemmas.{one_since, read_cells, read_file, read_then}
use Rattle.flash_session.proofs.SurveyLemmas.{source_still, wanted_still}
use Rattle.flash_session.proofs.region_survey.read_window.Goals as goal

cells_read : {T : Type 0} {tells : Bool} {s t : BenchState} {at : ℕ} {before after : List ℕ} {r : Result T DeviceFault}
    → ReadsCells tells s t at before after r → IsRead tells s t
cells_read {T} {tells} {s} {t} reads = read_cells tells s t (record {
  cells = reads.cells;
  operation = reads.operation;
  count = reads.count;
  moments = reads.moments;
  file = reads.file;
})

pub want_cells-requires-clause-source : goal.want_cells-requires-clause-source
want_cells-requires-clause-source g c =
    source_still g.B.Bench.tells c.args.aim.now.source (g.B.Bench.state c.args.bench.now) (g.B.Bench.state c.read_cells.new.bench)
    (λ told. c.read_cells.ensures.file.file) c.read_cells.ensures.count
    c.requires.source

pub returns-in-Ok-want_cells-clause-wanted : goal.returns-in-Ok-want_cells-clause-wanted
returns-in-Ok-want_cells-clause-wanted g c =
    let aim = c.args.aim.now in
    wanted_still g.B.Bench.tells aim.source (aim.start + c.args.at) (aim.algorithm.now.device.base + c.args.at) (g.B.Bench.state c.read_cells.new.bench).file
    (g.B.Bench.state c.args.bench.now).file c.read_cells.new.out c.want_cells.new.wanted (λ told. c.read_cells.ensures.file.file)
    c.in-Ok-want_cells.ensures.wanted

pub returns-in-Err-clause-spares : goal.returns-in-Err-clause-spares
returns-in-Err-clause-spares g c = λ over. (c.read_cells.ensures.file, refl)

pub returns-in-Ok-want_cells-clause-spares : goal.returns-in-Ok-want_cells-clause-spares
returns-in-Ok-want_cells-clause-spares g c = λ over. (file_stays_then c.read_cells.ensures.file (c.want_cells.ensures.spares over).0, refl)

pub returns-in-Err-clause-reads : goal.returns-in-Err-clause-reads
returns-in-Err-clause-reads g c = cells_read c.read_cells.ensures

pub returns-in-Err-clause-store : goal.returns-in-Err-clause-store
returns-in-Err-clause-store g c = none_counted _ _ c.read_cells.ensures.file.faults

pub returns-in-Err-clause-device : goal.returns-in-Err-clause-device
returns-in-Err-clause-device g c = one_counted _ _ c.in-Err.ensures.cause.later (c.in-Err.ensures.cause.on_fault refl)

pub returns-in-Ok-want_cells-clause-reads : goal.returns-in-Ok-want_cells-clause-reads
returns-in-Ok-want_cells-clause-reads g c =
    read_then (cells_read c.read_cells.ensures) (read_file g.B.Bench.tells (g.B.Bench.state c.read_cells.new.bench) (g.B.Bench.state c.want_cells.new.bench)
    c.want_cells.ensures.reads)

pub returns-in-Ok-want_cells-clause-device : goal.returns-in-Ok-want_cells-clause-device
returns-in-Ok-want_cells-clause-device g c = none_counted _ _ (c.want_cells.ensures.reads.cells.faults ∙ c.in-Ok.ensures.cause.on_ok refl)

pub returns-in-Err-want_cells-clause-reads : goal.returns-in-Err-want_cells-clause-reads
returns-in-Err-want_cells-clause-reads g c =
    read_then (cells_read c.read_cells.ensures) (read_file g.B.Bench.tells (g.B.Bench.state c.read_cells.new.bench) (g.B.Bench.state c.want_cells.new.bench)
    c.want_cells.ensures.reads)

pub returns-in-Err-want_cells-clause-device : goal.returns-in-Err-want_cells-clause-device
returns-in-Err-want_cells-clause-device g c = none_counted _ _ (c.want_cells.ensures.reads.cells.faults ∙ c.in-Ok.ensures.cause.on_ok refl)

pub returns-in-Ok-want_cells-clause-store : goal.returns-in-Ok-want_cells-clause-store
returns-in-Ok-want_cells-clause-store g c = none_counted _ _ (c.in-Ok-want_cells.ensures.cause.on_ok refl ∙ c.read_cells.ensures.file.faults)

pub returns-in-Err-want_cells-clause-store : goal.returns-in-Err-want_cells-clause-store
returns-in-Err-want_cells-clause-store g c =
    one_since _ _ _ c.read_cells.ensures.file.faults c.in-Err-want_cells.ensures.cause.later (c.in-Err-want_cells.ensures.cause.on_fault refl)

pub returns-in-Err-want_cells-clause-spares : goal.returns-in-Err-want_cells-clause-spares
returns-in-Err-want_cells-clause-spares g c = λ over. absurd (false≢true (c.in-Err-want_cells.ensures.spares over).1)

pub want_cells-requires-clause-same : goal.want_cells-requires-clause-same
want_cells-requires-clause-same g c = grind (arith, common_steps)
