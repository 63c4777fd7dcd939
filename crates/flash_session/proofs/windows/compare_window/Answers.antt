-- `compare_window`: that it keeps its contract.
use Rattle.std.proofs.Common.{◌∙◌, ℕ, List, refl, subst}
use Rattle.bench_model.proofs.CountLemmas.{none_counted, one_counted}
use Rattle.readback.specs.Readback.{Finds}
use Rattle.flash_session.proofs.ReadLemmas.{one_since, read_cells, read_file, read_then}
use Rattle.flash_session.proofs.windows.compare_window.Goals as goal

pub returns-in-Err-clause-reads : goal.returns-in-Err-clause-reads
returns-in-Err-clause-reads g c =
    read_file g.B.Bench.tells (g.B.Bench.state c.args.bench.now) (g.B.Bench.state c.want_into.new.bench) c.want_into.ensures.reads

pub returns-in-Err-clause-store : goal.returns-in-Err-clause-store
returns-in-Err-clause-store g c = one_counted _ _ c.in-Err.ensures.cause.later (c.in-Err.ensures.cause.on_fault refl)

pub returns-in-Err-clause-device : goal.returns-in-Err-clause-device
returns-in-Err-clause-device g c = none_counted _ _ c.want_into.ensures.reads.cells.faults

pub returns-in-Ok-first_difference-clause-ok : goal.returns-in-Ok-first_difference-clause-ok
returns-in-Ok-first_difference-clause-ok g c = record {
  bytes = c.want_into.new.out;
  long = c.want_into.auto.out;
  are = λ told. c.in-Ok.ensures.ok told;
  finds =
      subst (λ (cells : List ℕ). Finds g.B.Bench.tells cells c.args.at c.want_into.new.out c.in-Ok-first_difference.found)
      c.want_into.ensures.reads.cells.cells c.in-Ok-first_difference.ensures.ok;
}

pub returns-in-Ok-first_difference-clause-reads : goal.returns-in-Ok-first_difference-clause-reads
returns-in-Ok-first_difference-clause-reads g c =
    let b = g.B.Bench.state c.want_into.new.bench in
    read_then (read_file g.B.Bench.tells (g.B.Bench.state c.args.bench.now) b c.want_into.ensures.reads)
    (read_cells g.B.Bench.tells b (g.B.Bench.state c.first_difference.new.bench) c.first_difference.ensures.bench)

pub returns-in-Ok-first_difference-clause-store : goal.returns-in-Ok-first_difference-clause-store
returns-in-Ok-first_difference-clause-store g c = none_counted _ _ (c.first_difference.ensures.bench.file.faults ∙ c.in-Ok.ensures.cause.on_ok refl)

pub returns-in-Err-first_difference-clause-reads : goal.returns-in-Err-first_difference-clause-reads
returns-in-Err-first_difference-clause-reads g c =
    let b = g.B.Bench.state c.want_into.new.bench in
    read_then (read_file g.B.Bench.tells (g.B.Bench.state c.args.bench.now) b c.want_into.ensures.reads)
    (read_cells g.B.Bench.tells b (g.B.Bench.state c.first_difference.new.bench) c.first_difference.ensures.bench)

pub returns-in-Err-first_difference-clause-store : goal.returns-in-Err-first_difference-clause-store
returns-in-Err-first_difference-clause-store g c = none_counted _ _ (c.first_difference.ensures.bench.file.faults ∙ c.in-Ok.ensures.cause.on_ok refl)

pub returns-in-Ok-first_difference-clause-device : goal.returns-in-Ok-first_difference-clause-device
returns-in-Ok-first_difference-clause-device g c =
    none_counted _ _ (c.in-Ok-first_difference.ensures.cause.on_ok refl ∙ c.want_into.ensures.reads.cells.faults)

pub returns-in-Err-first_difference-clause-device : goal.returns-in-Err-first_difference-clause-device
returns-in-Err-first_difference-clause-device g c =
    one_since _ _ _ c.want_into.ensures.reads.cells.faults c.in-Err-first_difference.ensures.cause.later
    (c.in-Err-first_difference.ensures.cause.on_fault refl)
