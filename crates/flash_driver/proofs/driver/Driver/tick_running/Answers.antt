-- `Driver::tick_running`: that it keeps its contract.
use Rattle.std.proofs.Common.{refl, sym, ap, ◌∙◌, arith}
use Rattle.flash_layout.specs.Work.{range_of}
use Rattle.flash_driver.proofs.TickLemmas.{last_cells, last_tick}
use Rattle.flash_driver.proofs.driver.Driver.tick_running.Goals as goal

pub returns-in-Err-clause-err : goal.returns-in-Err-clause-err
returns-in-Err-clause-err g c = refl

pub returns-in-Err-clause-ticks : goal.returns-in-Err-clause-ticks
returns-in-Err-clause-ticks g c = record {
  bench = c.settle.ensures.bench;
  agrees = record {
    count = c.settle.ensures.bench.count ∙ c.requires.agrees.count;
    operation = λ told. (c.in-Err.ensures.err told).operation ∙ c.requires.agrees.operation told ∙ sym (ap range_of c.requires.runs);
  };
  err = λ told. (c.in-Err.ensures.err told).cells;
  cause = c.in-Err.ensures.cause;
}

pub returns-in-Ok-clause-ok : goal.returns-in-Ok-clause-ok
returns-in-Ok-clause-ok g c told =
    last_cells g.R.Registers.table c.args.self.now.state _ c.args.operation _ _ c.end.ensures (omega arith) (c.in-Ok.ensures.ok told).1

pub returns-in-Ok-clause-state : goal.returns-in-Ok-clause-state
returns-in-Ok-clause-state g c = last_tick g.R.Registers.table c.args.self.now.state _ c.args.operation c.end.ensures (omega arith)

pub returns-in-Ok-clause-ticks : goal.returns-in-Ok-clause-ticks
returns-in-Ok-clause-ticks g c = record {
  bench = c.settle.ensures.bench;
  agrees = record { count = c.settle.ensures.bench.count ∙ c.requires.agrees.count; operation = λ told. (c.in-Ok.ensures.ok told).0 };
  err = λ told. tt;
  cause = c.in-Ok.ensures.cause;
}
