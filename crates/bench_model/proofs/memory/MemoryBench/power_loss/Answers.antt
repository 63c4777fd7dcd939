-- `MemoryBench::power_loss`: that it keeps its contract.
use Rattle.std.proofs.Common.{arith}
use Rattle.std.proofs.lemmas.Grind.{common_steps}
use Rattle.bench_model.proofs.LossLemmas.{rests}
use Rattle.bench_model.proofs.memory.MemoryBench.power_loss.Goals as goal

pub returns-clause-rest : goal.returns-clause-rest
returns-clause-rest c =
    let m = c.args.self.now in
    rests c.pick_file.new.file.items c.pick_cells.new.cells.items _ _ m.store.faults m.device.faults c.restart.new.self 0 _ _ c.deref.ensures.value
    c.deref-2.ensures.value c.restart.ensures

pub returns-clause-left : goal.returns-clause-left
returns-clause-left c = grind (arith, common_steps)

pub restart-requires-clause-cells : goal.restart-requires-clause-cells
restart-requires-clause-cells c = grind (arith, common_steps)

pub invariant_of-self : goal.invariant_of-self
invariant_of-self c = grind (arith, common_steps)

pub restart-requires-clause-file : goal.restart-requires-clause-file
restart-requires-clause-file c = grind (arith, common_steps)
