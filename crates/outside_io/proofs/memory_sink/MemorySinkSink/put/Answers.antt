-- `put`: that it keeps its contract.
use Rattle.std.proofs.Common.{arith}
use Rattle.std.proofs.lemmas.Grind.{common_steps}
use Rattle.outside_io.proofs.memory_sink.MemorySinkSink.put.Goals as goal

pub returns-then-not-next_goes-clause-cause : goal.returns-then-not-next_goes-clause-cause
returns-then-not-next_goes-clause-cause c = grind (arith, common_steps)

pub returns-clause-cause : goal.returns-clause-cause
returns-clause-cause c = grind (arith, common_steps)

pub returns-then-not-next_goes-clause-err : goal.returns-then-not-next_goes-clause-err
returns-then-not-next_goes-clause-err c = grind (arith, common_steps)

pub invariant_of-self-2 : goal.invariant_of-self-2
invariant_of-self-2 c = grind (arith, common_steps)
