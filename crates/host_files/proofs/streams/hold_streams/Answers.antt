-- `hold_streams`: that it keeps its contract.
use Rattle.std.proofs.Common.{arith}
use Rattle.std.proofs.lemmas.Grind.{common_steps}
use Rattle.host_files.proofs.streams.hold_streams.Goals as goal

pub overflow_step : goal.overflow_step
overflow_step c = grind (arith, common_steps)
