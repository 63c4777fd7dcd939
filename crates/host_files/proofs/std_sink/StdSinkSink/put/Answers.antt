-- `put`: that it keeps its contract.
use Rattle.std.proofs.Common.{arith}
use Rattle.std.proofs.lemmas.Grind.{common_steps}
use Rattle.host_files.proofs.std_sink.StdSinkSink.put.Goals as goal

pub returns-clause-cause : goal.returns-clause-cause
returns-clause-cause c = grind (arith, common_steps)
