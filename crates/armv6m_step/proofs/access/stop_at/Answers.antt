-- `stop_at`: that it keeps its contract.
use Rattle.std.proofs.Common.{sym, ap}
use Rattle.armv6m_step.specs.Ends.{bus_end_at}
use Rattle.armv6m_step.proofs.access.stop_at.Goals as goal

pub returns-in-Fault : goal.returns-in-Fault
returns-in-Fault c = ap (bus_end_at c.args.at) (sym c.in-Fault.is)
