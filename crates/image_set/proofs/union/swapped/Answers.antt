-- `swapped`: the fault that it answers.
use Rattle.std.proofs.Common.{sym, ap}
use Rattle.byte_map.specs.declared.fault.LayFault.{LayFault}
use Rattle.image_set.specs.Fault.{fault_of}
use Rattle.image_set.specs.Union.{swapped}
use Rattle.image_set.proofs.union.swapped.Goals as goal

pub returns-in-Conflict : goal.returns-in-Conflict
returns-in-Conflict c = ap (λ (fault : LayFault). fault_of (swapped fault)) (sym c.in-Conflict.is)
