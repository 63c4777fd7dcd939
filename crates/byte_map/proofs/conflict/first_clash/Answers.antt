-- `first_clash`: that it keeps its contract.
use Rattle.std.proofs.Common.{arith, rules}
use Rattle.std.proofs.lemmas.Grind.{common_steps}
use Rattle.byte_map.proofs.conflict.first_clash.Goals as goal

pub bounds-bytes-address : goal.bounds-bytes-address
bounds-bytes-address c = grind (arith, common_steps)

pub loop-address-init : goal.loop-address-init
loop-address-init c = grind (arith, common_steps)

pub loop-address-preserved : goal.loop-address-preserved
loop-address-preserved c = first_of (search rules, grind (arith, common_steps))
