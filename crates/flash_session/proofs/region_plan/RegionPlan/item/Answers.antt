-- `RegionPlan::item`: its contract, `IsItem`.
use Rattle.std.proofs.Common.{arith}
use Rattle.std.proofs.lemmas.Grind.{common_steps}
use Rattle.flash_session.proofs.region_plan.RegionPlan.item.Goals as goal

pub returns-then-can_verify : goal.returns-then-can_verify
returns-then-can_verify c = grind (arith, common_steps)

pub returns-in-Program : goal.returns-in-Program
returns-in-Program c = grind (arith, common_steps)

pub returns-in-Erase : goal.returns-in-Erase
returns-in-Erase c = grind (arith, common_steps)
