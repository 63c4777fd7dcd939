-- `Lock::after_key`: that it keeps its contract.
use Rattle.std.proofs.Common.{arith}
use Rattle.std.proofs.lemmas.Grind.{common_steps}
use Rattle.flash_layout.proofs.lock.Lock.after_key.Goals as goal

pub returns-in-Locked : goal.returns-in-Locked
returns-in-Locked c = grind (arith, common_steps)

pub returns-in-FirstKey : goal.returns-in-FirstKey
returns-in-FirstKey c = grind (arith, common_steps)
