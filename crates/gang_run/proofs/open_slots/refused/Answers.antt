-- `refused`: its contract, `GivesSlot`, for a fault of the bench.
use Rattle.std.proofs.Common.{refl}
use Rattle.gang_run.proofs.open_slots.refused.Goals as goal

pub returns-in-DeviceFault : goal.returns-in-DeviceFault
returns-in-DeviceFault c = rw c.in-DeviceFault.is (λ j found window. (refl, tt))

pub returns-in-StoreFault : goal.returns-in-StoreFault
returns-in-StoreFault c = rw c.in-StoreFault.is (λ j found window. (refl, tt))
