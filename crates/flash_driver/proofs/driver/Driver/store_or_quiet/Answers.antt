-- `Driver::store_or_quiet`: that it keeps its contract.
use Rattle.flash_driver.proofs.TouchLemmas.{quiet_then}
use Rattle.flash_driver.proofs.RowLemmas.{loud_store, quiet_in, quiet_store}
use Rattle.std.proofs.Common.{◌∙◌}
use Rattle.flash_driver.proofs.driver.Driver.store_or_quiet.Goals as goal

pub returns-in-Err-Fault-clause-touches : goal.returns-in-Err-Fault-clause-touches
returns-in-Err-Fault-clause-touches g c = quiet_then _ _ _ _ _ _ _ c.in-Err-Fault.field-0-is c.in-Err-Fault.ensures.touches

pub returns-in_default-clause-row : goal.returns-in_default-clause-row
returns-in_default-clause-row g c told =
    loud_store _ _ _ _ _ (quiet_in c.store.new.self.layout _ _ _ c.store.ensures.layout c.is_quiet.ensures ∙ c.if-is_quiet.false)
    (c.in-Err-Fault.ensures.row told)

pub returns-in-Err-Fault-clause-row : goal.returns-in-Err-Fault-clause-row
returns-in-Err-Fault-clause-row g c told =
    quiet_store _ _ _ _ _ (quiet_in c.store.new.self.layout _ _ _ c.store.ensures.layout c.is_quiet.ensures ∙ c.if-is_quiet.true) c.in-Err-Fault.field-0-is
    (c.in-Err-Fault.ensures.row told)
