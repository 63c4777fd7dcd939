-- `Driver::load_or_quiet`: that it keeps its contract.
use Rattle.flash_driver.proofs.TouchLemmas.{quiet_then}
use Rattle.flash_layout.specs.Maps.{map_of}
use Rattle.flash_driver.proofs.RowLemmas.{load_asks, loud_load, layout_same, quiet_in, quiet_load}
use Rattle.std.proofs.Common.{◌∙◌}
use Rattle.flash_driver.proofs.driver.Driver.load_or_quiet.Goals as goal

pub returns-in_default-2-clause-asks : goal.returns-in_default-2-clause-asks
returns-in_default-2-clause-asks g c = load_asks g.R.Registers.table (map_of c.args.self.now.layout) c.args.self.now.state c.args.at c.args.width _
    c.in_default.ensures.elsewhere

pub returns-in-Err-Fault-clause-touches : goal.returns-in-Err-Fault-clause-touches
returns-in-Err-Fault-clause-touches g c = quiet_then _ _ _ _ _ _ _ c.in-Err-Fault.field-0-is c.in-Err-Fault.ensures.touches

pub returns-in_default-clause-row : goal.returns-in_default-clause-row
returns-in_default-clause-row g c told =
    loud_load _ _ _ (quiet_in c.load.new.self.layout _ _ _ (layout_same _ _ c.load.ensures.same) c.is_quiet.ensures ∙ c.if-is_quiet.false)
    (c.in-Err-Fault.ensures.row told)

pub returns-in-Err-Fault-clause-row : goal.returns-in-Err-Fault-clause-row
returns-in-Err-Fault-clause-row g c told =
    quiet_load _ _ _ (quiet_in c.load.new.self.layout _ _ _ (layout_same _ _ c.load.ensures.same) c.is_quiet.ensures ∙ c.if-is_quiet.true)
    c.in-Err-Fault.field-0-is
    (c.in-Err-Fault.ensures.row told)
