-- `Driver::runs_on`: its clause `ticks`.
use Rattle.flash_driver.proofs.TickLemmas.{lower_tick}
use Rattle.flash_driver.proofs.driver.Driver.runs_on.Goals as goal

pub returns-clause-ticks : goal.returns-clause-ticks
returns-clause-ticks g c was cells = lower_tick g.R.Registers.table c.args.self.now.state cells c.lowers.new.operation c.lowers.result was c.lowers.ensures
