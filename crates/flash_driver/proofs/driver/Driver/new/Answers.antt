-- `Driver::new`: that it keeps its contract.
use Rattle.flash_driver.proofs.RegisterLemmas.{fresh_is}
use Rattle.flash_driver.proofs.driver.Driver.new.Goals as goal

pub returns-clause-state : goal.returns-clause-state
returns-clause-state g c = fresh_is g.R.Registers.table c.args.board.now.kind _ c.fresh-registers.ensures
