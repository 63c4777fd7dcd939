-- `Driver::tick`: that it keeps its contract.
use Rattle.flash_driver.proofs.TouchLemmas.{ticks_here}
use Rattle.flash_driver.proofs.driver.Driver.tick.Goals as goal

pub returns-in-None-clause-ticks : goal.returns-in-None-clause-ticks
returns-in-None-clause-ticks g c = ticks_here _ _ _ _ (λ x told. g.met.B.Bench.as_told c.args.bench.now x told) c.requires.agrees
