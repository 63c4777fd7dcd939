-- The word that `peek` gives is what a load of the register answers.
use Rattle.flash_layout.specs.Maps.{map_of}
use Rattle.flash_driver.proofs.RegisterLemmas.{register_peeks}
use Rattle.flash_driver.proofs.driver.Driver.peek.Goals as goal

pub returns-clause-value : goal.returns-clause-value
returns-clause-value g c =
    register_peeks g.R.Registers.table (map_of c.args.self.now.layout) c.args.self.now.state c.args.offset c.requires c.peek.result c.peek.ensures.value
