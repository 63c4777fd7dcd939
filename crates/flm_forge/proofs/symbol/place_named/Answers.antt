-- `place_named`: the value that it answers.
use Rattle.flm_forge.proofs.EntryLemmas.{named_is}
use Rattle.flm_forge.proofs.symbol.place_named.Goals as goal

pub returns : goal.returns
returns c = named_is c.args.labels.now c.args.name.now c.get.result c.get.ensures.cases c.get.ensures.first
