-- `blocks_are_of_one_size`: the law.
use Rattle.target_core.proofs.UnitLemmas.{block_same}
use Rattle.target_core.proofs.law.blocks_are_of_one_size.Goals as goal

pub returns : goal.returns
returns c = block_same
