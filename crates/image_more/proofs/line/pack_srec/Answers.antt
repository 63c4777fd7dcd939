-- `pack_srec`: that it keeps its contract.
use Rattle.std.proofs.Common.{arith}
use Rattle.std.proofs.lemmas.Grind.{common_steps}
use Rattle.image_more.proofs.line.pack_srec.Goals as goal

pub returns-clause-few : goal.returns-clause-few
returns-clause-few c = grind (arith, common_steps)

pub unwrap-requires : goal.unwrap-requires
unwrap-requires c = grind (arith, common_steps)
