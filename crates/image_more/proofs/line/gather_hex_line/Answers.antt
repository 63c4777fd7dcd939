-- `gather_hex_line`: that it keeps its contract.
use Rattle.std.proofs.Common.{arith}
use Rattle.std.proofs.lemmas.Grind.{common_steps}
use Rattle.image_more.specs.Texts.{hex_line}
use Rattle.image_more.proofs.line.gather_hex_line.Goals as goal

pub push-requires-5 : goal.push-requires-5
push-requires-5 g c = grind (arith, common_steps)

pub unwrap-requires : goal.unwrap-requires
unwrap-requires g c = grind (arith, common_steps)

pub returns : goal.returns
unfolding hex_line
returns g c = grind (arith, common_steps)
