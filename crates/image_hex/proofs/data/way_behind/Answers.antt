-- `way_behind`: that it keeps its contract.
use Rattle.std.proofs.Common.{arith, rules}
use Rattle.std.proofs.lemmas.Grind.{common_steps}
use Rattle.image_hex.proofs.data.way_behind.Goals as goal

pub returns-in-Segment-clause-straight : goal.returns-in-Segment-clause-straight
returns-in-Segment-clause-straight c = first_of (search rules, grind (arith, common_steps))
