-- `ByteMap::lay`: that it keeps its contract.
use Rattle.std.proofs.Common.{arith, rules}
use Rattle.std.proofs.lemmas.Grind.{common_steps}
use Rattle.byte_map.proofs.map.ByteMap.lay.Goals as goal

pub add-requires-clause-touches : goal.add-requires-clause-touches
add-requires-clause-touches c = grind (arith, common_steps)

pub returns-then-from-bytes-gt-ADDRESSES-clause-err : goal.returns-then-from-bytes-gt-ADDRESSES-clause-err
returns-then-from-bytes-gt-ADDRESSES-clause-err c = first_of (search rules, grind (arith, common_steps))
