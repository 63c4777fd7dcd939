-- `Bytes::load32`: what `load32` requires.
use Rattle.std.proofs.Common.{arith}
use Rattle.std.proofs.lemmas.Grind.{common_steps}
use Rattle.ram_arena.proofs.bytes.Bytes.load32.Goals as goal

pub load32-requires : goal.load32-requires
load32-requires c = grind (arith, common_steps)
