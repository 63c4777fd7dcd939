-- `round_up`: that it keeps its contract.
use Rattle.std.proofs.Common.{arith}
use Rattle.ram_arena.proofs.arena.round_up.Goals as goal

pub returns : goal.returns
returns c = omega arith
