-- `call`: that it keeps its contract.
use Rattle.std.proofs.Common.{arith}
use Rattle.std.proofs.lemmas.Grind.{common_steps}
use Rattle.flm_main.proofs.runs.call.Goals as goal

pub gang_words-requires : goal.gang_words-requires
gang_words-requires c = grind (arith, common_steps)
