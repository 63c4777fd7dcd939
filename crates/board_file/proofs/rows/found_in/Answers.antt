-- `found_in`: that it keeps its contract.
use Rattle.std.proofs.Common.{arith}
use Rattle.std.proofs.lemmas.Grind.{common_steps}
use Rattle.board_file.proofs.rows.found_in.Goals as goal

pub returns : goal.returns
returns c = grind (arith, common_steps)
