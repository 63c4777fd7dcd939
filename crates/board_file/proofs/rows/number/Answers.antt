-- `number`: that it keeps its contract, and what `number_in` requires.
use Rattle.std.proofs.Common.{arith}
use Rattle.std.proofs.lemmas.Grind.{common_steps}
use Rattle.board_file.specs.Text.{number}
use Rattle.board_file.proofs.rows.number.Goals as goal

pub returns-in-None-clause-said : goal.returns-in-None-clause-said
unfolding number
returns-in-None-clause-said c = grind (arith, common_steps)

pub returns-in-Some-clause-fits : goal.returns-in-Some-clause-fits
returns-in-Some-clause-fits c = grind (arith, common_steps)

pub number_in-requires : goal.number_in-requires
number_in-requires c = grind (arith, common_steps)

pub returns-in-Some-clause-said : goal.returns-in-Some-clause-said
unfolding number
returns-in-Some-clause-said c = grind (arith, common_steps)

pub returns-in-None-clause-fits : goal.returns-in-None-clause-fits
returns-in-None-clause-fits c = grind (arith, common_steps)
