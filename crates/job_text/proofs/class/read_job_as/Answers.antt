-- `read_job_as`: that it keeps its contract.
use Rattle.std.proofs.Common.{arith}
use Rattle.std.proofs.lemmas.Grind.{common_steps}
use Rattle.job_text.specs.Reading.{job_as}
use Rattle.job_text.proofs.class.read_job_as.Goals as goal

pub returns : goal.returns
unfolding job_as
returns c = grind (arith, common_steps)

pub returns-then-whole-places_in : goal.returns-then-whole-places_in
unfolding job_as
returns-then-whole-places_in c = grind (arith, common_steps)

pub read_rest-requires-clause-early : goal.read_rest-requires-clause-early
read_rest-requires-clause-early c = grind (arith, common_steps)

pub read_rest-requires-clause-inside : goal.read_rest-requires-clause-inside
read_rest-requires-clause-inside c = grind (arith, common_steps)
