-- `take_file`: that it keeps its contract.
use Rattle.std.proofs.Common.{arith}
use Rattle.std.proofs.lemmas.Grind.{common_steps}
use Rattle.job_text.specs.Reading.{file_at}
use Rattle.job_text.proofs.texts.take_file.Goals as goal

pub returns-clause-taken : goal.returns-clause-taken
returns-clause-taken c = c.in_ok-text.ensures.taken

pub returns-then-not-fits_in-clause-gives : goal.returns-then-not-fits_in-clause-gives
unfolding file_at
returns-then-not-fits_in-clause-gives c = grind (arith, common_steps)

pub returns-clause-shorter : goal.returns-clause-shorter
returns-clause-shorter c = c.in_ok-text.ensures.shorter
