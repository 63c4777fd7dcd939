-- `take_mark`: its clause `gives`.
use Rattle.std.proofs.Common.{arith}
use Rattle.std.proofs.lemmas.Grind.{common_steps}
use Rattle.job_text.proofs.fields.take_mark.Goals as goal

pub returns-then-starts_with-clause-gives : goal.returns-then-starts_with-clause-gives
returns-then-starts_with-clause-gives c = grind (arith, common_steps)
