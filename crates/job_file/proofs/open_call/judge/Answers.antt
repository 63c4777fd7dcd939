-- `judge`: its clause `refused`.
use Rattle.std.proofs.Common.{refl, subst, arith}
use Rattle.std.proofs.lemmas.Grind.{common_steps}
use Rattle.job_text.specs.declared.job.Class.{Class}
use Rattle.job_text.specs.Stands.{StandsFor, IsClassOf}
use Rattle.job_text.proofs.ClassLemmas.{some_job}
use Rattle.job_file.proofs.open_call.judge.Goals as goal

pub returns-then-said-found-clause-refused : goal.returns-then-said-found-clause-refused
returns-then-said-found-clause-refused c = λ file is.
    let job = c.in-Stands.job in
    let s : StandsFor job file = subst (λ (k : Class). IsClassOf k file) c.in-Stands.is is in
    record { some = some_job job file s; said_is = c.cells-said.ensures; found_is = refl; differ = c.if-said-found.true }

pub returns-in-NotAJob-clause-refused : goal.returns-in-NotAJob-clause-refused
returns-in-NotAJob-clause-refused c = grind (arith, common_steps)

pub returns-else-said-found-clause-ok : goal.returns-else-said-found-clause-ok
returns-else-said-found-clause-ok c = grind (arith, common_steps)
