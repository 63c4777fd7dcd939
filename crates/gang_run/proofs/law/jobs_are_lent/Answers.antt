-- `jobs_are_lent`: its contract, `HasJob`.
use Rattle.gang_run.specs.Gangs.{slot_at}
use Rattle.gang_run.proofs.GangLemmas.{job_exact}
use Rattle.gang_run.proofs.law.jobs_are_lent.Goals as goal

pub returns : goal.returns
returns c = λ h i found gang job. job_exact (slot_at h i) found (gang.slots i) job
