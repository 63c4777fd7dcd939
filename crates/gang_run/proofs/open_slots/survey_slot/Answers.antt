-- `survey_slot`: its clause `slot`.
use Rattle.std.proofs.Common.{subst}
use Rattle.job_text.specs.declared.job.Job.{Job}
use Rattle.flash_session.specs.Sessions.{job_in, surveyed}
use Rattle.gang_run.specs.Opens.{GivesSlot}
use Rattle.gang_run.proofs.OpenLemmas.{surveyed_so}
use Rattle.gang_run.proofs.open_slots.survey_slot.Goals as goal

pub returns-clause-slot : goal.returns-clause-slot
returns-clause-slot g c =
    surveyed_so g.B.Bench.tells (job_in c.args.session) c.args.window (g.B.Bench.state c.args.bench.now) (g.B.Bench.state c.survey-found.new.bench)
    c.survey-found.ensures.reads c.requires.count c.requires.idle c.requires.stands c.requires.only (surveyed c.survey-found.new.self) c.survey-found.result
    c.slot_of.result c.survey-found.ensures.ok
    (subst (λ (j : Job). GivesSlot j (surveyed c.survey-found.new.self) c.args.window c.survey-found.result c.slot_of.result) c.survey-found.ensures.job
    c.slot_of.ensures)
    c.survey-found.ensures.store c.survey-found.ensures.device
