-- `slot_of`: its contract, `GivesSlot`, and what `into_parts` requires.
use Rattle.std.proofs.Common.{OnOk, IsSome, Result, Ok, sym, subst}
use Rattle.flash_session.specs.declared.fault.SurveyFault.{SurveyFault}
use Rattle.flash_session.specs.Sessions.{job_in, surveyed}
use Rattle.gang_run.specs.Opens.{GivesSlot}
use Rattle.gang_run.proofs.OpenLemmas.{parts_to}
use Rattle.gang_run.proofs.open_slots.slot_of.Goals as goal

pub into_parts-parts-requires : goal.into_parts-parts-requires
into_parts-parts-requires c = subst (λ (r : Result (Unit {0}) SurveyFault). OnOk r (IsSome (surveyed c.args.session))) c.in-Ok.is c.requires

pub returns-in-Ok : goal.returns-in-Ok
returns-in-Ok c =
    subst (λ (r : Result (Unit {0}) SurveyFault). GivesSlot (job_in c.args.session) (surveyed c.args.session) c.args.window r (Ok c.make_slot.result))
    (sym c.in-Ok.is)
    (parts_to (surveyed c.args.session) (job_in c.args.session) c.args.window c.into_parts-parts.result c.make_slot.result c.into_parts-parts.ensures.job
    c.into_parts-parts.ensures.player c.make_slot.ensures)

pub returns-in-Err : goal.returns-in-Err
returns-in-Err c =
    subst (λ (r : Result (Unit {0}) SurveyFault). GivesSlot (job_in c.args.session) (surveyed c.args.session) c.args.window r c.refused.result)
    (sym c.in-Err.is) (c.refused.ensures (job_in c.args.session) (surveyed c.args.session) c.args.window)
