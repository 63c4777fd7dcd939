-- `survey_cells`: its clauses `part`, `plan`, `reads` and `cause`, and that an arm is never reached.
use Rattle.std.proofs.Common.{◌≡◌, false, sym, subst, refl}
use Rattle.std.proofs.lemmas.Bool.{false≢true}
use Rattle.bench_model.specs.Counted.{is_store_fault}
use Rattle.flash_session.specs.declared.windows.Unread.{Unread}
use Rattle.flash_session.specs.Reads.{unread_fault}
use Rattle.flash_session.proofs.ReadLemmas.{only_cells}
use Rattle.flash_session.proofs.SurveyLemmas.{planned_over}
use Rattle.flash_session.proofs.region_survey.survey_cells.Goals as goal

pub returns-in-Ok-clause-part : goal.returns-in-Ok-clause-part
returns-in-Ok-clause-part g c = c.in-Ok.ensures.part

pub returns-in-Ok-clause-plan : goal.returns-in-Ok-clause-plan
returns-in-Ok-clause-plan g c =
    planned_over g.B.Bench.tells c.args.weights.now c.args.image _ (g.B.Bench.state c.args.bench.now) c.survey_region.new.part c.in-Ok.ensures.plan

pub returns-in-Ok-clause-reads : goal.returns-in-Ok-clause-reads
returns-in-Ok-clause-reads g c = only_cells c.survey_region.ensures.reads (c.survey_region.ensures.spares tt).0

pub returns-in-Err-Device-clause-reads : goal.returns-in-Err-Device-clause-reads
returns-in-Err-Device-clause-reads g c = only_cells c.survey_region.ensures.reads (c.survey_region.ensures.spares tt).0

pub unreachable-requires : goal.unreachable-requires
unreachable-requires g c =
    absurd (false≢true (sym (subst (λ (u : Unread). is_store_fault (unread_fault u) ≡ false) c.in-Err-Store.field-0-is (c.in-Err-Store.ensures.spares tt).1)))

pub returns-in-Ok-clause-cause : goal.returns-in-Ok-clause-cause
returns-in-Ok-clause-cause g c =
    let device = c.in-Ok.ensures.device in
    record { later = device.later; on_fault = λ failed. absurd (false≢true failed); on_ok = λ fine. device.on_other refl }

pub returns-in-Err-Device-clause-cause : goal.returns-in-Err-Device-clause-cause
returns-in-Err-Device-clause-cause g c =
    let device = rw c.in-Err-Device.field-0-is at c.in-Err-Device.ensures.device in
    record { later = device.later; on_fault = λ failed. device.on_fault refl; on_ok = λ fine. absurd (false≢true fine) }
