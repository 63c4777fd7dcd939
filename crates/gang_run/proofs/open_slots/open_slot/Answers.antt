-- `open_slot`: its clauses `slot`, `looked` and `first`, and what `survey_slot` requires.
use Rattle.std.proofs.Common.{refl, sym, ap, subst, arith, ℕ, List, Result, Ok}
use Rattle.std.proofs.lemmas.Grind.{common_steps}
use Rattle.std.proofs.lemmas.Bool.{false≢true}
use Rattle.job_file.proofs.FirstLemmas.{is_open_fault, syncs_as, syncs_then}
use Rattle.job_text.specs.Stands.{StandsFor}
use Rattle.flash_session.specs.declared.session.Session.{Session}
use Rattle.flash_session.specs.Sessions.{job_in}
use Rattle.gang_run.proofs.OpenLemmas.{opens_then, looked_then, unopened_device}
use Rattle.flash_session.specs.declared.fault.SessionFault.TheVariants as session
use Rattle.flash_session.specs.declared.target_end.TargetEnd.TheVariants as ended
use Rattle.faults.specs.declared.out_of_memory.OutOfMemory.{OutOfMemory}
use Rattle.job_file.specs.declared.fault.OpenFault.{OpenFault}
use Rattle.gang_run.specs.declared.slot.Slot.{Slot}
use Rattle.gang_run.specs.declared.slot.Slot.TheVariants as slot
use Rattle.gang_run.proofs.open_slots.open_slot.Goals as goal

-- a place was made
abbrev opened_as : Slot → Result Slot OutOfMemory
opened_as p = Ok p

pub returns-in-Ok-clause-slot : goal.returns-in-Ok-clause-slot
returns-in-Ok-clause-slot g c =
    opens_then g.B.Bench.tells (job_in c.in-Ok.session) c.args.window (g.B.Bench.state c.args.bench.now) (g.B.Bench.state c.open.new.bench)
    (g.B.Bench.state c.survey_slot.new.bench) c.in-Ok.ensures.ok c.in-Ok.ensures.sized
    (record { file = c.open.ensures.file; same = c.open.ensures.same; count = c.open.ensures.count; pairs = c.open.ensures.pairs })
    (c.in-Ok.ensures.store.on_other refl) (c.in-Ok.ensures.device.on_other refl) c.survey_slot.result c.survey_slot.ensures.slot

pub returns-in-Ok-clause-looked : goal.returns-in-Ok-clause-looked
returns-in-Ok-clause-looked g c =
    looked_then g.B.Bench.tells (g.B.Bench.state c.args.bench.now) (g.B.Bench.state c.open.new.bench) (g.B.Bench.state c.survey_slot.new.bench)
    (record { file = c.open.ensures.file; same = c.open.ensures.same; count = c.open.ensures.count; pairs = c.open.ensures.pairs }) c.survey_slot.ensures.reads
    c.survey_slot.ensures.pairs

pub returns-in-Err-DeviceFault-clause-slot : goal.returns-in-Err-DeviceFault-clause-slot
returns-in-Err-DeviceFault-clause-slot g c =
    unopened_device Session g.B.Bench.tells c.in-Err-DeviceFault.field-0 (g.B.Bench.state c.args.bench.now) (g.B.Bench.state c.open.new.bench)
    c.in-Err-DeviceFault.field-0-is c.in-Err-DeviceFault.ensures.refused c.in-Err-DeviceFault.ensures.sound
    c.in-Err-DeviceFault.ensures.store c.in-Err-DeviceFault.ensures.device

pub survey_slot-requires-clause-stands : goal.survey_slot-requires-clause-stands
survey_slot-requires-clause-stands g c = λ told.
    subst (λ (f : List ℕ). StandsFor (job_in c.in-Ok.session) f) (sym (c.open.ensures.file told)) (c.in-Ok.ensures.ok told)

pub returns-in-Ok-clause-first : goal.returns-in-Ok-clause-first
returns-in-Ok-clause-first g c = syncs_then c.in-Ok.ensures.first (λ is. absurd (false≢true is)) (λ told. c.survey_slot.ensures.pairs.files)

pub returns-in-Err-DeviceFault-clause-first : goal.returns-in-Err-DeviceFault-clause-first
returns-in-Err-DeviceFault-clause-first g c = syncs_as (rw c.in-Err-DeviceFault.field-0-is at c.in-Err-DeviceFault.ensures.first) (λ is. absurd (false≢true is))

pub returns-in-Err-Open-clause-first : goal.returns-in-Err-Open-clause-first
returns-in-Err-Open-clause-first g c = rw c.in-Err-Open.field-0-is
    (syncs_as (rw c.in-Err-Open.field-0-is at c.in-Err-Open.ensures.first)
    (λ is. ap (λ (f : OpenFault). opened_as (slot.Refused (ended.Open (session.Open f)))) (is_open_fault c.in-Err-Open.fault is)))

pub returns-in-Err-OutOfMemory-clause-first : goal.returns-in-Err-OutOfMemory-clause-first
returns-in-Err-OutOfMemory-clause-first g c = syncs_as c.open.ensures.first (λ is. grind (arith, common_steps))
