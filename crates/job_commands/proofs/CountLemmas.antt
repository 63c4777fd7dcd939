-- The counts of faults of the work on a job. By them each command knows whether a fault was counted.
use Rattle.std.proofs.Common.{◌≡◌, ◌≤◌, ◌<◌, ◌∙◌, ⊎_elim, refl, sym, ap, subst, arith, ℕ, Bool, false, List, Option, Some, None, IfSome, IsSomeAnd, Ok, Err}
use Rattle.std.proofs.lemmas.Bool.{cases_lt}
use Rattle.faults.specs.Counts.{Rose}
use Rattle.outside_io.specs.State.{SinkState}
use Rattle.outside_io.specs.declared.sink.OutputFault.{OutputFault}
use Rattle.outside_io.specs.Puts.{Puts}
use Rattle.bench_model.specs.State.{BenchState}
use Rattle.bench_model.specs.Counted as bench
use Rattle.bench_model.specs.Counted.{is_store_fault, is_device_fault}
use Rattle.flash_session.specs.declared.fault.SurveyFault.{SurveyFault}
use Rattle.flash_session.specs.declared.fault.SurveyFault.TheVariants as survey
use Rattle.flash_session.specs.Surveys.{Surveyed, survey_fault}
use Rattle.flash_session.specs.declared.fault.SessionFault.{SessionFault}
use Rattle.flash_session.specs.declared.fault.SessionFault.TheVariants as session
use Rattle.flash_session.specs.Opened.{session_fault}
use Rattle.job_file.specs.declared.fault.OpenFault.{OpenFault}
use Rattle.job_file.specs.declared.fault.OpenFault.TheVariants as opening
use Rattle.job_file.specs.declared.fault.BeginFault.{BeginFault}
use Rattle.job_file.specs.declared.fault.BeginFault.TheVariants as beginning
use Rattle.job_file.specs.Counted.{open_fault, begin_fault}
use Rattle.report_text.specs.Refusal.{Refusal, input_fault, no_job, store_fault, output_fault}
use Rattle.report_text.specs.Refused.{of_open}
use Rattle.command_files.specs.Inputs.{InputsCall, NoneFailed}
use Rattle.command_files.specs.Call.{BenchCall, SinkCall, Answer, done, refused, bench_call, sink_call}
use Rattle.command_files.specs.Answered.{Fault, input, store, device, output, fault_in, IsCounted, StandsEarly, IsOf, EndsLawfully, on_job_file}
use Rattle.command_files.proofs.AnswerLemmas.{unraised, never_input}
use Rattle.job_commands.specs.Steps.{BenchCounted, begun}
use Rattle.job_commands.specs.Refused.{of_session, of_survey, of_begin}

-- the work after the files were taken, of a command that may take files
pub worked_lawful : (bench : BenchCall) (inputs : InputsCall) (out : SinkCall) (has its : Refusal → Bool) (names : List (List ℕ)) (answer : Answer)
    → IsOf has answer → IsOf its answer → ((name : List ℕ) → its (input_fault name) ≡ false) → NoneFailed inputs
    → BenchCounted bench out answer → StandsEarly on_job_file bench out answer → EndsLawfully on_job_file bench inputs out has names answer
worked_lawful bench inputs out has its names answer kind one none same counts stands = record {
  kind = kind;
  counts = record {
    inputs_count = unraised inputs.before.faults inputs.after.faults input answer same.faults (never_input its none answer one);
    store_count = counts.store_count;
    device_count = counts.device_count;
    out_count = counts.out_count;
  };
  stands = stands;
  untaken = λ name is. absurd (never_input its none answer one (ap fault_in is));
  none_failed = λ told no. same.failed told;
}

-- a count that stays where nothing is refused
pub uncounted : (before after : ℕ) (fault : Fault) → IsCounted before after fault done → after ≡ before
uncounted before after fault counted = ⊎_elim
    (λ (more : before < after). absurd (let none : None ≡ Some fault = counted.answered more in cc))
    (λ (no : after ≤ before). omega (arith, no, counted.later))
    (cases_lt before after)

same_fault : (answer : Answer) → fault_in (begun answer) ≡ fault_in answer
same_fault (refused no_job) = refl
same_fault answer = refl

counted_then : (first before after : ℕ) (fault : Fault) (answer : Answer) → before ≡ first → IsCounted before after fault answer
    → IsCounted first after fault (begun answer)
counted_then first before after fault answer same one = record {
  later = omega (arith, same, one.later);
  only = λ is. subst (λ (n : ℕ). Rose n after) same (one.only (sym (same_fault answer) ∙ is));
  answered = λ more. same_fault answer ∙ one.answered (omega (arith, same, more));
}

-- a job was begun without a counted fault, and then carried
pub begun_counted : (tells : Bool) (a b d : BenchState) (out : SinkCall) (answer : Answer) → b.store_faults ≡ a.store_faults → b.device_faults ≡ a.device_faults
    → BenchCounted (bench_call tells b d) out answer → BenchCounted (bench_call tells a d) out (begun answer)
begun_counted tells a b d out answer stores devices counts = record {
  store_count = counted_then a.store_faults b.store_faults d.store_faults _ answer stores counts.store_count;
  device_count = counted_then a.device_faults b.device_faults d.device_faults _ answer devices counts.device_count;
  out_count = counted_then out.before.faults out.before.faults out.after.faults _ answer refl counts.out_count;
}

-- a count that rose with its fault, after calls that left it as it was
raised_here : (first before after : ℕ) (fault : Fault) (answer : Answer) → before ≡ first → Rose before after → before ≤ after → fault_in answer ≡ Some fault
    → IsCounted first after fault answer
raised_here first before after fault answer same rose later is = record {
  later = omega (arith, same, later);
  only = λ its. subst (λ (n : ℕ). Rose n after) same rose;
  answered = λ more. is;
}

-- a job was begun without a counted fault; then a line was put, or the output failed
module _ (tells sinks : Bool) (a b : BenchState) (p r : SinkState) (one : BenchCounted (bench_call tells a b) (sink_call sinks p p) done) where
  pub put_counted : r.faults ≡ p.faults → BenchCounted (bench_call tells a b) (sink_call sinks p r) done
  put_counted same = record {
    store_count = one.store_count;
    device_count = one.device_count;
    out_count =
        unraised p.faults r.faults output done same (λ is. cc);
  }

  pub unput_counted : Rose p.faults r.faults → p.faults ≤ r.faults → BenchCounted (bench_call tells a b) (sink_call sinks p r) (refused output_fault)
  unput_counted rose later =
      let answer = refused output_fault in
      record {
        store_count = unraised a.store_faults b.store_faults store answer (uncounted a.store_faults b.store_faults store one.store_count)
            (λ its. let same : output ≡ store = cc in cc);
        device_count = unraised a.device_faults b.device_faults device answer (uncounted a.device_faults b.device_faults device one.device_count)
            (λ its. let same : output ≡ device = cc in cc);
        out_count = raised_here p.faults p.faults r.faults output answer refl rose later refl;
      }

-- a session was opened without a counted fault, and then came other calls
pub counted_behind : (tells : Bool) (a b d : BenchState) (out : SinkCall) (answer : Answer) → b.store_faults ≡ a.store_faults
    → b.device_faults ≡ a.device_faults
    → BenchCounted (bench_call tells b d) out answer → BenchCounted (bench_call tells a d) out answer
counted_behind tells a b d out answer stores devices counts = record {
  store_count = subst (λ (n : ℕ). IsCounted n d.store_faults store answer) stores counts.store_count;
  device_count = subst (λ (n : ℕ). IsCounted n d.device_faults device answer) devices counts.device_count;
  out_count = counts.out_count;
}

-- A call on the bench counted the fault that it answered, and nothing was put.

abbrev fault_of : Option bench.BenchFault → Option Fault
fault_of None = None
fault_of (Some bench.store) = Some store
fault_of (Some bench.device) = Some device

pub call_counted : (tells sinks : Bool) (a b : BenchState) (o : SinkState) (was : Option bench.BenchFault) (answer : Answer)
    → bench.IsCounted a.store_faults b.store_faults (is_store_fault was) → bench.IsCounted a.device_faults b.device_faults (is_device_fault was)
    → fault_in answer ≡ fault_of was → BenchCounted (bench_call tells a b) (sink_call sinks o o) answer
call_counted tells sinks a b o None answer stores devices is = record {
  store_count = unraised a.store_faults b.store_faults store answer (stores.on_other refl) (λ its. let none : None ≡ Some store = sym is ∙ its in cc);
  device_count = unraised a.device_faults b.device_faults device answer (devices.on_other refl) (λ its. let none : None ≡ Some device = sym is ∙ its in cc);
  out_count = unraised o.faults o.faults output answer refl (λ its. let none : None ≡ Some output = sym is ∙ its in cc);
}
call_counted tells sinks a b o (Some bench.store) answer stores devices is = record {
  store_count = raised_here a.store_faults a.store_faults b.store_faults store answer refl (stores.on_fault refl) stores.later is;
  device_count = unraised a.device_faults b.device_faults device answer (devices.on_other refl)
      (λ its. let both : Some store ≡ Some device = sym is ∙ its in let same : store ≡ device = cc in cc);
  out_count = unraised o.faults o.faults output answer refl
      (λ its. let both : Some store ≡ Some output = sym is ∙ its in let same : store ≡ output = cc in cc);
}
call_counted tells sinks a b o (Some bench.device) answer stores devices is = record {
  store_count = unraised a.store_faults b.store_faults store answer (stores.on_other refl)
      (λ its. let both : Some device ≡ Some store = sym is ∙ its in let same : device ≡ store = cc in cc);
  device_count = raised_here a.device_faults a.device_faults b.device_faults device answer refl (devices.on_fault refl) devices.later is;
  out_count = unraised o.faults o.faults output answer refl
      (λ its. let both : Some device ≡ Some output = sym is ∙ its in let same : device ≡ output = cc in cc);
}

-- a session's survey failed
survey_is : (fault : SurveyFault) → fault_in (refused (of_survey fault)) ≡ fault_of (survey_fault fault)
survey_is survey.OutOfMemory = refl
survey_is survey.DeviceFault = refl
survey_is survey.StoreFault = refl

pub survey_counted : (tells sinks : Bool) (b m : BenchState) (p : SinkState) (fault : SurveyFault)
    → bench.IsCounted b.store_faults m.store_faults (is_store_fault (survey_fault fault))
    → bench.IsCounted b.device_faults m.device_faults (is_device_fault (survey_fault fault))
    → BenchCounted (bench_call tells b m) (sink_call sinks p p) (refused (of_survey fault))
survey_counted tells sinks b m p fault stores devices =
    call_counted tells sinks b m p (survey_fault fault) (refused (of_survey fault)) stores devices (survey_is fault)

-- no session was opened
open_is : (fault : OpenFault) → fault_in (refused (of_open fault)) ≡ fault_of (open_fault fault)
open_is opening.OutOfMemory = refl
open_is opening.NoJob = refl
open_is (opening.NotAJob at) = refl
open_is (opening.Damaged kept found) = refl
open_is opening.StoreFault = refl
open_is (opening.CellsDiffer said found) = refl

session_is : (fault : SessionFault) → fault_in (refused (of_session fault)) ≡ fault_of (session_fault fault)
session_is session.OutOfMemory = refl
session_is (session.Open fault) = open_is fault
session_is session.DeviceFault = refl

pub session_counted : (tells sinks : Bool) (a b : BenchState) (o : SinkState) (fault : SessionFault)
    → bench.IsCounted a.store_faults b.store_faults (is_store_fault (session_fault fault))
    → bench.IsCounted a.device_faults b.device_faults (is_device_fault (session_fault fault))
    → BenchCounted (bench_call tells a b) (sink_call sinks o o) (refused (of_session fault))
session_counted tells sinks a b o fault stores devices =
    call_counted tells sinks a b o (session_fault fault) (refused (of_session fault)) stores devices (session_is fault)

-- no job was begun
begin_is : (fault : BeginFault) → fault_in (refused (of_begin fault)) ≡ fault_of (begin_fault fault)
begin_is beginning.OutOfMemory = refl
begin_is beginning.JobOpen = refl
begin_is beginning.StoreFault = refl
begin_is beginning.DeviceFault = refl
begin_is (beginning.CellsDiffer said found) = refl
begin_is (beginning.NotAJob at) = refl
begin_is (beginning.Damaged kept found) = refl

pub begin_counted : (tells sinks : Bool) (a b : BenchState) (o : SinkState) (fault : BeginFault)
    → bench.IsCounted a.store_faults b.store_faults (is_store_fault (begin_fault fault))
    → bench.IsCounted a.device_faults b.device_faults (is_device_fault (begin_fault fault))
    → BenchCounted (bench_call tells a b) (sink_call sinks o o) (refused (of_begin fault))
begin_counted tells sinks a b o fault stores devices =
    call_counted tells sinks a b o (begin_fault fault) (refused (of_begin fault)) stores devices (begin_is fault)

-- calls on the bench counted nothing
pub none_counted : (tells sinks : Bool) (a b : BenchState) (o : SinkState) → b.store_faults ≡ a.store_faults → b.device_faults ≡ a.device_faults
    → BenchCounted (bench_call tells a b) (sink_call sinks o o) done
none_counted tells sinks a b o stores devices = record {
  store_count = unraised a.store_faults b.store_faults store done stores (λ its. cc);
  device_count = unraised a.device_faults b.device_faults device done devices (λ its. cc);
  out_count = unraised o.faults o.faults output done refl (λ its. cc);
}

-- the script was played without a counted fault; then the job couldn't be closed
pub unclosed_counted : (tells sinks : Bool) (a m b : BenchState) (o : SinkState) → m.store_faults ≡ a.store_faults → b.device_faults ≡ a.device_faults
    → Rose m.store_faults b.store_faults → m.store_faults ≤ b.store_faults
    → BenchCounted (bench_call tells a b) (sink_call sinks o o) (refused store_fault)
unclosed_counted tells sinks a m b o stores devices rose later =
    let answer = refused store_fault in
    record {
      store_count = raised_here a.store_faults m.store_faults b.store_faults store answer stores rose later refl;
      device_count = unraised a.device_faults b.device_faults device answer devices (λ its. let same : store ≡ device = cc in cc);
      out_count = unraised o.faults o.faults output answer refl (λ its. let same : store ≡ output = cc in cc);
    }

-- A session was surveyed without a counted fault; then its plans were put.
module _ (tells sinks : Bool) (a m : BenchState) (o p : SinkState) (text : Surveyed → List ℕ) (P : Surveyed → Type 0) (stores : m.store_faults ≡ a.store_faults)
    (devices : m.device_faults ≡ a.device_faults) where
  pub cut_counted : (found : Option Surveyed) (e : OutputFault) → IsSomeAnd found P → IfSome found (λ v. Puts sinks o p (text v) (Err e))
      → BenchCounted (bench_call tells a m) (sink_call sinks o p) (refused output_fault)
  cut_counted None e some puts = absurd some
  cut_counted (Some v) e some puts =
      let answer = refused output_fault in
      record {
        store_count = unraised a.store_faults m.store_faults store answer stores (λ its. let same : output ≡ store = cc in cc);
        device_count = unraised a.device_faults m.device_faults device answer devices (λ its. let same : output ≡ device = cc in cc);
        out_count = raised_here o.faults o.faults p.faults output answer refl (puts.cause.on_fault refl) puts.cause.later refl;
      }

  pub carried_counted : (found : Option Surveyed) (u : Unit {0}) → IsSomeAnd found P → IfSome found (λ v. Puts sinks o p (text v) (Ok u))
      → (n : BenchState) (q : SinkState) (answer : Answer) → BenchCounted (bench_call tells m n) (sink_call sinks p q) answer
      → BenchCounted (bench_call tells a n) (sink_call sinks o q) answer
  carried_counted None u some puts n q answer counts = absurd some
  carried_counted (Some v) u some puts n q answer counts = record {
    store_count = subst (λ (k : ℕ). IsCounted k n.store_faults store answer) stores counts.store_count;
    device_count = subst (λ (k : ℕ). IsCounted k n.device_faults device answer) devices counts.device_count;
    out_count = subst (λ (k : ℕ). IsCounted k q.faults output answer) (puts.cause.on_ok refl) counts.out_count;
  }
