-- What the class of the file at entry means for the answer.
use Rattle.std.proofs.Common.{◌≡◌, ◌⊎◌, inl, inr, refl, ◌∙◌, ℕ, Bool, true, List, Err, sym, ap, subst}
use Rattle.outside_io.specs.State.{SinkState}
use Rattle.bench_model.specs.State.{BenchState, Left, SameOutside}
use Rattle.bench_model.specs.Calls.{OnlyReads}
use Rattle.bench_model.specs.Pairs.{PairsLeave}
use Rattle.board_file.specs.Limits.{size_of}
use Rattle.board_file.specs.Shown as board
use Rattle.flm_descriptor.specs.Shown as flm
use Rattle.job_text.specs.Files.{IsWhole}
use Rattle.job_text.specs.Body.{Job, body_of}
use Rattle.job_text.specs.Stands.{IsSomeJob}
use Rattle.job_text.proofs.ClassLemmas.{never_jobs}
use Rattle.job_file.specs.declared.fault.OpenFault.TheVariants as opening
use Rattle.flash_session.specs.declared.fault.SessionFault.{SessionFault}
use Rattle.flash_session.specs.declared.fault.SessionFault.TheVariants as session
use Rattle.flash_session.specs.declared.fault.SurveyFault.{SurveyFault}
use Rattle.flash_session.specs.declared.fault.SurveyFault.TheVariants as survey
use Rattle.flash_session.specs.declared.session.Session.{Session}
use Rattle.flash_session.specs.declared.goal.Goal.{Goal}
use Rattle.flash_session.specs.Opened.{IsSessionFault, ReadsIfRefused}
use Rattle.report_text.specs.Refusal.{Refusal, not_a_job, out_of_memory, store_fault, device_fault}
use Rattle.command_files.specs.Call.{BenchCall, SinkCall, Answer, refused, bench_call, sink_call}
use Rattle.command_files.specs.Said.{TookNothing}
use Rattle.command_files.specs.Answered.{OnlyLooked, StandsEarly, yields, on_job_file}
use Rattle.command_files.proofs.FileLemmas.{not_free, damaged_open, one_reason, one_kept, one_found, one_job}
use Rattle.job_commands.specs.Work.{Work, body}
use Rattle.job_commands.specs.Carry.{Carries, BrokenOff}
use Rattle.job_commands.specs.GoOn.{work_to, GoesOnFrom}
use Rattle.job_commands.specs.Refused.{of_session, of_survey}
use Rattle.job_commands.proofs.CarryLemmas.{no_memory, no_store, no_device, opened}

-- where the file stands for a job of as many cells as the bench has, it is enough to show the work on this job
pub only_stands : (tells : Bool) (a d : BenchState) (out : SinkCall) (goal : Goal) (answer : Answer) (some : IsSomeJob a.file)
    → size_of some.board.regions ≡ a.cell_count
    → (surveyed : List ℕ) → Carries (bench_call tells a d) out (Left a) (work_to goal some.job some.board some.algorithms surveyed) answer
    → GoesOnFrom goal (bench_call tells a d) out answer
only_stands tells a d out goal answer some size surveyed carries = record {
  free = λ is_free. absurd (not_free some.job a.file some.whole is_free);
  not_job = λ at is. absurd (is.none.no_job some.job some.board some.algorithms some.is some.whole);
  is_damaged = λ kept found is. absurd (never_jobs a.file kept found is some.job some.board some.algorithms some.is some.whole);
  other_size = λ other unequal. absurd (unequal (ap (λ (b : board.Shown). size_of b.regions) (one_job a.file other.is some.is other.whole some.whole).board
      ∙ size));
  stands = λ job b xs is whole same.
      let one = one_job a.file some.is is some.whole whole in (
        surveyed,
        subst (λ (k : Job). Carries (bench_call tells a d) out (Left a) (work_to goal k b xs surveyed) answer) one.job
            (subst (λ (c : board.Shown). Carries (bench_call tells a d) out (Left a) (work_to goal some.job c xs surveyed) answer) one.board
            (subst (λ (ys : List flm.Shown). Carries (bench_call tells a d) out (Left a) (work_to goal some.job some.board ys surveyed) answer) one.algorithms
            carries)),
      );
}

-- A session that could not be opened.
module _ (tells sinks : Bool) (a b : BenchState) (p : SinkState) (goal : Goal) where
  nothing : TookNothing (sink_call sinks p p)
  nothing = record { taken = refl; faults = refl }

  only_looked : OnlyReads tells a b → OnlyLooked (bench_call tells a b) (sink_call sinks p p)
  only_looked reads = record { reads = λ told. reads; prints = nothing }

  pub open_stands : (fault : SessionFault) → ReadsIfRefused {T = Session} tells a b (Err fault)
      → StandsEarly on_job_file (bench_call tells a b) (sink_call sinks p p) (refused (of_session fault))
  open_stands session.OutOfMemory reads = nothing
  open_stands (session.Open opening.OutOfMemory) reads = nothing
  open_stands (session.Open opening.StoreFault) reads = tt
  open_stands session.DeviceFault reads = tt
  open_stands fault reads = only_looked reads

  module _ (file : b.file ≡ a.file) (same : SameOutside a.operation a.cells b.cells) (pairs : PairsLeave a b (Left a)) (off : BrokenOff a b b.cells) where
    -- a refusal that may come with any file, where file and cells were only looked at
    looked : (r : Refusal) → yields (refused r) ≡ true → OnlyReads tells a b
        → ((job : Job) (c : board.Shown) (xs : List flm.Shown) → IsWhole (body_of job) a.file
        → Carries (bench_call tells a b) (sink_call sinks p p) (Left a) (work_to goal job c xs b.cells) (refused r))
        → GoesOnFrom goal (bench_call tells a b) (sink_call sinks p p) (refused r)
    looked r one reads carries = record {
      free = λ is_free. inr (one, only_looked reads);
      not_job = λ at no. inr (one, only_looked reads);
      is_damaged = λ kept found damage. inr (one, only_looked reads);
      other_size = λ some unequal. inr (one, only_looked reads);
      stands = λ job c xs is_job whole size. (b.cells, carries job c xs whole);
    }

    pub refuses_open : (fault : SessionFault) → IsSessionFault a.file a.cell_count fault → ReadsIfRefused {T = Session} tells a b (Err fault)
        → GoesOnFrom goal (bench_call tells a b) (sink_call sinks p p) (refused (of_session fault))
    refuses_open session.OutOfMemory is reads = looked out_of_memory refl reads
        (λ job c xs whole. no_memory tells sinks a b p (work_to goal job c xs b.cells) whole same file same (opened (body_of job) pairs) off)
    refuses_open (session.Open opening.OutOfMemory) is reads = absurd is
    refuses_open (session.Open opening.StoreFault) is reads = looked store_fault refl reads
        (λ job c xs whole. no_store tells sinks a b p (work_to goal job c xs b.cells) whole same file same (opened (body_of job) pairs) off)
    refuses_open session.DeviceFault is reads =
        only_stands tells a b (sink_call sinks p p) goal (refused device_fault) is.some is.size b.cells
        (no_device tells sinks a b p (work_to goal is.some.job is.some.board is.some.algorithms b.cells) is.some.whole same file same
        (opened (body_of is.some.job) pairs) off)
    refuses_open (session.Open opening.NoJob) is reads = record {
      free = λ is_free. inl refl;
      not_job = λ at no. absurd (no.none.not_free is);
      is_damaged = λ kept found damage. absurd (damaged_open a.file kept found damage is);
      other_size = λ some unequal. absurd (not_free some.job a.file some.whole is);
      stands = λ job c xs is_job whole size. absurd (not_free job a.file whole is);
    }
    refuses_open (session.Open (opening.NotAJob at)) is reads = record {
      free = λ is_free. absurd (is.none.not_free is_free);
      not_job = λ other no. inl (ap (λ (n : ℕ). refused (not_a_job n)) (one_reason a.file at other is no));
      is_damaged = λ kept found damage. absurd (is.whole kept found damage);
      other_size = λ some unequal. absurd (is.none.no_job some.job some.board some.algorithms some.is some.whole);
      stands = λ job c xs is_job whole size. absurd (is.none.no_job job c xs is_job whole);
    }
    refuses_open (session.Open (opening.Damaged kept found)) is reads = record {
      free = λ is_free. absurd (is.none.not_free is_free);
      not_job = λ at no. absurd (no.whole kept found is.damaged);
      is_damaged = λ kept' found' too.
          let same_kept = one_kept a.file kept found kept' found' is.damaged too in
          let same_found = one_found a.file kept found kept' found' is.damaged too in
          inl (cc);
      other_size = λ some unequal. absurd (is.none.no_job some.job some.board some.algorithms some.is some.whole);
      stands = λ job c xs is_job whole size. absurd (is.none.no_job job c xs is_job whole);
    }
    refuses_open (session.Open (opening.CellsDiffer said found)) is reads = record {
      free = λ is_free. absurd (not_free is.some.job a.file is.some.whole is_free);
      not_job = λ at no. absurd (no.none.no_job is.some.job is.some.board is.some.algorithms is.some.is is.some.whole);
      is_damaged = λ kept was damage. absurd (never_jobs a.file kept was damage is.some.job is.some.board is.some.algorithms is.some.is is.some.whole);
      other_size = λ some unequal.
          let one = one_job a.file is.some.is some.is is.some.whole some.whole in
          let said_is : said ≡ size_of some.board.regions = is.said_is ∙ ap (λ (y : board.Shown). size_of y.regions) one.board in
          let found_is : found ≡ a.cell_count = is.found_is in
          inl (cc);
      stands = λ job c xs is_job whole size.
          let one = one_job a.file is.some.is is_job is.some.whole whole in
          absurd (is.differ (is.said_is ∙ ap (λ (y : board.Shown). size_of y.regions) one.board ∙ size ∙ sym is.found_is));
    }

-- a survey that failed ends the work
pub refuses_survey : (tells sinks : Bool) (a m : BenchState) (p : SinkState) (w : Work) → IsWhole (body w) a.file → SameOutside a.operation a.cells w.surveyed
    → m.file ≡ a.file
    → SameOutside a.operation a.cells m.cells → PairsLeave a m (λ f c. Left a f c ⊎ IsWhole (body w) f) → BrokenOff a m w.surveyed
    → (fault : SurveyFault) → Carries (bench_call tells a m) (sink_call sinks p p) (Left a) w (refused (of_survey fault))
refuses_survey tells sinks a m p w whole surveyed same outside pairs off survey.OutOfMemory =
    no_memory tells sinks a m p w whole surveyed same outside pairs off
refuses_survey tells sinks a m p w whole surveyed same outside pairs off survey.DeviceFault =
    no_device tells sinks a m p w whole surveyed same outside pairs off
refuses_survey tells sinks a m p w whole surveyed same outside pairs off survey.StoreFault = no_store tells sinks a m p w whole surveyed same outside pairs off

pub survey_stands : (bench : BenchCall) (out : SinkCall) (fault : SurveyFault) → TookNothing out → StandsEarly on_job_file bench out (refused (of_survey fault))
survey_stands bench out survey.OutOfMemory none = none
survey_stands bench out fault none = tt
