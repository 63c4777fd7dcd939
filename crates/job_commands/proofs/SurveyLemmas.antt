-- A session was opened (a to b); then it was surveyed, or its survey failed (b to m).
use Rattle.std.proofs.Common.{◌≡◌, ◌⊎◌, ◌∙◌, refl, sym, ap, subst, ℕ, Bool, IsTrue, List, ◌∷◌, drop, Option, Some, None, IfSome, IsSomeAnd, Result, Ok, Err}
use Rattle.outside_io.specs.State.{SinkState}
use Rattle.bench_model.specs.History.{left}
use Rattle.bench_model.specs.State.{BenchState, cells_half, Left, SameOutside}
use Rattle.bench_model.specs.Calls.{IsRead}
use Rattle.bench_model.specs.Pairs.{PairsLeave}
use Rattle.bench_model.proofs.Moments.{adds_nothing_then, leaves_as}
use Rattle.outside_io.specs.declared.sink.OutputFault.{OutputFault}
use Rattle.outside_io.specs.Puts.{Puts}
use Rattle.job_text.specs.Files.{IsWhole}
use Rattle.job_text.specs.Stands.{StandsFor, snapshot_in}
use Rattle.job_text.specs.declared.job.Job as code
use Rattle.job_text.proofs.ClassLemmas.{some_job}
use Rattle.flash_session.specs.declared.fault.SurveyFault.{SurveyFault}
use Rattle.flash_session.specs.declared.goal.Goal.{Goal}
use Rattle.flash_session.specs.Surveys.{Surveyed, HasSurveyed}
use Rattle.report_text.specs.Refusal.{output_fault}
use Rattle.command_files.specs.Call.{SinkCall, Answer, refused, bench_call, sink_call}
use Rattle.job_commands.specs.Opened.{IsOpened}
use Rattle.job_commands.specs.Work.{Work, body, plans_shown, shown_plan}
use Rattle.job_commands.specs.GoOn.{GoesOnFrom}
use Rattle.job_commands.specs.Steps.{session_work, Finishes}
use Rattle.job_commands.specs.Refused.{of_survey}
use Rattle.job_commands.specs.Carry.{BrokenOff}
use Rattle.job_commands.proofs.TurnLemmas.{off_from}
use Rattle.job_commands.proofs.CarryLemmas.{entered, looked, ends_in_plan, ends_finished}
use Rattle.job_commands.proofs.FinishLemmas.{plans_are}
use Rattle.job_commands.proofs.OpenLemmas.{only_stands, refuses_survey}

-- a file that stands for a job is whole for the bytes after its gate
pub whole_behind : (text file : List ℕ) → IsWhole text file → IsWhole (drop 1 file) file
whole_behind text file whole = subst (λ (f : List ℕ). f ≡ 165 ∷ drop 1 f) (sym whole) refl

module _ (tells sinks : Bool) (told : IsTrue tells) (a b m : BenchState) (goal : Goal) (j : code.Job) (was : IsOpened a b j) (idle : b.operation ≡ None)
    (alone : (x : List ℕ) → left (cells_half b) x → SameOutside b.operation b.cells x) (reads : IsRead tells b m) (pairs : PairsLeave b m (Left b)) where
  abbrev w : Work
  w = session_work goal j was.stands.text m.cells

  outside : SameOutside a.operation a.cells m.cells
  outside = subst (λ (x : List ℕ). SameOutside a.operation a.cells x) (sym (reads.cells.cells told)) was.same

  file_is : m.file ≡ a.file
  file_is = reads.file.file told ∙ was.file

  its_pairs : PairsLeave a m (λ f c. Left a f c ⊎ IsWhole (body w) f)
  its_pairs = looked (body w) was.stands.whole was.only was.pairs pairs

  -- the operation was broken off at b at the latest: from b on the cells stay the same
  off : BrokenOff a m m.cells
  off = off_from a m m.cells outside (entered a m was.exact (adds_nothing_then was.halves reads.cells.moments)) b (entered a b was.exact was.halves)
      (leaves_as (left (cells_half b)) (λ c. c ≡ m.cells)
      (λ c at. subst (λ (o : Option (ℕ × ℕ)). SameOutside o b.cells c) idle (alone c at) ∙ sym (reads.cells.cells told)) reads.cells.moments)

  still_idle : m.operation ≡ None
  still_idle = reads.cells.operation told ∙ idle

  -- the survey failed
  pub unsurveyed : (p : SinkState) (fault : SurveyFault) → GoesOnFrom goal (bench_call tells a m) (sink_call sinks p p) (refused (of_survey fault))
  unsurveyed p fault = only_stands tells a m (sink_call sinks p p) goal (refused (of_survey fault)) (some_job j a.file was.stands) was.sized m.cells
      (refuses_survey tells sinks a m p w was.stands.whole outside file_is outside its_pairs off fault)

  -- The survey found `o`.
  module _ (o : Option Surveyed) (found : IsSomeAnd o (λ v. HasSurveyed tells j goal b.file b.cells v)) where
    pub found_here : IsSomeAnd o (λ v. HasSurveyed tells j goal m.file m.cells v)
    found_here = subst (λ (f : List ℕ). IsSomeAnd o (λ v. HasSurveyed tells j goal f m.cells v)) (sym (reads.file.file told))
        (subst (λ (c : List ℕ). IsSomeAnd o (λ v. HasSurveyed tells j goal b.file c v)) (sym (reads.cells.cells told)) found)

    -- the plans that were put are the chosen ones
    shown_from : (v : Surveyed) → HasSurveyed tells j goal m.file m.cells v → plans_shown v.regions ≡ shown_plan w
    shown_from v has = ap plans_shown
        (plans_are tells told j goal was.stands.text was.stands.image m.file (was.stands.snapshot ∙ ap (λ (f : List ℕ). snapshot_in j f) (sym file_is)) m.cells
        v has)

    put_from : (q : Option Surveyed) (p r : SinkState) (result : Result (Unit {0}) OutputFault) → IsSomeAnd q (λ v. HasSurveyed tells j goal m.file m.cells v)
        → IfSome q (λ v. Puts sinks p r (plans_shown v.regions) result) → Puts sinks p r (shown_plan w) result
    put_from None p r result has puts = absurd has
    put_from (Some v) p r result has puts = subst (λ (text : List ℕ). Puts sinks p r text result) (shown_from v has) puts

    pub cut_in_plan : (p q : SinkState) (e : OutputFault) → IfSome o (λ v. Puts sinks p q (plans_shown v.regions) (Err e))
        → GoesOnFrom goal (bench_call tells a m) (sink_call sinks p q) (refused output_fault)
    cut_in_plan p q e put =
        let puts = put_from o p q (Err e) found_here put in
        only_stands tells a m (sink_call sinks p q) goal (refused output_fault) (some_job j a.file was.stands) was.sized m.cells
        (ends_in_plan tells sinks a m p w was.stands.whole outside file_is outside its_pairs off q refl still_idle
        (record { taken = puts.err; later = puts.cause.later; rose = puts.cause.on_fault refl }))

    -- the rest of the work is on the same job
    finished_as : (k : code.Job) (d : BenchState) (out : SinkCall) (answer : Answer) → k ≡ j
        → ((s : StandsFor k m.file) → IsSomeAnd o (λ v. HasSurveyed tells k goal m.file m.cells v)
        → Finishes (bench_call tells m d) out (session_work goal k s.text m.cells) answer)
        → Finishes (bench_call tells m d) out w answer
    finished_as k d out answer is finishes =
        subst (λ (i : code.Job). (s : StandsFor i m.file) → IsSomeAnd o (λ v. HasSurveyed tells i goal m.file m.cells v)
        → Finishes (bench_call tells m d) out (session_work goal i s.text m.cells) answer) is finishes
        (record {
          text = was.stands.text;
          is = was.stands.is;
          whole = file_is ∙ was.stands.whole;
          image = was.stands.image;
          snapshot = was.stands.snapshot
              ∙ ap (λ (f : List ℕ). snapshot_in j f) (sym file_is);
        })
        found_here

    pub finished : (k : code.Job) (d : BenchState) (p q r : SinkState) (answer : Answer) → k ≡ j → (u : Unit {0})
        → IfSome o (λ v. Puts sinks p q (plans_shown v.regions) (Ok u))
        → ((s : StandsFor k m.file) → IsSomeAnd o (λ v. HasSurveyed tells k goal m.file m.cells v)
        → Finishes (bench_call tells m d) (sink_call sinks q r) (session_work goal k s.text m.cells) answer)
        → GoesOnFrom goal (bench_call tells a d) (sink_call sinks p r) answer
    finished k d p q r answer is u put finishes =
        let puts = put_from o p q (Ok u) found_here put in
        only_stands tells a d (sink_call sinks p r) goal answer (some_job j a.file was.stands) was.sized m.cells
        (ends_finished tells sinks a m d p q r w outside (record { taken = puts.ok; faults = puts.cause.on_ok refl }) (Left a) answer its_pairs off still_idle
        (finished_as k d (sink_call sinks q r) answer is finishes))
