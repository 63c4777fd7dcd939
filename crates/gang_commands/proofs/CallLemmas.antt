-- What the answers of a gang say of its status and of each bench.
use Rattle.std.proofs.Common.{◌≡◌, ⊎_elim, inl, inr, ◌<◌, ◌∙◌, refl, sym, ap, subst, arith, ℕ, zero, suc, false, IsTrue, List, []}
use Rattle.std.proofs.Common.{◌∷◌, length, get_or, Option, Some, None}
use Rattle.std.proofs.lemmas.List.{length-map}
use Rattle.faults.specs.Counts.{Rose}
use Rattle.bench_model.specs.declared.bench.Bench.{Ghosts}
use Rattle.bench_model.specs.Counted.{is_store_fault, is_device_fault, IsCounted}
use Rattle.bench_model.specs.State.{BenchState}
use Rattle.board_file.specs.Limits.{size_of}
use Rattle.board_file.specs.Shown as board
use Rattle.flm_descriptor.specs.Shown as flm
use Rattle.algo_calls.specs.Duties.{AllServe}
use Rattle.job_text.specs.Said.{algorithms_shown}
use Rattle.job_text.specs.Stands.{StandsFor}
use Rattle.job_text.specs.declared.job.Job.{Job}
use Rattle.job_file.specs.declared.fault.OpenFault.TheVariants as opening
use Rattle.flash_session.specs.declared.session.SessionEnd.{SessionEnd}
use Rattle.flash_session.specs.declared.session.SessionEnd.TheVariants as end
use Rattle.flash_session.specs.declared.fault.SessionFault.{SessionFault}
use Rattle.flash_session.specs.declared.fault.SessionFault.TheVariants as session
use Rattle.flash_session.specs.declared.fault.SurveyFault.{SurveyFault}
use Rattle.flash_session.specs.declared.fault.SurveyFault.TheVariants as survey
use Rattle.flash_session.specs.declared.goal.Goal.{Goal}
use Rattle.flash_session.specs.declared.goal.Goal.TheVariants.{New}
use Rattle.flash_session.specs.Goals.{goal_in}
use Rattle.flash_session.specs.Opened.{IsSessionFault}
use Rattle.flash_session.specs.Outcome.{Follows, end_fault, IsReached}
use Rattle.flash_session.specs.Script.{Leg}
use Rattle.flash_session.specs.Sessions.{Goes, IsAsSurveyed, JobServes, job_legs}
use Rattle.flash_session.specs.Starts.{job_start}
use Rattle.flash_session.specs.Surveys.{Surveyed, HasSurveyed}
use Rattle.command_files.specs.Call.{SinkCall}
use Rattle.command_files.proofs.FileLemmas.{AreOne, not_free, one_job}
use Rattle.job_commands.specs.Refused.{of_session, of_survey}
use Rattle.report_text.specs.Refusal.{status_of}
use Rattle.flash_session.specs.declared.target_end.TargetEnd.{TargetEnd}
use Rattle.flash_session.specs.declared.target_end.TargetEnd.TheVariants as ended
use Rattle.flash_session.specs.Alone.{FollowsAs}
use Rattle.gang_run.specs.declared.gang.Gang.{Gang}
use Rattle.gang_run.specs.Gangs.{AreReady}
use Rattle.gang_run.specs.Opening.{AreOpened}
use Rattle.gang_run.specs.Slots.{OpensWithMemory, HasMemory}
use Rattle.flash_session.specs.Turns.{target_fault}
use Rattle.gang_commands.specs.Ends.{AllEndOn, AllFinished, KeepsOn, AllKeep, IsServed, AllServed, NoneRose, NoneRoseIn}
use Rattle.gang_commands.specs.Gangs.{HasNoUsage, HasNoMemory, HaveEnded, Answers}
use Rattle.gang_commands.specs.Lines.{Outcome, reason_in, status_before, status_in}
use Rattle.gang_commands.specs.Puts.{outcome_of, HasEndedUpto, Runs}
use Rattle.gang_commands.proofs.OutcomeLemmas.{outcomes, outcomes_are}
use Rattle.gang_commands.specs.Words.{DoFit}
use Rattle.gang_commands.specs.Works.{Carries, Comes, IsSound}
use Rattle.gang_commands.proofs.CarryLemmas.{all_end}
use Rattle.gang_commands.proofs.TargetLemmas.{done_first, finished_by, keeps_by, same_pairs, looked_on}
use Rattle.gang_commands.proofs.WordLemmas.{some_benches}

-- ---- statuses

session_status : (fault : SessionFault) → status_of (of_session fault) ≡ 2 → ⊥
session_status session.OutOfMemory is = omega (arith, is)
session_status (session.Open opening.OutOfMemory) is = omega (arith, is)
session_status (session.Open opening.NoJob) is = omega (arith, is)
session_status (session.Open (opening.NotAJob at)) is = omega (arith, is)
session_status (session.Open (opening.Damaged kept found)) is = omega (arith, is)
session_status (session.Open opening.StoreFault) is = omega (arith, is)
session_status (session.Open (opening.CellsDiffer said found)) is = omega (arith, is)
session_status session.DeviceFault is = omega (arith, is)

survey_status : (fault : SurveyFault) → status_of (of_survey fault) ≡ 2 → ⊥
survey_status survey.OutOfMemory is = omega (arith, is)
survey_status survey.DeviceFault is = omega (arith, is)
survey_status survey.StoreFault is = omega (arith, is)

-- no target's end has the status of words that don't fit
no_usage : (o : Outcome) (e : TargetEnd) (rest : ℕ) → status_before (reason_in o.regions e) rest ≡ 2 → rest ≡ 2
no_usage o ended.Done rest is = is
no_usage o (ended.Open fault) rest is = absurd (session_status fault is)
no_usage o (ended.Survey fault) rest is = absurd (survey_status fault is)
no_usage o (ended.CallFailed number call e) rest is = absurd (omega (arith, is))
no_usage o (ended.Mismatch d) rest is = absurd (omega (arith, is))
no_usage o ended.StoreFault rest is = absurd (omega (arith, is))
no_usage o ended.DeviceFault rest is = absurd (omega (arith, is))

all_usage : (ends : List Outcome) → status_in ends ≡ 2 → ⊥
all_usage [] is = omega (arith, is)
all_usage (x ∷ xs) is = all_usage xs (no_usage x x.end (status_in xs) is)

all_done : (ends : List Outcome) (i : ℕ) (x : Outcome) → i < length ends → status_in ends ≡ 0 → (get_or ends i x).end ≡ ended.Done
all_done [] i x less is = absurd (omega (arith, less))
all_done (y ∷ ys) zero x less is = (done_first y y.end (status_in ys) is).0
all_done (y ∷ ys) (suc i) x less is = all_done ys i x (omega (arith, less)) (done_first y y.end (status_in ys) is).1

none_left : (ends : List Outcome) → ((i : ℕ) (x : Outcome) → i < length ends → (get_or ends i x).end ≡ ended.Done) → status_in ends ≡ 0
none_left [] each = refl
none_left (y ∷ ys) each =
    ap (λ (e : TargetEnd). status_before (reason_in y.regions e) (status_in ys)) (each 0 y (omega arith))
    ∙ none_left ys (λ i x less. each (suc i) x (omega (arith, less)))

-- ---- where the algorithms keep their duties

abbrev pub Reaches : {B : Type 0} → Ghosts B → Type 0
Reaches {B} G = (j : Job) (w : Surveyed) (e : SessionEnd) (start now : B) → IsTrue G.tells → StandsFor j (G.state start).file
    → (G.state start).cell_count ≡ size_of j.board.regions
    → JobServes j → IsAsSurveyed G.tells j (G.state start) w → Goes j w e (G.state start) (G.state now) → is_device_fault (end_fault e) ≡ false
    → is_store_fault (end_fault e) ≡ false → IsReached e

module _ {B : Type 0} (G : Ghosts B) (told : IsTrue G.tells) (law : Reaches G) (s : BenchState) (x : Outcome) (after : B) (served : IsServed s)
    (none_rose : NoneRose s (G.state after)) where
  reached_by : (c : Carries G s x (G.state after)) (e : SessionEnd)
      → Follows (job_legs c.job c.surveyed s.file) (goal_in c.job New s.file) (job_start c.job (G.state c.begun).cells) e (G.state c.begun) (G.state after)
      → is_device_fault (end_fault e) ≡ false → is_store_fault (end_fault e) ≡ false → IsReached e
  reached_by c e follows device store =
      let begun = G.state c.begun in
      let file : begun.file ≡ s.file = c.looked.file told in
      let one : AreOne served.some.job c.stands.text served.some.board (board.shown c.job.board) served.some.algorithms (algorithms_shown c.job.algorithms) =
      one_job s.file served.some.is c.stands.is served.some.whole c.stands.whole in
      let serves : JobServes c.job = subst (λ (b : board.Shown). AllServe b (algorithms_shown c.job.algorithms)) one.board
      (subst (λ (xs : List flm.Shown). AllServe served.some.board xs) one.algorithms served.serves) in
      let found : HasSurveyed G.tells c.job c.surveyed.goal begun.file begun.cells c.surveyed =
      subst (λ (g : Goal). HasSurveyed G.tells c.job g begun.file begun.cells c.surveyed) (sym c.found.goal)
      (subst (λ (f : List ℕ). HasSurveyed G.tells c.job New f begun.cells c.surveyed) (sym file) c.found) in
      let goes : Goes c.job c.surveyed e begun (G.state after) =
      subst (λ (l : List Leg). Follows l (goal_in c.job c.surveyed.goal begun.file) (job_start c.job begun.cells) e begun (G.state after))
      (ap (λ (f : List ℕ). job_legs c.job c.surveyed f) (sym file))
      (subst (λ (g : List ℕ). Follows (job_legs c.job c.surveyed s.file) g (job_start c.job begun.cells) e begun (G.state after))
      (ap (λ (g : Goal). goal_in c.job g s.file) (sym c.found.goal) ∙ ap (λ (f : List ℕ). goal_in c.job c.surveyed.goal f) (sym file)) follows) in
      law c.job c.surveyed e c.begun after told (subst (λ (f : List ℕ). StandsFor c.job f) (sym file) c.stands) (c.looked.count ∙ sym c.sized) serves found goes
      device store

  opened_by : (fault : SessionFault) → OpensWithMemory fault → IsSessionFault s.file s.cell_count fault
      → IsCounted s.store_faults (G.state after).store_faults (is_store_fault (target_fault (ended.Open fault)))
      → IsCounted s.device_faults (G.state after).device_faults (is_device_fault (target_fault (ended.Open fault))) → ⊥
  opened_by session.OutOfMemory memory is store device = memory
  opened_by (session.Open opening.OutOfMemory) memory is store device = is
  opened_by (session.Open opening.NoJob) memory is store device = not_free served.some.job s.file served.some.whole is
  opened_by (session.Open (opening.NotAJob at)) memory is store device =
      is.none.no_job served.some.job served.some.board served.some.algorithms served.some.is served.some.whole
  opened_by (session.Open (opening.Damaged kept found)) memory is store device =
      is.none.no_job served.some.job served.some.board served.some.algorithms served.some.is served.some.whole
  opened_by (session.Open opening.StoreFault) memory is store device = none_rose.store (store.on_fault refl)
  opened_by (session.Open (opening.CellsDiffer said found)) memory is store device =
      let one = one_job s.file is.some.is served.some.is is.some.whole served.some.whole in
      is.differ (is.said_is ∙ ap (λ (b : board.Shown). size_of b.regions) one.board ∙ served.size ∙ sym is.found_is)
  opened_by session.DeviceFault memory is store device = none_rose.device (device.on_fault refl)

  surveyed_by : (fault : SurveyFault) → HasMemory fault → IsCounted s.store_faults (G.state after).store_faults
      (is_store_fault (target_fault (ended.Survey fault)))
      → IsCounted s.device_faults (G.state after).device_faults (is_device_fault (target_fault (ended.Survey fault))) → ⊥
  surveyed_by survey.OutOfMemory memory store device = memory
  surveyed_by survey.DeviceFault memory store device = none_rose.device (device.on_fault refl)
  surveyed_by survey.StoreFault memory store device = none_rose.store (store.on_fault refl)

  done_by : (e : TargetEnd) → x.end ≡ e → IsSound s.cell_count e → IsCounted s.store_faults (G.state after).store_faults (is_store_fault (target_fault e))
      → IsCounted s.device_faults (G.state after).device_faults (is_device_fault (target_fault e))
      → Comes G s x (G.state after) e → e ≡ ended.Done
  done_by ended.Done is sound store device comes = refl
  done_by (ended.Open fault) is sound store device comes = absurd (opened_by fault sound.0 comes.1 store device)
  done_by (ended.Survey fault) is sound store device comes = absurd (surveyed_by fault sound store device)
  done_by (ended.CallFailed number call e) is sound store device comes =
      absurd (reached_by comes (end.CallFailed number call e)
      (subst (λ (f : TargetEnd). FollowsAs (job_legs comes.job comes.surveyed s.file) (goal_in comes.job New s.file)
      (job_start comes.job (G.state comes.begun).cells) f (G.state comes.begun) (G.state after)) is comes.follows) refl refl)
  done_by (ended.Mismatch d) is sound store device comes =
      absurd (reached_by comes (end.Mismatch d)
      (subst (λ (f : TargetEnd). FollowsAs (job_legs comes.job comes.surveyed s.file) (goal_in comes.job New s.file)
      (job_start comes.job (G.state comes.begun).cells) f (G.state comes.begun) (G.state after)) is comes.follows) refl refl)
  done_by ended.StoreFault is sound store device comes = absurd (none_rose.store (store.on_fault refl))
  done_by ended.DeviceFault is sound store device comes = absurd (none_rose.device (device.on_fault refl))

-- ---- a whole call

-- what turns left of a gang that was opened
pub have_ended : {B : Type 0} (G : Ghosts B) (benches begun after : List B) (opened : Gang) (out err : SinkCall) (status : ℕ) → length begun ≡ length benches
    → AreOpened G benches opened begun → AreReady G opened begun
    → Runs G opened begun after out err status → HaveEnded G benches after out err status
have_ended G benches begun after opened out err status long are ready runs = record {
  ends = runs.ends;
  each = sym (length-map runs.ends (λ (o : Outcome). Some o)) ∙ sym (ap (λ (l : List (Option Outcome)). length l) runs.outcomes)
      ∙ length-map runs.now.slots.items outcome_of ∙ sym runs.places ∙ runs.count ∙ long;
  ended = subst (λ (ends : List Outcome). AllEndOn G benches ends after)
      (sym (outcomes_are runs.now runs.ends (subst (λ (n : ℕ). HasEndedUpto runs.now n) (sym runs.count ∙ runs.places) runs.ended) runs.outcomes))
      (all_end G benches begun after opened runs.now long runs.count runs.places are ready runs.kept runs.since runs.is_gang runs.ended);
  says = runs.says;
}

module _ {B : Type 0} (G : Ghosts B) (words : ℕ) (benches after : List B) (out err : SinkCall) (status : ℕ) where
  -- the words don't fit

  module _ (unfit : DoFit words (length benches) → ⊥) (has : HasNoUsage benches after out err status) where
    two : status ≡ 2
    two = has.says.0

    pub unfit_answers : Answers G words benches after out err status
    unfit_answers = record { count = ap (λ (l : List B). length l) has.same; unfit = λ no_. has; fit = λ do_. absurd (unfit do_) }

    pub unfit_finished : status ≡ 0 → AllFinished G benches after
    unfit_finished is = absurd (omega (arith, two, is))

    pub unfit_keeps : AllKeep G status benches after
    unfit_keeps i d less = subst (λ (l : List B). KeepsOn status (G.state (get_or benches i d)) (G.state (get_or l i d))) (sym has.same)
        (let s : BenchState = G.state (get_or benches i d) in looked_on status s s (same_pairs s) (λ is_zero. omega (arith, two, is_zero)))

  -- memory ran out

  module _ (fit : DoFit words (length benches)) (count : length after ≡ length benches) (wants : HasNoMemory G benches after out err status) where
    pub memory_is : status ≡ 1
    memory_is = wants.says.0

    pub memory_answers : Answers G words benches after out err status
    memory_answers = record { count = count; unfit = λ no_. absurd (no_ fit); fit = λ do_. inl wants }

    pub memory_finished : status ≡ 0 → AllFinished G benches after
    memory_finished is = absurd (omega (arith, memory_is, is))

    pub memory_keeps : AllKeep G status benches after
    memory_keeps i d less = looked_on status (G.state (get_or benches i d)) (G.state (get_or after i d)) (wants.looked i d less).pairs
        (λ is_zero. omega (arith, memory_is, is_zero))

  -- all targets have ended

  module _ (fits : DoFit words (length benches)) (counts : length after ≡ length benches) (have : HaveEnded G benches after out err status) where
    pub ended_answers : Answers G words benches after out err status
    ended_answers = record { count = counts; unfit = λ no_. absurd (no_ fits); fit = λ do_. inr have }

    pub ended_usage : status ≡ 2 → ⊥
    ended_usage is = ⊎_elim
        (λ whole. all_usage have.ends (sym whole.1 ∙ is))
        (λ part. let ten : status ≡ 10 = part.1.0 in omega (arith, ten, is))
        have.says

    zero_done : status ≡ 0 → (i : ℕ) (x : Outcome) → i < length benches → (get_or have.ends i x).end ≡ ended.Done
    zero_done is i x less = ⊎_elim
        (λ whole. all_done have.ends i x (omega (arith, less, have.each)) (sym whole.1 ∙ is))
        (λ part. let ten : status ≡ 10 = part.1.0 in absurd (omega (arith, ten, is)))
        have.says

    -- any outcome, for a place where there is one
    none : Outcome
    none = record { end = ended.StoreFault; regions = None }

    pub ended_finished : IsTrue G.tells → status ≡ 0 → AllFinished G benches after
    ended_finished told is i d less =
        finished_by G (G.state (get_or benches i d)) (get_or have.ends i none) (G.state (get_or after i d)) ((have.ended i d none less).comes told)
        (zero_done is i none less)

    pub ended_keeps : IsTrue G.tells → AllKeep G status benches after
    ended_keeps told i d less =
        let x : Outcome = get_or have.ends i none in
        keeps_by G status (G.state (get_or benches i d)) x (G.state (get_or after i d)) x.end refl ((have.ended i d none less).comes told)
        (λ is_zero. zero_done is_zero i none less)

    complete_at : Reaches G → (d : B) → IsTrue G.tells → AllServed G benches → NoneRoseIn G benches after → (Rose out.before.faults out.after.faults → ⊥)
        → status ≡ 0
    complete_at law d told served none_rose quiet = ⊎_elim
        (λ whole. whole.1 ∙ none_left have.ends (λ i x less.
        let within : i < length benches = omega (arith, less, have.each) in
        let one = have.ended i d x within in
        done_by G told law (G.state (get_or benches i d)) (get_or have.ends i x) (get_or after i d) (served i d within) (none_rose i d within)
        (get_or have.ends i x).end refl one.sound one.store one.device (one.comes told)))
        (λ part. absurd (quiet part.0.rose))
        have.says

    pub ended_complete : Reaches G → IsTrue G.tells → AllServed G benches → NoneRoseIn G benches after → (Rose out.before.faults out.after.faults → ⊥)
        → status ≡ 0
    ended_complete law told served none_rose quiet = some benches (some_benches words (length benches) fits)
      where
        some : (l : List B) → 0 < length l → status ≡ 0
        some [] less = absurd (omega (arith, less))
        some (d ∷ rest) less = complete_at law d told served none_rose quiet
