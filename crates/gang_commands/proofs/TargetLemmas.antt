-- What follows of one target's end for its bench and its status.
use Rattle.std.proofs.Common.{◌≡◌, ⊎_elim, inl, ◌≤◌, ◌<◌, ◌+◌, ◌∙◌, refl, sym, ap, subst, arith, true, ℕ, List}
use Rattle.bench_model.specs.declared.bench.Bench.{Ghosts}
use Rattle.bench_model.specs.Pairs.{PairsLeave}
use Rattle.bench_model.specs.State.{BenchState, file_half, cells_half, Left}
use Rattle.bench_model.proofs.Moments.{goes_here}
use Rattle.board_file.specs.Shown as board
use Rattle.flm_descriptor.specs.Shown as flm
use Rattle.byte_map.specs.Image.{Run}
use Rattle.job_text.specs.Body as text
use Rattle.job_text.specs.Body.{body_of}
use Rattle.job_text.specs.Jobs.{IsJob}
use Rattle.job_text.specs.Files.{IsFree, IsWhole}
use Rattle.job_text.specs.Laid.{overlaid}
use Rattle.job_text.specs.Said.{algorithms_shown}
use Rattle.job_text.specs.Stands.{StandsFor, IsSomeJob, snapshot_in}
use Rattle.job_text.specs.declared.job.Job.{Job}
use Rattle.campaign.specs.Campaign.{Keeps, WorkStops}
use Rattle.campaign.specs.Stops.{CampaignJob, HasNoClose, IsDone}
use Rattle.campaign.proofs.CampaignLemmas.{other_status}
use Rattle.job_file.specs.declared.fault.OpenFault.TheVariants as opening
use Rattle.flash_session.specs.declared.fault.SessionFault.{SessionFault}
use Rattle.flash_session.specs.declared.fault.SessionFault.TheVariants as session
use Rattle.flash_session.specs.declared.fault.SurveyFault.{SurveyFault}
use Rattle.flash_session.specs.declared.fault.SurveyFault.TheVariants as survey
use Rattle.flash_session.specs.declared.goal.Goal.TheVariants.{New}
use Rattle.flash_session.specs.declared.session.Reached.{Reached}
use Rattle.flash_session.specs.declared.target_end.TargetEnd.{TargetEnd}
use Rattle.flash_session.specs.declared.target_end.TargetEnd.TheVariants as ended
use Rattle.flash_session.specs.Alone.{FollowsAs}
use Rattle.flash_session.specs.Goals.{goal_in}
use Rattle.flash_session.specs.Guarded.{FileEnd, has_no_close}
use Rattle.flash_session.specs.Sessions.{job_legs}
use Rattle.flash_session.specs.Starts.{job_start}
use Rattle.report_text.proofs.PlainLemmas.{is_of_gang, IsOfGang}
use Rattle.report_text.proofs.StatusLemmas.{some_status}
use Rattle.command_files.proofs.FileLemmas.{AreOne, not_free, one_job}
use Rattle.job_commands.specs.Refused.{of_session, of_survey}
use Rattle.gang_commands.specs.Ends.{HasFinished, as_resume, KeepsOn}
use Rattle.gang_commands.specs.Lines.{Outcome, reason, reason_in, status_before}
use Rattle.gang_commands.specs.Works.{aim_of, Carries, Comes}

-- ---- a target's status

-- with status 0 a target is done, and so are those after it
pub done_first : (o : Outcome) (e : TargetEnd) (rest : ℕ) → status_before (reason_in o.regions e) rest ≡ 0 → (e ≡ ended.Done) × (rest ≡ 0)
done_first o ended.Done rest is = (refl, is)
done_first o (ended.Open fault) rest is = absurd (omega (arith, some_status (of_session fault), is))
done_first o (ended.Survey fault) rest is = absurd (omega (arith, some_status (of_survey fault), is))
done_first o (ended.CallFailed number call e) rest is = absurd (omega (arith, is))
done_first o (ended.Mismatch d) rest is = absurd (omega (arith, is))
done_first o ended.StoreFault rest is = absurd (omega (arith, is))
done_first o ended.DeviceFault rest is = absurd (omega (arith, is))

-- a target with status 0 of its own is done
pub done_alone : (x : Outcome) → status_before (reason x) 0 ≡ 0 → x.end ≡ ended.Done
done_alone x is = (done_first x x.end 0 is).0

-- ---- a target's reason

session_reason : (fault : SessionFault) → is_of_gang (of_session fault) ≡ true
session_reason session.OutOfMemory = refl
session_reason (session.Open opening.OutOfMemory) = refl
session_reason (session.Open opening.NoJob) = refl
session_reason (session.Open (opening.NotAJob at)) = refl
session_reason (session.Open (opening.Damaged kept found)) = refl
session_reason (session.Open opening.StoreFault) = refl
session_reason (session.Open (opening.CellsDiffer said found)) = refl
session_reason session.DeviceFault = refl

survey_reason : (fault : SurveyFault) → is_of_gang (of_survey fault) ≡ true
survey_reason survey.OutOfMemory = refl
survey_reason survey.DeviceFault = refl
survey_reason survey.StoreFault = refl

reason_by : (o : Outcome) (e : TargetEnd) → IsOfGang (reason_in o.regions e)
reason_by o ended.Done = tt
reason_by o (ended.Open fault) = session_reason fault
reason_by o (ended.Survey fault) = survey_reason fault
reason_by o (ended.CallFailed number call e) = refl
reason_by o (ended.Mismatch d) = refl
reason_by o ended.StoreFault = refl
reason_by o ended.DeviceFault = refl

-- the reason of a target is one that a call of a gang may give
pub its_reason : (x : Outcome) → IsOfGang (reason x)
its_reason x = reason_by x x.end

-- ---- a target's bench

some_job : {B : Type 0} (G : Ghosts B) (s : BenchState) (x : Outcome) (t : BenchState) → Carries G s x t → IsSomeJob s.file
some_job G s x t c = record {
  job = c.stands.text;
  board = board.shown c.job.board;
  algorithms = algorithms_shown c.job.algorithms;
  is = c.stands.is;
  whole = c.stands.whole;
}

its_goal : (j : Job) (s : BenchState) (stands : StandsFor j s.file)
    → goal_in j New s.file ≡ overlaid stands.text.image j.board.regions stands.text.snapshot
its_goal j s stands =
    ap (λ (r : List Run). overlaid r j.board.regions (snapshot_in j s.file)) (sym stands.image)
    ∙ ap (λ (c : List ℕ). overlaid stands.text.image j.board.regions c) (sym stands.snapshot)

-- the script of a job that was carried comes to this end
abbrev Way : {B : Type 0} (G : Ghosts B) (s : BenchState) (x : Outcome) (t : BenchState) → Carries G s x t → TargetEnd → Type 0
Way G s x t c e =
    FollowsAs (job_legs c.job c.surveyed s.file) (goal_in c.job New s.file) (job_start c.job (G.state c.begun).cells) e (G.state c.begun) t

-- a job that was carried to the end Done is done
its_done : {B : Type 0} (G : Ghosts B) (s : BenchState) (x : Outcome) (t : BenchState) (c : Carries G s x t) → x.end ≡ ended.Done
    → IsDone (body_of c.stands.text) (aim_of c.stands.text (board.shown c.job.board)).laid t
its_done G s x t c is =
    let follows : Way G s x t c ended.Done = subst (Way G s x t c) is c.follows in
    let r : Reached = record {} in
    let reached = follows r in
    record {
      file = subst (λ (e : TargetEnd). FileEnd (body_of c.stands.text) e t.file) is c.file;
      idle = c.closed is;
      cells = reached.ends.1 ∙ its_goal c.job s c.stands;
    }

abbrev KeepsFor : ℕ → BenchState → BenchState → CampaignJob → Type 0
KeepsFor status s t aim = (turn : ℕ) × ((end : ℕ) → s.moment ≤ end → end ≤ t.moment → Keeps aim (as_resume status s t turn end))

-- a stop of a bench that wasn't called leaves what it could leave before
pub same_pairs : (s : BenchState) → PairsLeave s s (Left s)
same_pairs s = record {
  files = goes_here (file_half s);
  cells = goes_here (cells_half s);
  each = λ k f c from to f_at c_at.
      let is : k ≡ s.moment = omega (arith, from, to) in
      (subst (λ (n : ℕ). s.files_at n f) is f_at, subst (λ (n : ℕ). s.cells_at n c) is c_at);
}

-- a bench that was only looked at keeps what a campaign asks for
looked_keeps : (status : ℕ) (s t : BenchState) (aim : CampaignJob) → PairsLeave s t (Left s) → (status ≡ 0 → ⊥) → KeepsFor status s t aim
looked_keeps status s t aim pairs not_zero = (
  t.moment + 1,
  (λ end from to. record {
    later = from;
    in_time = to;
    stands = λ whole. record {
      pairs = record {
        started = omega (arith, pairs.files.later);
        later = pairs.files.later;
        before = λ k f c at_from at_to less f_at c_at. inl (pairs.each k f c at_from at_to f_at c_at);
        from = λ k f c at_from at_to f_at c_at. absurd (omega (arith, at_from, at_to));
      };
    };
    idle = λ is_free. record { never = omega arith; pairs = λ k f c at_from at_to f_at c_at. pairs.each k f c at_from at_to f_at c_at };
    zero = λ is_zero whole. absurd (not_zero is_zero);
    not_free = λ is_zero is_free. absurd (not_zero is_zero);
  }),
)

-- a bench whose job was carried keeps what a campaign asks for
carried_keeps : {B : Type 0} (G : Ghosts B) (status : ℕ) (s : BenchState) (x : Outcome) (t : BenchState) (c : Carries G s x t)
    → (status ≡ 0 → x.end ≡ ended.Done)
    → KeepsFor status s t (aim_of c.stands.text (board.shown c.job.board))
carried_keeps G status s x t c done = (
  c.turn,
  (λ end from to. record {
    later = from;
    in_time = to;
    stands = λ whole. subst
        (λ (r : List Run). WorkStops s t c.turn (body_of c.stands.text) (overlaid r c.job.board.regions c.stands.text.snapshot))
        (sym c.stands.image) c.stops;
    idle = λ is_free. absurd (not_free c.stands.text s.file c.stands.whole is_free);
    zero = λ is_zero whole. its_done G s x t c (done is_zero);
    not_free = λ is_zero is_free. absurd (not_free c.stands.text s.file c.stands.whole is_free);
  }),
)

one_keeps : {B : Type 0} (G : Ghosts B) (status : ℕ) (s : BenchState) (x : Outcome) (t : BenchState) → Carries G s x t
    → (status ≡ 0 → x.end ≡ ended.Done) → KeepsOn status s t
one_keeps G status s x t c done = record {
  keeps = λ job b algorithms is class. ⊎_elim
      (λ (is_free : IsFree s.file). absurd (not_free c.stands.text s.file c.stands.whole is_free))
      (λ (whole : IsWhole (body_of job) s.file).
      let one : AreOne c.stands.text job (board.shown c.job.board) b (algorithms_shown c.job.algorithms) algorithms =
      one_job s.file c.stands.is is c.stands.whole whole in
      subst (λ (k : text.Job). KeepsFor status s t (aim_of k b)) one.job
      (subst (λ (y : board.Shown). KeepsFor status s t (aim_of c.stands.text y)) one.board (carried_keeps G status s x t c done)))
      class;
  idle = λ none. absurd (none (some_job G s x t c));
}

pub looked_on : (status : ℕ) (s t : BenchState) → PairsLeave s t (Left s) → (status ≡ 0 → ⊥) → KeepsOn status s t
looked_on status s t pairs not_zero = record {
  keeps = λ job b algorithms is class. looked_keeps status s t (aim_of job b) pairs not_zero;
  idle = λ none. pairs;
}

pub keeps_by : {B : Type 0} (G : Ghosts B) (status : ℕ) (s : BenchState) (x : Outcome) (t : BenchState) (e : TargetEnd) → x.end ≡ e
    → Comes G s x t e → (status ≡ 0 → x.end ≡ ended.Done) → KeepsOn status s t
keeps_by G status s x t ended.Done is comes done = one_keeps G status s x t comes done
keeps_by G status s x t (ended.Open fault) is comes done =
    looked_on status s t comes.0.pairs (λ is_zero. let no_ : ended.Open fault ≡ ended.Done = sym is ∙ done is_zero in cc)
keeps_by G status s x t (ended.Survey fault) is comes done =
    looked_on status s t comes.0.pairs (λ is_zero. let no_ : ended.Survey fault ≡ ended.Done = sym is ∙ done is_zero in cc)
keeps_by G status s x t (ended.CallFailed number call e) is comes done = one_keeps G status s x t comes done
keeps_by G status s x t (ended.Mismatch d) is comes done = one_keeps G status s x t comes done
keeps_by G status s x t ended.StoreFault is comes done = one_keeps G status s x t comes done
keeps_by G status s x t ended.DeviceFault is comes done = one_keeps G status s x t comes done

-- Where the close of a call begins: after the exit where the status is one without a close.
pub record ClosesOn (status : ℕ) (s t : BenchState) (aim : CampaignJob) : Type 0 where
  pub turn : ℕ
  pub stops : WorkStops s t turn aim.body aim.laid
  pub no_close : HasNoClose status → t.moment < turn

abbrev pub ClosesEach : ℕ → BenchState → BenchState → Type 0
ClosesEach status s t = (job : text.Job) (b : board.Shown) (algorithms : List flm.Shown) → IsJob job b algorithms → IsWhole (body_of job) s.file
    → ClosesOn status s t (aim_of job b)

pub looked_closes : (status : ℕ) (s t : BenchState) → PairsLeave s t (Left s) → ClosesEach status s t
looked_closes status s t pairs job b xs is whole = record {
  turn = t.moment + 1;
  stops = record {
    pairs = record {
      started = omega (arith, pairs.files.later);
      later = pairs.files.later;
      before = λ k f c from to less f_at c_at. inl (pairs.each k f c from to f_at c_at);
      from = λ k f c from to f_at c_at. absurd (omega (arith, from, to));
    };
  };
  no_close = λ none. omega arith;
}

carried_closes : {B : Type 0} (G : Ghosts B) (status : ℕ) (s : BenchState) (x : Outcome) (t : BenchState) (c : Carries G s x t)
    → (HasNoClose status → has_no_close x.end ≡ true) → ClosesEach status s t
carried_closes G status s x t c none_is job b xs is whole =
    let one : AreOne c.stands.text job (board.shown c.job.board) b (algorithms_shown c.job.algorithms) xs =
    one_job s.file c.stands.is is c.stands.whole whole in
    subst (λ (k : text.Job). ClosesOn status s t (aim_of k b)) one.job
    (subst (λ (y : board.Shown). ClosesOn status s t (aim_of c.stands.text y)) one.board (record {
      turn = c.turn;
      stops = subst
          (λ (r : List Run). WorkStops s t c.turn (body_of c.stands.text) (overlaid r c.job.board.regions c.stands.text.snapshot))
          (sym c.stands.image) c.stops;
      no_close = λ none. c.no_close (none_is none);
    }))

abbrev status_with : Outcome → TargetEnd → ℕ
status_with x e = status_before (reason_in x.regions e) 0

closes_with : {B : Type 0} (G : Ghosts B) (s : BenchState) (x : Outcome) (t : BenchState) (e : TargetEnd) → x.end ≡ e → Comes G s x t e
    → ClosesEach (status_with x e) s t
closes_with G s x t ended.Done is c = carried_closes G 0 s x t c
    (λ none. absurd (other_status 0 0 refl (λ q. omega (arith, q)) (λ q. omega (arith, q)) (λ q. omega (arith, q)) (λ q. omega (arith, q)) none))
closes_with G s x t (ended.Open fault) is c = looked_closes (status_with x (ended.Open fault)) s t c.0.pairs
closes_with G s x t (ended.Survey fault) is c = looked_closes (status_with x (ended.Survey fault)) s t c.0.pairs
closes_with G s x t (ended.CallFailed number call e) is c = carried_closes G 11 s x t c (λ none. ap has_no_close is)
closes_with G s x t (ended.Mismatch d) is c = carried_closes G 12 s x t c (λ none. ap has_no_close is)
closes_with G s x t ended.StoreFault is c = carried_closes G 8 s x t c
    (λ none. absurd (other_status 8 8 refl (λ q. omega (arith, q)) (λ q. omega (arith, q)) (λ q. omega (arith, q)) (λ q. omega (arith, q)) none))
closes_with G s x t ended.DeviceFault is c = carried_closes G 9 s x t c (λ none. ap has_no_close is)

-- where the close begins, by the target's own status
pub closes_by : {B : Type 0} (G : Ghosts B) (s : BenchState) (x : Outcome) (t : BenchState) → Comes G s x t x.end
    → ClosesEach (status_before (reason x) 0) s t
closes_by G s x t comes = closes_with G s x t x.end refl comes

-- the job of a target that is done is finished
pub finished_by : {B : Type 0} (G : Ghosts B) (s : BenchState) (x : Outcome) (t : BenchState) → Comes G s x t x.end → x.end ≡ ended.Done
    → HasFinished s t
finished_by G s x t comes done =
    let c : Carries G s x t = subst (λ (e : TargetEnd). Comes G s x t e) done comes in
    record {
      job = c.stands.text;
      board = board.shown c.job.board;
      algorithms = algorithms_shown c.job.algorithms;
      is = c.stands.is;
      stood = c.stands.whole;
      done = its_done G s x t c done;
    }
