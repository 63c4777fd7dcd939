-- The end of a session: the script begins at s and ends at m, and the job is closed at d.
use Rattle.std.proofs.Common.{◌≡◌, ⊎_elim, inl, inr, refl, ◌+◌, ◌∙◌, ℕ, Bool, false, IsTrue, List, [], ◌∷◌, drop, Option, Some, None, IfSome, IsSome, IsSomeAnd}
use Rattle.std.proofs.Common.{is_some, sym, ap, subst, arith, true}
use Rattle.std.proofs.lemmas.Bool.{false≢true}
use Rattle.bench_model.specs.History.{left, GoesOn, Leaves, LeftOnly}
use Rattle.bench_model.specs.State.{BenchState, file_half, cells_half}
use Rattle.bench_model.specs.Calls.{CellsStay, FileIsRead}
use Rattle.bench_model.specs.Pairs.{PairsLeave}
use Rattle.bench_model.proofs.Moments.{goes_then, pairs_of, pairs_as, stays_leaves, leaves_as, leaves_then, leaves_left, in_turn, never}
use Rattle.byte_map.specs.Image.{Run}
use Rattle.board_file.specs.Shown as board
use Rattle.flm_descriptor.specs.Shown as flm
use Rattle.page_geometry.specs.Geometry.{Geometry}
use Rattle.erase_planner.specs.Plans.{Chosen, chosen}
use Rattle.outside_io.specs.State.{SinkState}
use Rattle.readback.specs.declared.compare.Difference.{Difference}
use Rattle.algo_calls.specs.declared.call.Call.{Call}
use Rattle.algo_calls.specs.declared.call.CallEnd.{CallEnd}
use Rattle.algo_calls.specs.Duties.{part, site_of, device_of}
use Rattle.job_text.specs.Files.{IsWhole, IsClosed}
use Rattle.job_text.specs.Body.{Job}
use Rattle.job_text.specs.Said.{algorithms_shown}
use Rattle.job_text.specs.Stands.{StandsFor, snapshot_in}
use Rattle.job_text.specs.declared.job.Job as code
use Rattle.job_file.specs.Stops.{IsWholeOrClosed}
use Rattle.campaign.specs.Stops.{IsAtClose}
use Rattle.flash_session.specs.declared.session.Reached.{Reached}
use Rattle.flash_session.specs.declared.session.SessionEnd.{SessionEnd}
use Rattle.flash_session.specs.declared.session.SessionEnd.TheVariants as end
use Rattle.flash_session.specs.declared.goal.Goal.{Goal}
use Rattle.flash_session.specs.declared.goal.Goal.TheVariants.{New, Old}
use Rattle.flash_session.specs.Script.{Planned, planned, Leg, Broken}
use Rattle.flash_session.specs.Outcome.{Follows}
use Rattle.flash_session.specs.Starts.{job_start}
use Rattle.flash_session.specs.Goals.{goal_in}
use Rattle.job_text.specs.Laid.{overlaid, address_at}
use Rattle.flash_session.specs.Surveys.{Surveyed, IsPlannedFor, ArePlannedFor, HasSurveyed}
use Rattle.flash_session.specs.Sessions.{Goes, JobServes, IsAsSurveyed, job_legs, legs_for}
use Rattle.flash_session.specs.Local.{IsInPlans, SameBut}
use Rattle.report_text.specs.Refusal.{store_fault, device_fault, output_fault, call_failed, mismatch}
use Rattle.command_files.specs.Call.{SinkCall, Answer, done, refused, bench_call, sink_call}
use Rattle.command_files.specs.Said.{TookNothing, TookAll, TookPart}
use Rattle.command_files.specs.Answered.{IsUnless}
use Rattle.job_commands.specs.Answers.{has_no_close}
use Rattle.job_commands.specs.Work.{Work, body, plan_in, plans_in, plans_of, legs_of, start_for, Ends, IsOnPath, KeepsDuties, IsOutsidePlanAsSurveyed}
use Rattle.job_commands.specs.Carry.{HasReached, done_text}
use Rattle.job_commands.specs.GoOn.{goal_in as text_goal_in}
use Rattle.job_commands.specs.Steps.{session_work, FinishComes, Finishes}

-- what a stop of a close leaves, to the goal of a survey
abbrev pub ClosePairs : BenchState → BenchState → code.Job → Surveyed → Type 0
ClosePairs m d k v = PairsLeave m d (λ f c. IsWholeOrClosed (drop 1 m.file) f × (c ≡ goal_in k v.goal m.file))

pub closed_as : (m d : BenchState) (k j : code.Job) (o q : Option Surveyed) → k ≡ j → o ≡ q → IfSome o (ClosePairs m d k) → IfSome q (ClosePairs m d j)
closed_as m d k j o q is same close = subst (λ (i : code.Job). IfSome q (ClosePairs m d i)) is
    (subst (λ (x : Option Surveyed). IfSome x (ClosePairs m d k)) same close)

-- a close continues the history of the file
pub closed_goes : (m d : BenchState) (k : code.Job) (o : Option Surveyed) → IsSome o → IfSome o (ClosePairs m d k) → GoesOn (file_half m) (file_half d)
closed_goes m d k None some close = absurd (false≢true some)
closed_goes m d k (Some v) some close = close.files

pub nothing_broken : Broken
nothing_broken = record { legs = []; last = [] }

-- Each end of any work, by what came before it.

module _ (tells : Bool) (w : Work) (s m : BenchState) (out : SinkCall) (answer : Answer) (whole : IsWhole (body w) s.file)
    (only : LeftOnly s.file (file_half s))
    (stay : FileIsRead tells s m) where
  early : GoesOn (cells_half s) (cells_half m) → PairsLeave s m (λ f c. IsWhole (body w) f)
  early goes = pairs_of (λ f. IsWhole (body w) f) (λ c. Unit {0}) (λ f c. IsWhole (body w) f)
      (leaves_as (left (file_half s)) (λ f. IsWhole (body w) f) (λ f at. only f at ∙ whole) stay.moments)
      (record { goes_on = goes; each = λ k c from to at. tt }) (λ f c is u. is)

  ends_in_script : (broken : Broken) → FinishComes (bench_call tells s m) out w broken answer → Leaves (cells_half s) (cells_half m) (IsOnPath w broken)
      → (KeepsDuties w → Leaves (cells_half s) (cells_half m) (IsOutsidePlanAsSurveyed w)) → (KeepsDuties w → IsUnless answer done)
      → Finishes (bench_call tells s m) out w answer
  ends_in_script broken comes path local complete = record {
    broken = broken;
    comes = comes;
    closing = m.moment + 1;
    pairs = never (λ f c. IsWhole (body w) f) (IsAtClose (body w) w.goal) (early path.goes_on);
    no_close = λ is. omega arith;
    files_past = stay.moments.goes_on.past;
    path = path;
    local = local;
    complete = complete;
  }

  -- a close leaves the cells as they were
  on_through : (d : BenchState) (P : List ℕ → Type 0) → CellsStay m d → Leaves (cells_half s) (cells_half m) P → Leaves (cells_half s) (cells_half d) P
  on_through d P cells first = leaves_then P first (stays_leaves P (leaves_left P first) cells.half)

  ends_in_close : (d : BenchState) (broken : Broken) → (has_no_close answer ≡ true → ⊥) → FinishComes (bench_call tells s d) out w broken answer
      → Leaves (cells_half s) (cells_half m) (IsOnPath w broken)
      → (KeepsDuties w → Leaves (cells_half s) (cells_half m) (IsOutsidePlanAsSurveyed w)) → (KeepsDuties w → IsUnless answer done)
      → CellsStay m d → PairsLeave m d (λ f c. IsWholeOrClosed (body w) f × (c ≡ w.goal)) → Finishes (bench_call tells s d) out w answer
  ends_in_close d broken closes comes path local complete cells close = record {
    broken = broken;
    comes = comes;
    closing = m.moment;
    pairs = in_turn (λ f c. IsWhole (body w) f) (IsAtClose (body w) w.goal) (early path.goes_on)
        (pairs_as (λ f c. IsWholeOrClosed (body w) f × (c ≡ w.goal)) (IsAtClose (body w) w.goal)
        (λ f c both. record { whole_or_closed = both.0; done = both.1 }) close);
    no_close = λ is. absurd (closes is);
    files_past = (goes_then stay.moments.goes_on close.files).past;
    path = on_through d (IsOnPath w broken) cells path;
    local = λ keeps. on_through d (IsOutsidePlanAsSurveyed w) cells (local keeps);
    complete = complete;
  }

-- Each end of the work of a session.

module _ (tells : Bool) (told : IsTrue tells) (j : code.Job) (goal : Goal) (text : Job) (image : text.image ≡ j.image) (file : List ℕ)
    (snapshot : text.snapshot ≡ snapshot_in j file) (cells : List ℕ) where
  abbrev its_work : Work
  its_work = session_work goal j text cells

  pub same_goal : (g : Goal) → goal_in j g file ≡ text_goal_in g text (board.shown j.board)
  same_goal New = ap (λ (r : List Run). overlaid r j.board.regions (snapshot_in j file)) (sym image)
      ∙ ap (λ (c : List ℕ). overlaid text.image j.board.regions c) (sym snapshot)
  same_goal Old = sym snapshot

  -- the plan that was made for a region is the chosen one
  one_chosen : (b : board.Shown) (region : ℕ) (a : flm.Shown) (old new : List ℕ) (p : Planned)
      → IsPlannedFor tells b a (part (site_of b a region) old) (part (site_of b a region) new) p → p ≡ plan_in b region a old new
  one_chosen b region a old new p is =
      ap (λ (l : Geometry). planned l p.base p.plan) is.layout ∙ ap (λ (n : ℕ). planned (device_of a) n p.plan) is.base
      ∙ ap (λ (c : Chosen). planned (device_of a) a.device.base c) ((is.plan told).chosen
      ∙ ap (λ (l : Geometry). chosen l b.weights (is_some a.entries.erase_chip) a.device.empty (part (site_of b a region) old) (part (site_of b a region) new))
      is.layout)

  all_chosen : (b : board.Shown) (region : ℕ) (algorithms : List flm.Shown) (old new : List ℕ) (plans : List Planned)
      → ArePlannedFor tells b region algorithms old new plans → plans ≡ plans_in b region algorithms old new
  all_chosen b region [] old new [] are = refl
  all_chosen b region (a ∷ rest) old new (p ∷ more) are =
      ap (λ (x : Planned). x ∷ more) (one_chosen b region a old new p are.0)
      ∙ ap (λ (l : List Planned). plan_in b region a old new ∷ l) (all_chosen b (region + 1) rest old new more are.1)
  all_chosen b region algorithms old new plans are = absurd are

  module _ (v : Surveyed) (has : HasSurveyed tells j goal file cells v) where
    pub goal_is : goal_in j v.goal file ≡ its_work.goal
    goal_is = ap (λ (g : Goal). goal_in j g file) has.goal ∙ same_goal goal

    -- the plans that were made are the chosen ones
    pub plans_are : v.regions ≡ plans_of its_work
    plans_are = all_chosen (board.shown j.board) 0 (algorithms_shown j.algorithms) cells (goal_in j goal file) v.regions has.regions
        ∙ ap (λ (g : List ℕ). plans_in (board.shown j.board) 0 (algorithms_shown j.algorithms) cells g) (same_goal goal)

    legs_are : job_legs j v file ≡ legs_of its_work
    legs_are = ap (λ (g : List ℕ). legs_for (board.shown j.board) 0 (algorithms_shown j.algorithms) g v.regions) goal_is
        ∙ ap (λ (p : List Planned). legs_for (board.shown j.board) 0 (algorithms_shown j.algorithms) its_work.goal p) plans_are

    pub follows_plan : (e : SessionEnd) (s m : BenchState) → Follows (job_legs j v file) (goal_in j v.goal file) (job_start j cells) e s m
        → Follows (legs_of its_work) its_work.goal (start_for its_work) e s m
    follows_plan e s m follows = subst (λ (l : List Leg). Follows l its_work.goal (start_for its_work) e s m) legs_are
        (subst (λ (g : List ℕ). Follows (job_legs j v file) g (start_for its_work) e s m) goal_is follows)

    -- the survey of the session, with the goal as the survey has it
    pub as_surveyed : HasSurveyed tells j v.goal file cells v
    as_surveyed = subst (λ (g : Goal). HasSurveyed tells j g file cells v) (sym has.goal) has

module _ (tells sinks : Bool) (told : IsTrue tells) (j : code.Job) (goal : Goal) (s m : BenchState) (p : SinkState) (stands : StandsFor j s.file)
    (only : LeftOnly s.file (file_half s)) (stay : FileIsRead tells s m) where
  abbrev w : Work
  w = session_work goal j stands.text s.cells

  abbrev Followed : SessionEnd → Type 0
  Followed e = Follows (legs_of w) w.goal (start_for w) e s m

  followed : (o : Option Surveyed) (e : SessionEnd) → IsSomeAnd o (λ v. HasSurveyed tells j goal s.file s.cells v)
      → IfSome o (λ v. Goes j v e s m) → Followed e
  followed None e has goes = absurd has
  followed (Some v) e has goes = follows_plan tells told j goal stands.text stands.image s.file stands.snapshot s.cells v has e s m goes

  nothing : TookNothing (sink_call sinks p p)
  nothing = record { taken = refl; faults = refl }

  job_stays : IsWhole (body w) m.file
  job_stays = stay.file told ∙ stands.whole

  -- each stop of the script leaves the cells outside the chosen plans as surveyed
  local_from : (q : Option Surveyed) → IsSomeAnd q (λ v. HasSurveyed tells j goal s.file s.cells v)
      → IfSome q (λ v. IsAsSurveyed tells j s v → Leaves (cells_half s) (cells_half m) (SameBut (IsInPlans 0 v.regions) s.cells))
      → Leaves (cells_half s) (cells_half m) (IsOutsidePlanAsSurveyed w)
  local_from None some local = absurd some
  local_from (Some v) some local =
      subst (λ (plans : List Planned). Leaves (cells_half s) (cells_half m) (SameBut (IsInPlans 0 plans) s.cells))
      (plans_are tells told j goal stands.text stands.image s.file stands.snapshot s.cells v some)
      (local (as_surveyed tells told j goal stands.text stands.image s.file stands.snapshot s.cells v some))

  -- an end that can't come
  unfailing : (q : Option Surveyed) → IsSomeAnd q (λ v. HasSurveyed tells j goal s.file s.cells v)
      → IfSome q (λ v. IsAsSurveyed tells j s v → false ≡ false → false ≡ false → ⊥) → ⊥
  unfailing None some fails = some
  unfailing (Some v) some fails = fails (as_surveyed tells told j goal stands.text stands.image s.file stands.snapshot s.cells v some) refl refl

  module _ (o : Option Surveyed) (has : IsSomeAnd o (λ v. HasSurveyed tells j goal s.file s.cells v))
      (keeps : JobServes j → IfSome o (λ v. IsAsSurveyed tells j s v → Leaves (cells_half s) (cells_half m) (SameBut (IsInPlans 0 v.regions) s.cells))) where
    its_local : KeepsDuties w → Leaves (cells_half s) (cells_half m) (IsOutsidePlanAsSurveyed w)
    its_local = λ serves. local_from o has (keeps serves)

    pub ends_mismatch : (d : Difference) (at : ℕ) → address_at j.board.regions d.at ≡ Some at → IfSome o (λ v. Goes j v (end.Mismatch d) s m)
        → (JobServes j → IfSome o (λ v. IsAsSurveyed tells j s v → false ≡ false → false ≡ false → ⊥))
        → Finishes (bench_call tells s m) (sink_call sinks p p) w (refused (mismatch at d.want d.got))
    ends_mismatch d at at_is goes fails =
        let f = followed o (end.Mismatch d) has goes in
        ends_in_script tells w s m (sink_call sinks p p) (refused (mismatch at d.want d.got)) stands.whole only stay f.broken
        (job_stays, record { ends = f.ends.0; difference = d; first = f.ends.1; at_is = at_is; wanted_is = refl; found_is = refl }, nothing) f.moments its_local
        (λ serves. absurd (unfailing o has (fails serves)))

    pub ends_failed : (number : ℕ) (call : Call) (e : CallEnd) → IfSome o (λ v. Goes j v (end.CallFailed number call e) s m)
        → (JobServes j → IfSome o (λ v. IsAsSurveyed tells j s v → false ≡ false → false ≡ false → ⊥))
        → Finishes (bench_call tells s m) (sink_call sinks p p) w (refused (call_failed number call e))
    ends_failed number call e goes fails =
        let f = followed o (end.CallFailed number call e) has goes in
        ends_in_script tells w s m (sink_call sinks p p) (refused (call_failed number call e)) stands.whole only stay f.broken
        (job_stays, f.ends, nothing) f.moments its_local
        (λ serves. absurd (unfailing o has (fails serves)))

    pub ends_at_fault : IfSome o (λ v. Goes j v end.DeviceFault s m) → Finishes (bench_call tells s m) (sink_call sinks p p) w (refused device_fault)
    ends_at_fault goes =
        let f = followed o end.DeviceFault has goes in
        ends_in_script tells w s m (sink_call sinks p p) (refused device_fault) stands.whole only stay f.broken (job_stays, f.ends, nothing) f.moments its_local
        (λ serves. inr refl)

    pub ends_unread : IfSome o (λ v. Goes j v end.StoreFault s m) → Finishes (bench_call tells s m) (sink_call sinks p p) w (refused store_fault)
    ends_unread goes =
        let f = followed o end.StoreFault has goes in
        ends_in_script tells w s m (sink_call sinks p p) (refused store_fault) stands.whole only stay f.broken (inl (job_stays, f.ends), nothing) f.moments
        its_local (λ serves. inr refl)

    -- The goal is reached, and the job is closed, or its close failed.
    module _ (d : BenchState) (r : Reached) (goes : IfSome o (λ v. Goes j v (end.Reached r) s m)) (idle : m.operation ≡ None) (cells : CellsStay m d)
        (close : IfSome o (λ v. PairsLeave m d (λ f c. IsWholeOrClosed (drop 1 m.file) f × (c ≡ goal_in j v.goal m.file)))) where
      abbrev f : Followed (end.Reached r)
      f = followed o (end.Reached r) has goes

      reached : HasReached d w f.broken
      reached = record {
        ends = subst (λ (c : List ℕ). Ends w f.broken c) (sym cells.cells) f.ends.0;
        idle = cells.operation ∙ idle;
        goal = cells.cells ∙ f.ends.1;
      }

      behind : drop 1 m.file ≡ body w
      behind = ap (drop 1) job_stays

      close_from : (q : Option Surveyed) → IsSomeAnd q (λ v. HasSurveyed tells j goal s.file s.cells v)
          → IfSome q (λ v. PairsLeave m d (λ f c. IsWholeOrClosed (drop 1 m.file) f × (c ≡ goal_in j v.goal m.file)))
          → PairsLeave m d (λ f c. IsWholeOrClosed (body w) f × (c ≡ w.goal))
      close_from None some pairs = absurd some
      close_from (Some v) some pairs =
          subst (λ (g : List ℕ). PairsLeave m d (λ f c. IsWholeOrClosed (body w) f × (c ≡ g)))
          (goal_is tells told j goal stands.text stands.image s.file stands.snapshot s.cells v some)
          (subst (λ (b : List ℕ). PairsLeave m d (λ f c. IsWholeOrClosed b f × (c ≡ goal_in j v.goal s.file))) behind
          (subst (λ (l : List ℕ). PairsLeave m d (λ f c. IsWholeOrClosed (drop 1 m.file) f × (c ≡ goal_in j v.goal l))) (stay.file told) pairs))

      closes : (out : SinkCall) (answer : Answer) → (has_no_close answer ≡ true → ⊥) → IsUnless answer done
          → FinishComes (bench_call tells s d) out w f.broken answer → Finishes (bench_call tells s d) out w answer
      closes out answer its due comes = ends_in_close tells w s m out answer stands.whole only stay d f.broken its comes f.moments its_local (λ serves. due)
          cells (close_from o has close)

      pub ends_done : (q : SinkState) → d.file ≡ 0 ∷ drop 1 m.file → TookAll (sink_call sinks p q) done_text
          → Finishes (bench_call tells s d) (sink_call sinks p q) w done
      ends_done q file took = closes (sink_call sinks p q) done (λ is. cc) (inl refl)
          (record { file = file ∙ ap (λ (b : List ℕ). 0 ∷ b) behind; reached = reached }, took)

      pub ends_cut : (q : SinkState) → d.file ≡ 0 ∷ drop 1 m.file → TookPart (sink_call sinks p q) done_text
          → Finishes (bench_call tells s d) (sink_call sinks p q) w (refused output_fault)
      ends_cut q file took = closes (sink_call sinks p q) (refused output_fault) (λ is. cc) (inr refl)
          (record { file = file ∙ ap (λ (b : List ℕ). 0 ∷ b) behind; reached = reached }, took)

      -- after a close that failed
      pub ends_unclosed : IsWholeOrClosed (drop 1 m.file) d.file → Finishes (bench_call tells s d) (sink_call sinks p p) w (refused store_fault)
      ends_unclosed file = closes (sink_call sinks p p) (refused store_fault) (λ is. cc) (inr refl) (
        inr (
          ⊎_elim
              (λ (is : IsWhole (drop 1 m.file) d.file). inl (is ∙ ap (λ (b : List ℕ). 165 ∷ b) behind))
              (λ (closed : IsClosed (drop 1 m.file) d.file). inr closed.free)
              file,
          reached,
        ),
        nothing,
      )
