-- What a stop leaves is safe in every campaign, by induction on the list of calls.
use Rattle.std.proofs.Common.{◌≡◌, ◌⊎◌, ⊎_elim, inl, inr, ◌∙◌, sym, ap, subst, ◌≤◌, ◌<◌, arith, ℕ, suc, List, [], ◌∷◌, Option, None, Ok}
use Rattle.std.proofs.lemmas.Bool.{cases_lt}
use Rattle.bench_model.specs.History.{left}
use Rattle.bench_model.specs.State.{BenchState, file_half, cells_half, Left}
use Rattle.bench_model.specs.Pairs.{PairsInTurn}
use Rattle.board_file.specs.Shown as board
use Rattle.board_file.specs.Text.{reading}
use Rattle.job_text.specs.Files.{IsFree, IsWhole}
use Rattle.job_text.specs.Body as written
use Rattle.job_text.specs.Laid.{overlaid}
use Rattle.job_text.proofs.OneTextLemmas.{one_text}
use Rattle.campaign.specs.Stops.{IsUntouched, IsAtClose, HasNoClose, IsDone, IsTold, last_at, IsSafePair, IsSafe}
use Rattle.campaign.proofs.CampaignLemmas.{in_turn, reads, enters}
use Rattle.flash_session.specs.declared.goal.Goal.{Goal}
use Rattle.flash_session.specs.declared.goal.Goal.TheVariants.{New, Old}
use Rattle.command_words.specs.Files.{FilesAsked}
use Rattle.command_files.proofs.FileLemmas.{not_free}
use Rattle.promise.specs.Job.{Job, laid, campaign_job}
use Rattle.promise.specs.Texts.{SaysJob}
use Rattle.promise.specs.Promise.{Call, AtEachStop, IsIdle, IsBegun, ProgramsJob, BeginsJob, TakesUp, KeepsPromise}
use Rattle.promise.specs.Campaign.{Later, command_to, goal_of, IsWithin, AllFollow, AllKeep, IsSafeCall, AllSafe, IsSafeFrom, AllEnter, AllIdle, IsIdleFrom}
use Rattle.promise.specs.Campaign.{IsFirst}

-- ---- one job

pub whole_text : (job : Job) (says : SaysJob job) (f : List ℕ) → IsWhole job.body f → IsWhole (written.body_of says.text) f
whole_text job says f whole = subst (λ (b : List ℕ). IsWhole b f) says.body_is whole

never_free : (job : Job) → SaysJob job → (f : List ℕ) → IsWhole job.body f → IsFree f → ⊥
never_free job says f whole free = not_free says.text f (whole_text job says f whole) free

pub one_body : (a b f : List ℕ) → IsWhole a f → IsWhole b f → a ≡ b
one_body a b f one two = let e : 165 ∷ a ≡ 165 ∷ b = sym one ∙ two in cc

-- a body has one goal
same_goal : (goal : Goal) (a b : Job) → SaysJob a → SaysJob b → a.body ≡ b.body → goal_of goal a ≡ goal_of goal b
same_goal goal a b says said body = by goal
  where
    texts : says.text ≡ said.text
    texts = one_text says.text said.text says.has_fields said.has_fields (sym says.body_is ∙ body ∙ said.body_is)

    boards : says.board ≡ said.board
    boards = let e : Ok says.board ≡ Ok said.board = sym says.is_board ∙ ap (λ (j : written.Job). reading j.board) texts ∙ said.is_board in cc

    snapshots : a.snapshot ≡ b.snapshot
    snapshots = says.snapshot_is ∙ ap (λ (j : written.Job). j.snapshot) texts ∙ sym said.snapshot_is

    lays : laid a ≡ laid b
    lays =
        let images : a.image ≡ b.image = says.image_is ∙ ap (λ (j : written.Job). j.image) texts ∙ sym said.image_is in
        let regions : a.regions ≡ b.regions = says.regions_are ∙ ap (λ (s : board.Shown). s.regions) boards ∙ sym said.regions_are in
        λ i. overlaid (images i) (regions i) (snapshots i)

    by : (goal : Goal) → goal_of goal a ≡ goal_of goal b
    by New = lays
    by Old = snapshots

-- ---- one call

-- a call that never reaches its close
never : (body : List ℕ) (call : Call) (end : ℕ) (goal : List ℕ) (First : List ℕ → List ℕ → Type 0) → IsWithin call end
    → AtEachStop call (λ moment f c. First f c) → PairsInTurn call.old call.new (suc call.new.moment) First (IsAtClose body goal)
never body call end goal First within stops = record {
  started = omega (arith, within.0, within.1);
  later = omega (arith, within.0, within.1);
  before = λ k f c from to early f_at c_at. stops k f c from to f_at c_at;
  from = λ k f c late to f_at c_at. absurd (omega (arith, late, to));
}

-- a call that reaches its close at the moment `at` or later
record Closes (body : List ℕ) (call : Call) (goal : List ℕ) (First : List ℕ → List ℕ → Type 0) (at : ℕ) : Type 0 where
  closing : ℕ
  pairs : PairsInTurn call.old call.new closing First (IsAtClose body goal)
  later : at ≤ closing

closes : (body : List ℕ) (call : Call) (end : ℕ) (goal : List ℕ) (First : List ℕ → List ℕ → Type 0) → IsWithin call end → (at : ℕ)
    → AtEachStop call (λ moment f c. moment < at → First f c) → AtEachStop call (λ moment f c. at ≤ moment → IsAtClose body goal f c)
    → Closes body call goal First at
closes body call end goal First within at early_stops late_stops = ⊎_elim
    (λ (early : at < call.old.moment). record {
      closing = call.old.moment;
      pairs = record {
        started = omega arith;
        later = omega (arith, within.0, within.1);
        before = λ k f c entered to early_ f_at c_at. absurd (omega (arith, entered, early_));
        from = λ k f c late to f_at c_at. late_stops k f c late to f_at c_at (omega (arith, early, late));
      };
      later = omega (arith, early);
    })
    (λ (late : call.old.moment ≤ at). record {
      closing = at;
      pairs = record {
        started = late;
        later = omega (arith, within.0, within.1);
        before = λ k f c entered to early f_at c_at. early_stops k f c entered to f_at c_at early;
        from = λ k f c late_ to f_at c_at. late_stops k f c (omega (arith, late, late_)) to f_at c_at late_;
      };
      later = omega arith;
    })
    (cases_lt at call.old.moment)

went : (goal : Goal) (call : Call) → KeepsPromise (command_to goal) call → IsIdle call ⊎ TakesUp call (goal_of goal)
went New call keeps = keeps
went Old call keeps = keeps

module _ (start : BenchState) (job : Job) (says : SaysJob job) (free : (g : List ℕ) → left (file_half start) g → IsFree g) where
  abbrev Good : Option (List ℕ) → List ℕ → List ℕ → Type 0
  Good last f c = IsSafePair start (campaign_job job) last f c

  record Step (last : Option (List ℕ)) (goal : Goal) (call : Call) (end : ℕ) : Type 0 where
    closing : ℕ
    safe : IsSafeCall start job last (record { goal = goal; call = call; end = end }) closing

  -- one later call
  step : (last : Option (List ℕ)) (goal : Goal) (call : Call) (end : ℕ) → IsWithin call end
      → ((f c : List ℕ) → left (file_half call.old) f → left (cells_half call.old) c → Good last f c) → IsTold call.old
      → KeepsPromise (command_to goal) call → Step last goal call end
  step last goal call end within good told keeps = ⊎_elim
      (λ (refused : IsIdle call). record {
        closing = suc call.new.moment;
        safe = record {
          stopped = in_turn start (campaign_job job) last call.old call.new (suc call.new.moment) (goal_of goal job) (λ f c. Left call.old f c)
              (λ f c l. good f c l.0 l.1) (never job.body call end (goal_of goal job) (λ f c. Left call.old f c) within refused.stopped);
          before = λ k f c from to f_at c_at early. inl (refused.stopped k f c from to f_at c_at);
          from = λ k f c from to f_at c_at late. absurd (omega (arith, to, late));
          free = λ is_free. omega arith;
          no_close = λ none. omega arith;
          done = λ zero. absurd (refused.not_done zero);
        };
      })
      (λ (goes : TakesUp call (goal_of goal)).
      let whole : IsWhole job.body call.old.file = ⊎_elim
      (λ (is_free : IsFree call.old.file). absurd (never_free goes.job goes.carries.says call.old.file goes.whole is_free))
      (λ (is_whole : IsWhole job.body call.old.file). is_whole)
      (reads start (campaign_job job) last call.old.file call.old.cells free (good call.old.file call.old.cells told.as_read told.as_told)) in
      let body : goes.job.body ≡ job.body = one_body goes.job.body job.body call.old.file goes.whole whole in
      finish goes whole body (same_goal goal goes.job job goes.carries.says says body))
      (went goal call keeps)
    where
      first : (f c : List ℕ) → Left call.old f c ⊎ IsWhole job.body f → Good last f c
      first f c either = ⊎_elim (λ (l : Left call.old f c). good f c l.0 l.1) (λ (w : IsWhole job.body f). inr (inl w)) either

      finish : (goes : TakesUp call (goal_of goal)) → IsWhole job.body call.old.file → goes.job.body ≡ job.body → goal_of goal goes.job ≡ goal_of goal job
          → Step last goal call end
      finish goes whole body same =
          let early_stops : AtEachStop call (λ moment f c. moment < goes.carries.closing → Left call.old f c ⊎ IsWhole job.body f) =
          λ k f c from to f_at c_at early. subst (λ (b : List ℕ). Left call.old f c ⊎ IsWhole b f) body
          (goes.carries.before k f c from to f_at c_at early) in
          let at_close : AtEachStop call (λ moment f c. goes.carries.closing ≤ moment → IsAtClose job.body (goal_of goal job) f c) =
          λ k f c from to f_at c_at late. subst (λ (b : List ℕ). IsAtClose b (goal_of goal job) f c) body
          (subst (λ (g : List ℕ). IsAtClose goes.job.body g f c) same (goes.carries.from k f c from to f_at c_at late)) in
          let it = closes job.body call end (goal_of goal job) (λ f c. Left call.old f c ⊎ IsWhole job.body f) within goes.carries.closing early_stops
          at_close in
          record {
            closing = it.closing;
            safe = record {
              stopped = in_turn start (campaign_job job) last call.old call.new it.closing (goal_of goal job) (λ f c. Left call.old f c ⊎ IsWhole job.body f)
                  first it.pairs;
              before = λ k f c from to f_at c_at early. it.pairs.before k f c from to early f_at c_at;
              from = λ k f c from to f_at c_at late. it.pairs.from k f c late to f_at c_at;
              free = λ is_free. absurd (never_free job says call.old.file whole is_free);
              no_close = λ none. omega (arith, goes.carries.no_close none, it.later);
              done = λ zero. (
                whole,
                subst (λ (b : List ℕ). IsDone b (goal_of goal job) call.new) body
                    (subst (λ (g : List ℕ). IsDone goes.job.body g call.new) same (goes.carries.done zero)),
              );
            };
          }

  all : (last : Option (List ℕ)) (old new : BenchState) (closing : ℕ) (goal : List ℕ) (end : ℕ) (later : List Later) → old.moment ≤ end → end ≤ new.moment
      → IsSafe start (campaign_job job) last old new closing goal → AllKeep later → AllFollow job new end later
      → AllSafe start job (last_at last closing goal end) later
  all last old new closing goal end [] entered in_time safe keep follow = tt
  all last old new closing goal end (next ∷ rest) entered in_time safe keep follow =
      let now = last_at last closing goal end in
      let good = enters start (campaign_job job) last old new closing goal end next.call.old entered in_time safe follow.0 in
      let s = step now next.goal next.call next.end follow.1 good follow.0.told keep.0 in (
        s.closing,
        s.safe,
        all now next.call.old next.call.new s.closing (goal_of next.goal job) next.end rest follow.1.0 follow.1.1 s.safe.stopped keep.1 follow.2,
      )

-- ---- after a first call that was refused

module _ (start : BenchState) (free : (g : List ℕ) → left (file_half start) g → IsFree g) where
  all_idle : (new : BenchState) (end : ℕ) (later : List Later) → ((f c : List ℕ) → new.files_at end f → new.cells_at end c → Left start f c)
      → AllKeep later → AllEnter new end later → AllIdle start later
  all_idle new end [] good keep enter = tt
  all_idle new end (next ∷ rest) good keep enter =
      let entered : (f c : List ℕ) → Left next.call.old f c → Left start f c = λ f c at. let was = enter.1 f c at in good f c was.0 was.1 in
      let is_free : IsFree next.call.old.file =
      free next.call.old.file (entered next.call.old.file next.call.old.cells (enter.0.as_read, enter.0.as_told)).0 in
      ⊎_elim
      (λ (refused : IsIdle next.call). (
        refused.not_done,
        (λ k f c from to f_at c_at. entered f c (refused.stopped k f c from to f_at c_at)),
        all_idle next.call.new next.end rest
            (λ f c f_at c_at. entered f c (refused.stopped next.end f c enter.2.0 enter.2.1 f_at c_at)) keep.1 enter.3,
      ))
      (λ (goes : TakesUp next.call (goal_of next.goal)). absurd (never_free goes.job goes.carries.says next.call.old.file goes.whole is_free))
      (went next.goal next.call keep.0)

-- ---- from the first call on

module _ (asked : FilesAsked) (first : Call) (end : ℕ) (later : List Later) (is : IsFirst asked first end) (keep : AllKeep later) where
  either : (job : Job) (f c : List ℕ) → IsUntouched first.old f c ⊎ IsWhole job.body f → IsSafePair first.old (campaign_job job) None f c
  either job f c first_ = ⊎_elim (λ (u : IsUntouched first.old f c). inl u) (λ (w : IsWhole job.body f). inr (inl w)) first_

  abbrev Pairs : Job → ℕ → Type 0
  Pairs job closing =
      PairsInTurn first.old first.new closing (λ f c. IsUntouched first.old f c ⊎ IsWhole job.body f) (IsAtClose job.body (laid job))

  safe_by : (job : Job) (closing : ℕ) → Pairs job closing → IsSafe first.old (campaign_job job) None first.old first.new closing (laid job)
  safe_by job closing pairs = in_turn first.old (campaign_job job) None first.old first.new closing (laid job)
      (λ f c. IsUntouched first.old f c ⊎ IsWhole job.body f) (either job) pairs

  follows : (job : Job) (begun : IsBegun first asked job) (closing : ℕ) → Pairs job closing → AllFollow job first.new end later
      → AllSafe first.old job (last_at None closing (laid job) end) later
  follows job begun closing pairs follow =
      all first.old job begun.files.says is.free None first.old first.new closing (laid job) end later is.within.0 is.within.1
      (safe_by job closing pairs) keep follow

  begun_safe : (job : Job) (begun : IsBegun first asked job) (closing : ℕ) → Pairs job closing → (HasNoClose first.status → first.new.moment < closing)
      → IsSafeFrom asked first end later
  begun_safe job begun closing pairs no_close = record {
    job = job;
    begun = begun;
    closing = closing;
    stopped = safe_by job closing pairs;
    from = λ k f c from to f_at c_at late. pairs.from k f c late to f_at c_at;
    no_close = no_close;
    safe = follows job begun closing pairs;
  }

  program_closes : (it : ProgramsJob first asked)
      → Closes it.job.body first (laid it.job) (λ f c. IsUntouched first.old f c ⊎ IsWhole it.job.body f) it.carries.closing
  program_closes it = closes it.job.body first end (laid it.job) (λ f c. IsUntouched first.old f c ⊎ IsWhole it.job.body f) is.within
      it.carries.closing it.carries.before it.carries.from

  begin_pairs : (it : BeginsJob first asked) → Pairs it.job (suc first.new.moment)
  begin_pairs it = never it.job.body first end (laid it.job) (λ f c. IsUntouched first.old f c ⊎ IsWhole it.job.body f) is.within it.stopped

  programmed : ProgramsJob first asked → IsSafeFrom asked first end later
  programmed it =
      let c = program_closes it in begun_safe it.job it.begun c.closing c.pairs (λ none. omega (arith, it.carries.no_close none, c.later))

  only_begun : BeginsJob first asked → IsSafeFrom asked first end later
  only_begun it = begun_safe it.job it.begun (suc first.new.moment) (begin_pairs it) (λ none. omega arith)

  pub program_follows : (it : ProgramsJob first asked) → AllFollow it.job first.new end later
      → (last : Option (List ℕ)) × AllSafe first.old it.job last later
  program_follows it follow =
      let c = program_closes it in (last_at None c.closing (laid it.job) end, follows it.job it.begun c.closing c.pairs follow)

  pub begin_follows : (it : BeginsJob first asked) → AllFollow it.job first.new end later
      → (last : Option (List ℕ)) × AllSafe first.old it.job last later
  begin_follows it follow =
      (last_at None (suc first.new.moment) (laid it.job) end, follows it.job it.begun (suc first.new.moment) (begin_pairs it) follow)

  nothing_done : IsIdle first → IsIdleFrom first end later
  nothing_done refused = record {
    refused = refused;
    idle = λ enter. all_idle first.old is.free first.new end later
        (λ f c f_at c_at. refused.stopped end f c is.within.0 is.within.1 f_at c_at) keep enter;
  }

  pub are_safe : IsIdleFrom first end later ⊎ IsSafeFrom asked first end later
  are_safe = ⊎_elim
      (λ (either_ : IsIdle first ⊎ ProgramsJob first asked). ⊎_elim
      (λ (r : IsIdle first). inl (nothing_done r))
      (λ (it : ProgramsJob first asked). inr (programmed it))
      either_)
      (λ (either_ : IsIdle first ⊎ BeginsJob first asked). ⊎_elim
      (λ (r : IsIdle first). inl (nothing_done r))
      (λ (it : BeginsJob first asked). inr (only_begun it))
      either_)
      is.keeps
