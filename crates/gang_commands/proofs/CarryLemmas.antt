-- A target whose job was opened and surveyed, and which has ended.
use Rattle.std.proofs.Common.{◌≡◌, ◌⊎◌, ⊎_elim, inl, inr, ◌<◌, ◌≤◌, ◌∙◌, refl, sym, ap, subst, arith, ℕ, IsTrue, List, [], length, get_or, Some}
use Rattle.std.proofs.lemmas.Bool.{cases_lt}
use Rattle.std.proofs.lemmas.List.{get_or-map}
use Rattle.bench_model.specs.declared.bench.Bench.{Ghosts}
use Rattle.bench_model.specs.Counted.{is_store_fault, is_device_fault, IsCounted}
use Rattle.bench_model.specs.History.{GoesOn}
use Rattle.bench_model.specs.Pairs.{PairsLeave, PairsInTurn}
use Rattle.bench_model.specs.State.{BenchState, Left, file_half, cells_half}
use Rattle.board_file.specs.Limits.{size_of}
use Rattle.board_file.specs.Shown as board
use Rattle.target_core.specs.World.{World}
use Rattle.job_text.specs.Body.{body_of}
use Rattle.job_text.specs.Files.{IsWhole}
use Rattle.job_text.specs.Said.{algorithms_shown}
use Rattle.job_text.specs.Stands.{StandsFor}
use Rattle.job_text.specs.declared.job.Job.{Job}
use Rattle.campaign.specs.Stops.{IsAtClose}
use Rattle.flash_session.specs.declared.fault.SurveyFault.TheVariants as survey
use Rattle.flash_session.specs.declared.goal.Goal.{Goal}
use Rattle.flash_session.specs.declared.goal.Goal.TheVariants.{New}
use Rattle.flash_session.specs.Goals.{goal_in}
use Rattle.job_text.specs.Laid.{overlaid}
use Rattle.flash_session.specs.Moves.{Stand, stand_at}
use Rattle.flash_session.specs.Script.{Leg}
use Rattle.flash_session.specs.Sessions.{job_legs}
use Rattle.flash_session.specs.Starts.{job_start}
use Rattle.flash_session.specs.Surveys.{HasSurveyed}
use Rattle.flash_session.proofs.JobLemmas.{goal_length}
use Rattle.readback.specs.declared.compare.Difference.{Difference}
use Rattle.flash_session.specs.declared.cursor.Place.{Place}
use Rattle.flash_session.specs.declared.cursor.Place.TheVariants as place
use Rattle.flash_session.specs.declared.target_end.TargetEnd.{TargetEnd}
use Rattle.flash_session.specs.declared.target_end.TargetEnd.TheVariants as ended
use Rattle.flash_session.specs.declared.target_end.Turn.TheVariants as turn
use Rattle.gang_run.specs.declared.target.GangTarget.{GangTarget}
use Rattle.flash_session.specs.Alone.{FollowsAs}
use Rattle.flash_session.specs.Fit.{IsScriptEnd}
use Rattle.flash_session.specs.Guarded.{HasBody}
use Rattle.flash_session.specs.Guarded as guarded
use Rattle.flash_session.specs.Targets.{goal_for, point_for}
use Rattle.flash_session.specs.Turns.{IsUnended, turn_of, target_fault}
use Rattle.flash_session.proofs.AloneLemmas.{stands_first}
use Rattle.gang_run.specs.declared.gang.Gang.{Gang}
use Rattle.gang_run.specs.declared.slot.Slot.{Slot}
use Rattle.gang_run.specs.declared.slot.Slot.TheVariants as slot
use Rattle.gang_run.specs.Alone.{EndsAlone}
use Rattle.gang_run.specs.Gangs.{slot_at, IsGang, AreReady, AllSince, AllKept}
use Rattle.gang_run.specs.Opening.{IsLookedAt, Begins, IsOpened, AreOpened}
use Rattle.gang_run.specs.Slots.{slot_turn, EndsByScript, IsSlot, IsReady, Counts, TargetKept, SlotKept, SlotStands, SlotSince}
use Rattle.gang_run.proofs.GangLemmas.{alone_of}
use Rattle.gang_commands.specs.Lines.{Outcome}
use Rattle.gang_commands.specs.Works.{Carries, Comes, ComesBy, IsSound}
use Rattle.gang_commands.specs.Ends.{EndsOn, AllEndOn}
use Rattle.gang_commands.specs.Puts.{HasEndedUpto}
use Rattle.gang_commands.proofs.OutcomeLemmas.{end_or, outcome_at, outcomes}
use Rattle.gang_commands.proofs.EndLemmas.{of_job, refused_ends}
use Rattle.command_files.proofs.PlaceLemmas.{has_address}

-- ---- an end by a script

over_place : (p : Place) → turn_of p ≡ turn.Ended → (e : TargetEnd) × (p ≡ place.Ended e)
over_place (place.At c) over = cc
over_place (place.In call len left next) over = cc
over_place (place.Comparing at) over = cc
over_place place.Closing over = cc
over_place (place.Ended e) over = (e, refl)

sound_script : (n : ℕ) (e : TargetEnd) → IsScriptEnd e → IsSound n e
sound_script n ended.Done is = tt
sound_script n (ended.Open fault) is = absurd is
sound_script n (ended.Survey fault) is = absurd is
sound_script n (ended.CallFailed number call end) is = is
sound_script n (ended.Mismatch d) is = is
sound_script n ended.StoreFault is = tt
sound_script n ended.DeviceFault is = tt

comes_script : {B : Type 0} (G : Ghosts B) (s : BenchState) (o : Outcome) (t : BenchState) (e : TargetEnd) → IsScriptEnd e → Carries G s o t → Comes G s o t e
comes_script G s o t ended.Done is carries = carries
comes_script G s o t (ended.Open fault) is carries = absurd is
comes_script G s o t (ended.Survey fault) is carries = absurd is
comes_script G s o t (ended.CallFailed number call end) is carries = carries
comes_script G s o t (ended.Mismatch d) is carries = carries
comes_script G s o t ended.StoreFault is carries = carries
comes_script G s o t ended.DeviceFault is carries = carries

differs_inside : (legs : List Leg) (goal : List ℕ) (a : Stand) (e : TargetEnd) (m t : BenchState) (d : Difference) → FollowsAs legs goal a e m t
    → e ≡ ended.Mismatch d → d.at < length goal
differs_inside legs goal a e m t d follows is =
    let f : FollowsAs legs goal a (ended.Mismatch d) m t = subst (λ (x : TargetEnd). FollowsAs legs goal a x m t) is follows in
    f.ends.1.inside

-- ---- stops

-- what a stop leaves of a bench that was only looked at first, and then came to its close
pairs_behind : (s m t : BenchState) (at : ℕ) (body goal laid : List ℕ) → PairsLeave s m (Left s) → GoesOn (file_half m) (file_half t)
    → GoesOn (cells_half m) (cells_half t)
    → PairsInTurn m t at (HasBody body) (guarded.IsAtClose body goal) → goal ≡ laid
    → PairsInTurn s t at (λ f c. Left s f c ⊎ IsWhole body f) (IsAtClose body laid)
pairs_behind s m t at body goal laid first files cells next is = record {
  started = omega (arith, first.files.later, next.started);
  later = omega (arith, first.files.later, next.later);
  before = λ k f c from to less f_at c_at. ⊎_elim
      (λ (early : k < m.moment). inl (first.each k f c from (omega (arith, early)) ((files.past k f (omega (arith, early))).0 f_at)
      ((cells.past k c (omega (arith, early))).0 c_at)))
      (λ (late : m.moment ≤ k). inr (next.before k f c late to less f_at c_at))
      (cases_lt k m.moment);
  from = λ k f c from to f_at c_at. let both = next.from k f c from to f_at c_at in record { whole_or_closed = both.0; done = both.1 ∙ is };
}

-- ---- a target that had made no move

abbrev carried_to : TargetEnd → Job → Outcome
carried_to e k = record { end = e; regions = Some k.board.regions }

module _ {B : Type 0} (G : Ghosts B) (s : BenchState) (begun : B) (t : BenchState) (arena arena' : List (List ℕ)) (x : GangTarget) (new : Slot)
    (begins : Begins G.tells x arena s (G.state begun)) (looked : IsLookedAt G.tells s (G.state begun))
    (ready : IsReady G.tells (slot.Open x) arena (G.state begun)) (over : slot_turn new ≡ turn.Ended) where
  abbrev m : BenchState
  m = G.state begun

  abbrev j : Job
  j = x.job

  abbrev first_stand : Stand
  first_stand = stand_at 0 (point_for x.player arena m.cells).world

  going : IsUnended x.player.place
  going = subst (λ (p : Place). IsUnended p) (sym begins.place) tt

  sized : size_of j.board.regions ≡ s.cell_count
  sized = let fit = (ready going).fit in (ready going).size ∙ sym fit.wanted ∙ sym fit.agrees.count ∙ looked.count

  stands_so : SlotStands first_stand [] (slot.Open x) arena m
  stands_so = (going, stands_first x.player (goal_for x.job x.player m.file) arena m begins.place begins.made)

  module _ (told : IsTrue G.tells) (since : SlotSince first_stand [] (slot.Open x) m new arena' t) where
    stands : StandsFor j s.file
    stands = begins.stands told

    same_file : m.file ≡ s.file
    same_file = looked.file told

    alone : EndsAlone first_stand x m new t (body_of stands.text)
    alone = alone_of first_stand x m new arena' t (body_of stands.text) (same_file ∙ stands.whole) since over

    same_job : alone.target.job ≡ x.job
    same_job = let same : slot.Open alone.target ≡ slot.Open since.target = sym alone.is ∙ since.is in
        let targets : alone.target ≡ since.target = cc in
        ap (λ (y : GangTarget). y.job) targets ∙ since.job

    abbrev its : Outcome
    its = record { end = alone.end; regions = Some j.board.regions }

    its_outcome : outcome_at new ≡ its
    its_outcome = ap outcome_at alone.is
        ∙ ap (λ (p : Place). carried_to (end_or p) alone.target.job) alone.place_is
        ∙ ap (λ (k : Job). carried_to alone.end k) same_job

    goal_is : goal_for x.job x.player m.file ≡ goal_in j New s.file
    goal_is = ap (λ (g : Goal). goal_in j g m.file) begins.goal ∙ ap (λ (f : List ℕ). goal_in j New f) same_file

    follows_so : FollowsAs (job_legs j begins.surveyed s.file) (goal_in j New s.file) (job_start j m.cells) alone.end m t
    follows_so =
        subst (λ (a : Stand). FollowsAs (job_legs j begins.surveyed s.file) (goal_in j New s.file) a alone.end m t)
        (ap (λ (w : World). stand_at 0 w) (begins.world m.cells))
        (subst (λ (g : List ℕ). FollowsAs (job_legs j begins.surveyed s.file) g first_stand alone.end m t) goal_is
        (subst (λ (l : List Leg). FollowsAs l (goal_for x.job x.player m.file) first_stand alone.end m t)
        (begins.legs ∙ ap (λ (f : List ℕ). job_legs j begins.surveyed f) same_file) alone.follows))

    its_carries : Carries G s its t
    its_carries = record {
      begun = begun;
      looked = looked;
      idle = begins.idle told;
      job = j;
      stands = stands;
      sized = sized;
      regions = refl;
      surveyed = begins.surveyed;
      found = subst (λ (f : List ℕ). HasSurveyed G.tells j New f m.cells begins.surveyed) same_file begins.found;
      follows = follows_so;
      address = λ d is. has_address j.board.regions d.at
          (subst (λ (n : ℕ). d.at < n) (goal_length j New s.file stands)
          (differs_inside (job_legs j begins.surveyed s.file) (goal_in j New s.file) (job_start j m.cells) alone.end m t d follows_so is));
      file = alone.file;
      closed = alone.idle;
      turn = alone.pairs.0;
      no_close = alone.pairs.2;
      stops = record {
        pairs = pairs_behind s m t alone.pairs.0 (body_of stands.text) (goal_for x.job x.player m.file) (overlaid j.image j.board.regions stands.text.snapshot)
            looked.pairs since.files since.goes.moments.goes_on alone.pairs.1
            (goal_is ∙ ap (λ (c : List ℕ). overlaid j.image j.board.regions c) (sym stands.snapshot));
      };
    }

    carries : Carries G s (outcome_at new) t
    carries = subst (λ (o : Outcome). Carries G s o t) (sym its_outcome) its_carries

    not_refused : ComesBy s (outcome_at new).end
    not_refused = of_job s (outcome_at new).end
        (record {
          some = record {
            job = stands.text;
            board = board.shown j.board;
            algorithms = algorithms_shown j.algorithms;
            is = stands.is;
            whole =
                stands.whole;
          };
          size = sized;
        })

  pub target_ends : TargetKept x m new t → IsSlot new → (IsTrue G.tells → (a : Stand) → SlotStands a [] (slot.Open x) arena m
      → SlotSince a [] (slot.Open x) m new arena' t) → EndsOn G s (outcome_at new) t
  target_ends kept lawful since =
      let y : GangTarget = kept.target in
      let at : (e : TargetEnd) × (y.player.place ≡ place.Ended e) = over_place y.player.place (ap slot_turn (sym kept.is) ∙ over) in
      let end_is : (outcome_at new).end ≡ at.0 = ap (λ (n : Slot). (outcome_at n).end) kept.is ∙ ap end_or at.1 in
      let by_script : IsScriptEnd at.0 = subst (λ (p : Place). EndsByScript p) at.1 (subst IsSlot kept.is lawful) in
      let script : IsScriptEnd (outcome_at new).end = subst IsScriptEnd (sym end_is) by_script in
      let counts : Counts (place.Ended at.0) m t = subst (λ (p : Place). Counts p m t) at.1 kept.counts in
      record {
        sound = sound_script s.cell_count (outcome_at new).end script;
        store = subst (λ (e : TargetEnd). IsCounted s.store_faults t.store_faults (is_store_fault (target_fault e))) (sym end_is)
            (subst (λ (n : ℕ). IsCounted n t.store_faults (is_store_fault (target_fault at.0))) begins.store counts.store);
        device = subst (λ (e : TargetEnd). IsCounted s.device_faults t.device_faults (is_device_fault (target_fault e))) (sym end_is)
            (subst (λ (n : ℕ). IsCounted n t.device_faults (is_device_fault (target_fault at.0))) begins.device counts.device);
        comes = λ told. comes_script G s (outcome_at new) t (outcome_at new).end script (carries told (since told first_stand stands_so));
        comes_by = λ told. not_refused told (since told first_stand stands_so);
      }

-- ---- each slot of a gang

module _ {B : Type 0} (G : Ghosts B) where
  slot_ends : (old : Slot) (arena arena' : List (List ℕ)) (s : BenchState) (begun bench : B) (new : Slot) → IsOpened G.tells old arena s (G.state begun)
      → IsReady G.tells old arena (G.state begun) → SlotKept G old begun new bench → IsSlot new
      → slot_turn new ≡ turn.Ended → (IsTrue G.tells → (a : Stand) → SlotStands a [] old arena (G.state begun)
      → SlotSince a [] old (G.state begun) new arena' (G.state bench)) → EndsOn G s (outcome_at new) (G.state bench)
  slot_ends (slot.Refused e) arena arena' s begun bench new opened ready kept lawful over since =
      subst (λ (b : B). EndsOn G s (outcome_at new) (G.state b)) (sym kept.1)
      (subst (λ (n : Slot). EndsOn G s (outcome_at n) (G.state begun)) (sym kept.0) (refused_ends G s (G.state begun) e opened.0 opened.1))
  slot_ends (slot.Open x) arena arena' s begun bench new opened ready kept lawful over since =
      let going : IsUnended x.player.place = subst (λ (p : Place). IsUnended p) (sym opened.1.place) tt in
      target_ends G s begun (G.state bench) arena arena' x new opened.1 opened.0 ready over (kept going) lawful since

  pub all_end : (benches begun after : List B) (opened now : Gang) → length begun ≡ length benches → length after ≡ length begun
      → length after ≡ length now.slots.items → AreOpened G benches opened begun → AreReady G opened begun
      → AllKept G opened begun now after → AllSince G opened begun now after → IsGang now → HasEndedUpto now (length begun)
      → AllEndOn G benches (outcomes now) after
  all_end benches begun after opened now long count places are ready kept since gang over i d x less =
      let inside : i < length begun = omega (arith, less, long) in
      let within : i < length now.slots.items = omega (arith, inside, count, places) in
      subst (λ (o : Outcome). EndsOn G (G.state (get_or benches i d)) o (G.state (get_or after i d)))
      (sym (get_or-map outcome_at now.slots.items i (slot.Refused (ended.Survey survey.StoreFault)) x within))
      (slot_ends (slot_at opened i) opened.arena now.arena (G.state (get_or benches i d)) (get_or begun i d) (get_or after i d) (slot_at now i) (are i d less)
      (ready i d inside) (kept i d inside) (gang.slots i) (over i inside)
      (λ told a stood. since i d a [] inside told stood))
