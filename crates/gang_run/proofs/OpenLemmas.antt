-- The opening of one slot of a gang.
use Rattle.std.proofs.Common.{◌≡◌, ◌<◌, ◌+◌, ◌^◌, ◌∙◌, ◌++◌, ℕ, Bool, IsTrue, All, List, [], ◌∷◌, length, replicate}
use Rattle.std.proofs.Common.{Option, Some, None, IsSomeAnd, IfSome, Result}
use Rattle.std.proofs.Common.{Ok, Err, IfOk, OnOk, refl, sym, ap, subst, arith}
use Rattle.std.proofs.lemmas.List.{length-replicate}
use Rattle.bench_model.specs.Calls.{IsRead}
use Rattle.bench_model.specs.Counted.{is_store_fault, is_device_fault, fault_in, IsCounted}
use Rattle.bench_model.specs.State.{SameOutside, BenchState, Left, file_half}
use Rattle.bench_model.specs.History.{LeftOnly}
use Rattle.bench_model.specs.Pairs.{PairsLeave}
use Rattle.bench_model.proofs.Moments.{still_only, pairs_as, pairs_then}
use Rattle.board_file.specs.Limits.{size_of}
use Rattle.board_file.specs.Shown.{Shown as BoardShown, shown as board_of}
use Rattle.flm_descriptor.specs.Shown.{Shown as AlgorithmShown}
use Rattle.job_text.specs.Said.{algorithms_shown}
use Rattle.job_text.specs.Stands.{StandsFor}
use Rattle.job_text.specs.declared.job.Job.{Job}
use Rattle.target_core.specs.Windows.{window_of}
use Rattle.flash_session.specs.declared.goal.Goal.{Goal}
use Rattle.flash_session.specs.declared.goal.Goal.TheVariants as goal
use Rattle.flash_session.specs.declared.parts.Parts.{Parts}
use Rattle.flash_session.specs.Goals.{goal_in}
use Rattle.flash_session.specs.declared.fault.SessionFault.{SessionFault}
use Rattle.flash_session.specs.declared.fault.SessionFault.TheVariants as session
use Rattle.flash_session.specs.Opened.{IsJobOf, IsSessionFault, IsSoundSession, session_fault}
use Rattle.flash_session.specs.Script.{Planned}
use Rattle.flash_session.specs.Sessions.{job_legs, legs_for as session_legs}
use Rattle.flash_session.specs.Starts.{start_of}
use Rattle.flash_session.specs.Surveys.{Surveyed, ArePlannedFor, HasSurveyed, survey_fault}
use Rattle.flash_session.specs.declared.target_end.TargetEnd.{TargetEnd}
use Rattle.flash_session.specs.declared.target_end.TargetEnd.TheVariants as ended
use Rattle.gang_run.specs.declared.target.GangTarget.{GangTarget}
use Rattle.flash_session.specs.Fit.{Fit}
use Rattle.flash_session.specs.Rest.{all_legs}
use Rattle.flash_session.specs.Targets.{legs_for, goal_for, point_for}
use Rattle.gang_run.specs.declared.slot.Slot.{Slot}
use Rattle.gang_run.specs.declared.slot.Slot.TheVariants as slot
use Rattle.gang_run.specs.Opening.{IsLookedAt, IsUnopened, IsRefused, Begins, unread}
use Rattle.gang_run.specs.Opens.{ram_for, IsReadyIn, Surveys, Opens, IsUnsurveyedEnd, IsTargetOf, GivesSlot, PutsSlot}
use Rattle.faults.specs.declared.out_of_memory.OutOfMemory.{OutOfMemory}
use Rattle.flash_session.specs.declared.fault.SurveyFault.{SurveyFault}
use Rattle.flash_session.specs.Parts.{IsPlayerOf}
use Rattle.flash_session.proofs.GoLemmas.{player_fit}

-- ---- what was surveyed, where the bench tells its contents

planned_as : (tells : Bool) (b : BoardShown) (region : ℕ) (algorithms : List AlgorithmShown) (cells goal cells' goal' : List ℕ) (regions : List Planned)
    → (IsTrue tells → cells' ≡ cells) → (IsTrue tells → goal' ≡ goal)
    → ArePlannedFor tells b region algorithms cells goal regions → ArePlannedFor tells b region algorithms cells' goal' regions
planned_as tells b region [] cells goal cells' goal' [] one two are = tt
planned_as tells b region (a ∷ rest) cells goal cells' goal' (p ∷ more) one two are = (
  record {
    layout = are.0.layout;
    lawful = are.0.lawful;
    base = are.0.base;
    empty = are.0.empty;
    plan = λ told. rw (one told, two told) (are.0.plan told);
    some = are.0.some;
    entry = are.0.entry;
  },
  planned_as tells b (region + 1) rest cells goal cells' goal' more one two are.1,
)
planned_as tells b region algorithms cells goal cells' goal' regions one two are = absurd are

found_as : (tells : Bool) (j : Job) (g : Goal) (file cells file' cells' : List ℕ) (w : Surveyed) → (IsTrue tells → file' ≡ file)
    → (IsTrue tells → cells' ≡ cells) → HasSurveyed tells j g file cells w → HasSurveyed tells j g file' cells' w
found_as tells j g file cells file' cells' w one two found = record {
  regions = planned_as tells (board_of j.board) 0 (algorithms_shown j.algorithms) cells (goal_in j g file) cells' (goal_in j g file') w.regions two
      (λ told. ap (λ (f : List ℕ). goal_in j g f) (one told)) found.regions;
  goal = found.goal;
  bytes = λ told. subst (λ (l : List ℕ). All (λ v. v < 2 ^ 8) l) (sym (two told)) (found.bytes told);
  wanted = λ told. subst (λ (f : List ℕ). All (λ v. v < 2 ^ 8) (goal_in j g f)) (sym (one told)) (found.wanted told);
}

-- ---- a target of a survey

-- after the survey
module _ (tells : Bool) (j : Job) (window : ℕ) (s t : BenchState) (reads : IsRead tells s t) (count : s.cell_count ≡ size_of j.board.regions)
    (idle : IsTrue tells → s.operation ≡ None)
    (stands : IsTrue tells → StandsFor j s.file) (only : IsTrue tells → LeftOnly s.file (file_half s)) where
  module _ (store : t.store_faults ≡ s.store_faults) (device : t.device_faults ≡ s.device_faults) (w : Surveyed)
      (found : HasSurveyed tells j goal.New s.file s.cells w)
      (x : GangTarget) (job_is : x.job ≡ j) (window_is : x.player.window ≡ window) (is : IsPlayerOf j w x.player) where
    goal_file : goal_for x.job x.player t.file ≡ goal_in j goal.New t.file
    goal_file = ap (λ (k : Job). goal_in k x.player.work.goal t.file) job_is ∙ ap (λ (g : Goal). goal_in j g t.file) (is.goal ∙ found.goal)

    legs_is : all_legs (legs_for x.player (goal_for x.job x.player t.file)) ≡ job_legs x.job w t.file
    legs_is =
        ap (λ (l : List ℕ). all_legs (legs_for x.player l)) goal_file
        ∙ is.legs (goal_in j goal.New t.file)
        ∙ ap (λ (g : Goal). session_legs (board_of j.board) 0 (algorithms_shown j.algorithms) (goal_in j g t.file) w.regions) (sym found.goal)
        ∙ sym (ap (λ (k : Job). job_legs k w t.file) job_is)

    module _ (arena : List (List ℕ)) (inside : window < length arena) (zeros : window_of arena window ≡ replicate (ram_for x) 0) where
      blank : window_of arena x.player.window ≡ replicate j.board.ram_size 0
      blank = ap (λ (i : ℕ). window_of arena i) window_is ∙ zeros ∙ ap (λ (k : Job). replicate k.board.ram_size 0) job_is

      world : (cells : List ℕ) → (point_for x.player arena cells).world ≡ start_of (board_of j.board) cells
      world cells = is.starts arena x.player.window cells blank

      fit : Fit tells x.player arena t
      fit = player_fit j w x.player is tells arena t (
        omega (arith, window_is, inside),
        ap (λ (l : List ℕ). length l) blank
            ∙ length-replicate j.board.ram_size 0 ∙ sym is.ram,
      ) world
          (reads.cells.count ∙ count) (λ told. reads.cells.operation told ∙ idle told)

      begins : Begins tells x arena s t
      begins = record {
        place = is.place;
        made = is.made;
        goal = is.goal ∙ found.goal;
        stands = λ told. subst (λ (k : Job). StandsFor k s.file) (sym job_is) (stands told);
        only = λ told. subst (λ (f : List ℕ). LeftOnly f (file_half t)) (sym (reads.file.file told)) (still_only s.file reads.file.moments (only told));
        idle = λ told. reads.cells.operation told ∙ idle told;
        world = λ cells. world cells ∙ ap (λ (k : Job). start_of (board_of k.board) cells) (sym job_is);
        surveyed = w;
        found = subst (λ (k : Job). HasSurveyed tells k goal.New t.file t.cells w) (sym job_is)
            (found_as tells j goal.New s.file s.cells t.file t.cells w reads.file.file reads.cells.cells found);
        legs = legs_is;
        store = store;
        device = device;
      }

    ready_in : IsReadyIn tells window x s t
    ready_in = record {
      window_is = window_is;
      size = ap (λ (k : Job). size_of k.board.regions) job_is ∙ is.size;
      begins =
          λ arena inside zeros. (begins arena inside zeros, fit arena inside zeros);
    }

  slot_made : t.store_faults ≡ s.store_faults → t.device_faults ≡ s.device_faults → (w : Surveyed) → HasSurveyed tells j goal.New s.file s.cells w → (p : Slot)
      → IsTargetOf j w window p → Surveys tells j window p s t
  slot_made store device w found (slot.Refused e) is = absurd is
  slot_made store device w found (slot.Open x) is = (ready_in store device w found x is.0 is.1 is.2, is.0)

  pub surveyed_so : (o : Option Surveyed) (r : Result (Unit {0}) SurveyFault) (q : Result Slot OutOfMemory)
      → OnOk r (IsSomeAnd o (λ w. HasSurveyed tells j goal.New s.file s.cells w)) → GivesSlot j o window r q
      → IsCounted s.store_faults t.store_faults (is_store_fault (fault_in survey_fault r))
      → IsCounted s.device_faults t.device_faults (is_device_fault (fault_in survey_fault r)) → IfOk q (λ p. Surveys tells j window p s t)
  surveyed_so None (Ok u) (Ok p) found gives store device = absurd found
  surveyed_so (Some w) (Ok u) (Ok p) found gives store device = slot_made (store.on_other refl) (device.on_other refl) w found p gives
  surveyed_so o (Err fault) (Ok p) found gives store device = subst (λ (z : Slot). Surveys tells j window z s t) (sym gives.0)
      (record { memory = gives.1; store = store; device = device })
  surveyed_so o r (Err e) found gives store device = tt

-- the slot that the parts of a session become
pub parts_to : (o : Option Surveyed) (j : Job) (window : ℕ) (parts : Parts) (p : Slot) → parts.job ≡ j → IfSome o (λ w. IsPlayerOf j w parts.player)
    → ((k : Job) (w : Surveyed) → parts.job ≡ k → IsPlayerOf k w parts.player → IsTargetOf k w window p) → IfSome o (λ w. IsTargetOf j w window p)
parts_to None j window parts p job is made = tt
parts_to (Some w) j window parts p job is made = made j w job is

-- ---- a bench that was looked at, and then read

pub looked_then : (tells : Bool) (s m t : BenchState) → IsLookedAt tells s m → IsRead tells m t → PairsLeave m t (Left m) → IsLookedAt tells s t
looked_then tells s m t one read pairs = record {
  file = λ told. read.file.file told ∙ one.file told;
  same = λ told. subst (λ (l : List ℕ). SameOutside s.operation s.cells l) (sym (read.cells.cells told)) (one.same told);
  count = read.cells.count ∙ one.count;
  pairs = pairs_then (Left s) one.pairs (pairs_as (Left m) (Left s) (λ f c at. one.pairs.each m.moment f c one.pairs.files.later (omega arith) at.0 at.1)
      pairs);
}

-- ---- after the opening of the job

module _ (tells : Bool) (j : Job) (window : ℕ) (s m t : BenchState) (stands : IsTrue tells → StandsFor j s.file)
    (count : size_of j.board.regions ≡ m.cell_count) (looked : IsLookedAt tells s m) (store : m.store_faults ≡ s.store_faults)
    (device : m.device_faults ≡ s.device_faults) where
  job_of : IsTrue tells → IsJobOf s.file s.cell_count
  job_of told = let is = stands told in record {
    some = record { job = is.text; board = board_of j.board; algorithms = algorithms_shown j.algorithms; is = is.is; whole = is.whole };
    size = count ∙ looked.count;
  }

  refused_end : (e : TargetEnd) → IsUnsurveyedEnd e m t → IsRefused tells e s t
  refused_end ended.Done is = is
  refused_end (ended.Open fault) is = absurd is
  refused_end (ended.Survey fault) is = record {
    memory = is.memory;
    job = job_of;
    store = subst (λ (n : ℕ). IsCounted n t.store_faults (is_store_fault (survey_fault fault))) store is.store;
    device = subst (λ (n : ℕ). IsCounted n t.device_faults (is_device_fault (survey_fault fault))) device is.device;
  }
  refused_end (ended.CallFailed number call e) is = is
  refused_end (ended.Mismatch d) is = is
  refused_end ended.StoreFault is = is
  refused_end ended.DeviceFault is = is

  begins_from : (x : GangTarget) (arena : List (List ℕ)) → x.job ≡ j → Begins tells x arena m t → Begins tells x arena s t
  begins_from x arena job is = record {
    place = is.place;
    made = is.made;
    goal = is.goal;
    stands = λ told. subst (λ (k : Job). StandsFor k s.file) (sym job) (stands told);
    only = is.only;
    idle = is.idle;
    world = is.world;
    surveyed = is.surveyed;
    found = is.found;
    legs = is.legs;
    store = is.store ∙ store;
    device = is.device ∙ device;
  }

  slot_opens : (p : Slot) → Surveys tells j window p m t → Opens tells window p s t
  slot_opens (slot.Refused e) is = refused_end e is
  slot_opens (slot.Open x) is = record {
    window_is = is.0.window_is;
    size = is.0.size;
    begins = λ arena inside blank. let both = is.0.begins arena inside blank in (begins_from x arena is.1 both.0, both.1);
  }

  pub opens_then : {E : Type 0} (r : Result Slot E) → IfOk r (λ p. Surveys tells j window p m t) → IfOk r (λ p. Opens tells window p s t)
  opens_then (Ok p) is = slot_opens p is
  opens_then (Err e) is = tt

-- a device fault in the opening of the job
pub unopened_device : (T : Type 0) (tells : Bool) (fault : SessionFault) (s t : BenchState) → fault ≡ session.DeviceFault
    → (IsTrue tells → IsSessionFault s.file s.cell_count fault) → IsSoundSession s.cell_count fault
    → IsCounted s.store_faults t.store_faults (is_store_fault (session_fault fault))
    → IsCounted s.device_faults t.device_faults (is_device_fault (session_fault fault)) → IsUnopened tells session.DeviceFault s t
unopened_device T tells fault s t is refused sound store device = record {
  memory = tt;
  reads = tt;
  refused = λ told. subst (λ (x : SessionFault). IsSessionFault s.file s.cell_count x) is (refused told);
  sound = subst (λ (x : SessionFault). IsSoundSession s.cell_count x) is sound;
  store = subst (λ (x : SessionFault). IsCounted s.store_faults t.store_faults (is_store_fault (session_fault x))) is store;
  device = subst (λ (x : SessionFault). IsCounted s.device_faults t.device_faults (is_device_fault (session_fault x))) is device;
}

-- ---- a bench whose job file failed

-- the slot of a bench whose job file failed is added after those before it
pub put_unread : (p : Slot) (slots : List Slot) (sizes : List ℕ) (slots' : List Slot) (sizes' : List ℕ) (r : Result (Unit {0}) OutOfMemory)
    → PutsSlot p slots sizes slots' sizes' r → p ≡ unread → OnOk r (slots' ≡ slots ++ (unread ∷ []))
put_unread p slots sizes slots' sizes' (Ok u) puts is = puts.0 ∙ ap (λ (q : Slot). slots ++ (q ∷ [])) is
put_unread p slots sizes slots' sizes' (Err e) puts is = tt
