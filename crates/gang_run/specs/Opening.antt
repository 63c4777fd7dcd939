-- What the opening of a gang leaves.
use Rattle.std.specs.Prelude.{◌≡◌, ◌<◌, ◌⊎◌, ℕ, Bool, IsTrue, List, length, get_or, Result, Ok, Err, None}
use Rattle.bench_model.specs.declared.bench.Bench.{Ghosts}
use Rattle.bench_model.specs.Counted.{is_store_fault, is_device_fault, IsCounted}
use Rattle.bench_model.specs.State.{SameOutside, BenchState, Left, file_half}
use Rattle.bench_model.specs.History.{LeftOnly}
use Rattle.bench_model.specs.Pairs.{PairsLeave}
use Rattle.board_file.specs.Shown.{shown as board_of}
use Rattle.job_file.specs.First.{SyncsFirst}
use Rattle.job_file.specs.declared.fault.OpenFault.TheVariants as opening
use Rattle.job_text.specs.Stands.{StandsFor}
use Rattle.flash_session.specs.declared.fault.SessionFault.{SessionFault}
use Rattle.flash_session.specs.declared.fault.SessionFault.TheVariants as session
use Rattle.flash_session.specs.declared.fault.SurveyFault.{SurveyFault}
use Rattle.flash_session.specs.declared.goal.Goal.TheVariants as to_goal
use Rattle.flash_session.specs.Opened.{IsJobOf, IsSessionFault, IsSoundSession, ReadsIfRefused, session_fault}
use Rattle.flash_session.specs.Sessions.{job_legs}
use Rattle.flash_session.specs.Starts.{start_of}
use Rattle.flash_session.specs.Surveys.{Surveyed, HasSurveyed, survey_fault}
use Rattle.flash_session.specs.declared.target_end.TargetEnd.{TargetEnd}
use Rattle.flash_session.specs.declared.target_end.TargetEnd.TheVariants as ended
use Rattle.flash_session.specs.declared.cursor.Cursor.TheVariants as at
use Rattle.flash_session.specs.declared.phase.Phase.TheVariants as stage
use Rattle.flash_session.specs.declared.cursor.Place.TheVariants as place
use Rattle.gang_run.specs.declared.target.GangTarget.{GangTarget}
use Rattle.flash_session.specs.declared.cursor.RegionIndex.TheVariants.{First}
use Rattle.flash_session.specs.Rest.{all_legs}
use Rattle.flash_session.specs.Targets.{legs_for, goal_for, point_for}
use Rattle.gang_run.specs.declared.gang.Gang.{Gang}
use Rattle.gang_run.specs.declared.slot.Slot.{Slot}
use Rattle.gang_run.specs.declared.slot.Slot.TheVariants as slot
use Rattle.gang_run.specs.Gangs.{slot_at}
use Rattle.gang_run.specs.Slots.{OpensWithMemory, HasMemory}

-- A bench was only looked at, and an operation that was open on it was broken off. The file as read and the cells outside that operation
-- are unchanged, and a stop leaves only what it could leave before.
pub record IsLookedAt (tells : Bool) (s t : BenchState) : Type 0 where
  pub file : IsTrue tells → t.file ≡ s.file
  pub same : IsTrue tells → SameOutside s.operation s.cells t.cells
  pub count : t.cell_count ≡ s.cell_count
  pub pairs : PairsLeave s t (Left s)

abbrev pub refused_so : SessionFault → Result (Unit {0}) SessionFault
refused_so fault = Err fault

-- the job of a bench wasn't opened: it was refused for a reason that a session gives for this file and number of cells
pub record IsUnopened (tells : Bool) (fault : SessionFault) (s t : BenchState) : Type 0 where
  pub memory : OpensWithMemory fault
  pub refused : IsTrue tells → IsSessionFault s.file s.cell_count fault
  pub sound : IsSoundSession s.cell_count fault
  pub reads : ReadsIfRefused tells s t (refused_so fault)
  pub store : IsCounted s.store_faults t.store_faults (is_store_fault (session_fault fault))
  pub device : IsCounted s.device_faults t.device_faults (is_device_fault (session_fault fault))

-- the cells of a bench weren't surveyed, because of a fault that was counted
pub record IsUnsurveyed (tells : Bool) (fault : SurveyFault) (s t : BenchState) : Type 0 where
  pub memory : HasMemory fault
  pub job : IsTrue tells → IsJobOf s.file s.cell_count
  pub store : IsCounted s.store_faults t.store_faults (is_store_fault (survey_fault fault))
  pub device : IsCounted s.device_faults t.device_faults (is_device_fault (survey_fault fault))

abbrev pub IsRefused : Bool → TargetEnd → BenchState → BenchState → Type 0
IsRefused tells (ended.Open fault) s t = IsUnopened tells fault s t
IsRefused tells (ended.Survey fault) s t = IsUnsurveyed tells fault s t
IsRefused tells _ s t = ⊥

-- A target has made no move yet of the script that a session with this job and survey would play to the new goal. Its machine is at the
-- start of that script. No fault was counted.
pub record Begins (tells : Bool) (x : GangTarget) (arena : List (List ℕ)) (s t : BenchState) : Type 0 where
  pub place : x.player.place ≡ place.At (at.Begin First stage.Erase)
  pub made : x.player.made ≡ 0
  pub goal : x.player.work.goal ≡ to_goal.New
  pub stands : IsTrue tells → StandsFor x.job s.file
  pub only : IsTrue tells → LeftOnly t.file (file_half t)
  pub idle : IsTrue tells → t.operation ≡ None
  pub world : (cells : List ℕ) → (point_for x.player arena cells).world ≡ start_of (board_of x.job.board) cells
  pub surveyed : Surveyed
  pub found : HasSurveyed tells x.job to_goal.New t.file t.cells surveyed
  pub legs : all_legs (legs_for x.player (goal_for x.job x.player t.file)) ≡ job_legs x.job surveyed t.file
  pub store : t.store_faults ≡ s.store_faults
  pub device : t.device_faults ≡ s.device_faults

abbrev pub IsOpened : Bool → Slot → List (List ℕ) → BenchState → BenchState → Type 0
IsOpened tells (slot.Refused e) arena s t = IsLookedAt tells s t × IsRefused tells e s t
IsOpened tells (slot.Open x) arena s t = IsLookedAt tells s t × Begins tells x arena s t

-- each bench was opened, and the slot of its number says how
abbrev pub AreOpened : {B : Type 0} → Ghosts B → List B → Gang → List B → Type 0
AreOpened {B} G benches g benches' = (i : ℕ) (d : B) → i < length benches → IsOpened G.tells (slot_at g i) g.arena (G.state (get_or benches i d))
    (G.state (get_or benches' i d))

abbrev pub AreLookedAt : {B : Type 0} → Ghosts B → List B → List B → Type 0
AreLookedAt {B} G benches benches' = (i : ℕ) (d : B) → i < length benches → IsLookedAt G.tells (G.state (get_or benches i d)) (G.state (get_or benches' i d))

-- the slot of a bench whose job file failed while it was opened
abbrev pub unread : Slot
unread = slot.Refused (ended.Open (session.Open opening.StoreFault))

-- The job file of each bench was synced before any other call on that bench; where the sync failed, the slot says so. Where memory ran out,
-- each bench is unchanged, or its job file was synced first.
abbrev pub AreSynced : {B E : Type 0} → Ghosts B → List B → List B → Result Gang E → Type 0
AreSynced {B} G benches benches' (Ok g) = (i : ℕ) (d : B) → i < length benches
    → SyncsFirst G.tells G.state G.acts (get_or benches i d) (get_or benches' i d) (slot_at g i ≡ unread)
AreSynced {B} G benches benches' (Err e) = (i : ℕ) (d : B) → i < length benches
    → (get_or benches' i d ≡ get_or benches i d) ⊎ SyncsFirst G.tells G.state G.acts (get_or benches i d) (get_or benches' i d) (Unit {0})
