-- One slot of a gang: a target with a script, or the end of a target without one.
use Rattle.std.specs.Prelude.{◌≡◌, ℕ, Bool, IsTrue, IsSome, List, Option, Some, None}
use Rattle.std.specs.Borrow.{Bor}
use Rattle.bench_model.specs.declared.bench.Bench.{Ghosts}
use Rattle.bench_model.specs.Counted.{is_store_fault, is_device_fault, IsCounted}
use Rattle.bench_model.specs.History as history
use Rattle.bench_model.specs.History.{LeftOnly}
use Rattle.bench_model.specs.State.{BenchState, file_half}
use Rattle.board_file.specs.Limits.{size_of}
use Rattle.job_file.specs.declared.fault.OpenFault.TheVariants as opening
use Rattle.job_text.specs.Files.{IsWhole}
use Rattle.job_text.specs.Stands.{StandsFor}
use Rattle.job_text.specs.declared.job.Job.{Job}
use Rattle.flash_session.specs.declared.fault.SessionFault.{SessionFault}
use Rattle.flash_session.specs.declared.fault.SessionFault.TheVariants as session
use Rattle.flash_session.specs.declared.fault.SurveyFault.{SurveyFault}
use Rattle.flash_session.specs.declared.fault.SurveyFault.TheVariants as survey
use Rattle.flash_session.specs.Moves.{Move, Stand}
use Rattle.flash_session.specs.declared.target_end.TargetEnd.{TargetEnd}
use Rattle.flash_session.specs.declared.target_end.TargetEnd.TheVariants as ended
use Rattle.flash_session.specs.declared.target_end.Turn.{Turn}
use Rattle.flash_session.specs.declared.target_end.Turn.TheVariants as turn
use Rattle.flash_session.specs.declared.cursor.Place.{Place}
use Rattle.flash_session.specs.declared.cursor.Place.TheVariants as place
use Rattle.gang_run.specs.declared.target.GangTarget.{GangTarget}
use Rattle.flash_session.specs.Ended.{IsEndAt}
use Rattle.flash_session.specs.Fit.{IsScriptEnd, Fit, togo}
use Rattle.flash_session.specs.Guarded.{Guarded}
use Rattle.flash_session.specs.Stands.{StandsOn}
use Rattle.flash_session.specs.Takes.{TakesOn, SliceOf}
use Rattle.flash_session.specs.Targets.{goal_for, size_for}
use Rattle.flash_session.specs.Turns.{IsUnended, turn_of, place_fault, SameTarget, GoesOn, Turns}
use Rattle.gang_run.specs.declared.slot.Slot.{Slot}
use Rattle.gang_run.specs.declared.slot.Slot.TheVariants as slot

abbrev pub slot_turn : Slot → Turn
slot_turn (slot.Refused e) = turn.Ended
slot_turn (slot.Open x) = turn_of x.player.place

abbrev pub slot_togo : Slot → ℕ
slot_togo (slot.Refused e) = 0
slot_togo (slot.Open x) = togo x.player

-- ---- what a slot shows

-- the reason why a session wasn't opened is another one than out of memory
abbrev pub OpensWithMemory : SessionFault → Type 0
OpensWithMemory session.OutOfMemory = ⊥
OpensWithMemory (session.Open opening.OutOfMemory) = ⊥
OpensWithMemory _ = Unit {0}

abbrev pub HasMemory : SurveyFault → Type 0
HasMemory survey.OutOfMemory = ⊥
HasMemory _ = Unit {0}

-- the end of a target without a script: a fault of its opening or of its survey, which is never out of memory
abbrev pub IsRefusal : TargetEnd → Type 0
IsRefusal (ended.Open fault) = OpensWithMemory fault
IsRefusal (ended.Survey fault) = HasMemory fault
IsRefusal _ = ⊥

abbrev pub EndsByScript : Place → Type 0
EndsByScript (place.Ended e) = IsScriptEnd e
EndsByScript _ = Unit {0}

-- a target without a script was refused, and one with a script ends by it
abbrev pub IsSlot : Slot → Type 0
IsSlot (slot.Refused e) = IsRefusal e
IsSlot (slot.Open x) = EndsByScript x.player.place

-- the end of a slot's target: none where the target hasn't ended
abbrev pub IsSlotEnd : Slot → Option (Bor TargetEnd) → Type 0
IsSlotEnd (slot.Refused end) None = ⊥
IsSlotEnd (slot.Refused end) (Some e) = e.now ≡ end
IsSlotEnd (slot.Open x) found = IsEndAt x.player.place found

-- the job of a slot's target: none where the target has no script
abbrev pub IsSlotJob : Slot → Option (Bor Job) → Type 0
IsSlotJob (slot.Refused end) None = Unit {0}
IsSlotJob (slot.Refused end) (Some j) = ⊥
IsSlotJob (slot.Open x) None = ⊥
IsSlotJob (slot.Open x) (Some j) = j.now ≡ x.job

-- how a target has ended, if it has
abbrev pub place_end : Place → Option TargetEnd
place_end (place.Ended e) = Some e
place_end _ = None

abbrev pub slot_end : Slot → Option TargetEnd
slot_end (slot.Refused e) = Some e
slot_end (slot.Open x) = place_end x.player.place

abbrev pub IsNoJob : Option (Bor Job) → Type 0
IsNoJob None = Unit {0}
IsNoJob (Some j) = ⊥

-- there is a job unless the end is Open or Survey; with these two ends there is none
abbrev pub HasJob : Option TargetEnd → Option (Bor Job) → Type 0
HasJob (Some (ended.Open fault)) found = IsNoJob found
HasJob (Some (ended.Survey fault)) found = IsNoJob found
HasJob _ found = IsSome found

-- ---- a turn

-- what a turn needs of a target that hasn't ended: it fits its window and its bench, and the only file that a stop may leave stands for its
-- job
pub record Ready (tells : Bool) (x : GangTarget) (arena : List (List ℕ)) (b : BenchState) : Type 0 where
  pub fit : Fit tells x.player arena b
  pub size : size_of x.job.board.regions ≡ size_for x.player
  pub stands : IsTrue tells → StandsFor x.job b.file
  pub only : IsTrue tells → LeftOnly b.file (file_half b)

abbrev pub IsReady : Bool → Slot → List (List ℕ) → BenchState → Type 0
IsReady tells (slot.Refused e) arena b = Unit {0}
IsReady tells (slot.Open x) arena b = IsUnended x.player.place → Ready tells x arena b

-- one turn of a target's player, towards the goal that the file gives
pub record TargetTurns (tells : Bool) (x : GangTarget) (arena : List (List ℕ)) (s : BenchState) (y : GangTarget) (arena' : List (List ℕ))
    (t : BenchState) : Type 0 where
  pub job : y.job ≡ x.job
  pub turns : Turns tells (goal_for x.job x.player s.file) x.player arena s y.player arena' t

-- a turn of a target that hasn't ended
abbrev pub SlotGoes : Bool → Slot → List (List ℕ) → BenchState → Slot → List (List ℕ) → BenchState → Type 0
SlotGoes tells (slot.Refused e) arena s new arena' t = Unit {0}
SlotGoes tells (slot.Open x) arena s new arena' t = IsUnended x.player.place → (y : GangTarget) ×
    (new ≡ slot.Open y) × TargetTurns tells x arena s y arena' t

-- one turn of a slot, which changes nothing where the target has ended
pub record SlotTurns {B : Type 0} (G : Ghosts B) (old : Slot) (arena : List (List ℕ)) (bench : B) (new : Slot)
    (arena' : List (List ℕ)) (bench' : B) : Type 0 where
  pub ended : slot_turn old ≡ turn.Ended → (new ≡ old) × (arena' ≡ arena) × (bench' ≡ bench)
  pub goes : SlotGoes G.tells old arena (G.state bench) new arena' (G.state bench')

-- one turn: while a call runs, its next steps, at most `steps` of them; otherwise one host action
abbrev pub SlotTakes : Bool → (steps : ℕ) → Slot → List (List ℕ) → BenchState → Slot → List (List ℕ) → BenchState → Type 0
SlotTakes tells steps (slot.Refused e) arena s new arena' t = Unit {0}
SlotTakes tells steps (slot.Open x) arena s new arena' t = IsUnended x.player.place → (y : GangTarget) × (new ≡ slot.Open y)
    × TakesOn steps s.cell_count x.player.place y.player.place
    × SliceOf tells (goal_for x.job x.player s.file) steps x.player.place x.player arena s y.player arena' t

-- ---- turns

-- A fault was counted exactly where the target ended by it.
pub record Counts (p : Place) (s t : BenchState) : Type 0 where
  pub device : IsCounted s.device_faults t.device_faults (is_device_fault (place_fault p))
  pub store : IsCounted s.store_faults t.store_faults (is_store_fault (place_fault p))

-- A target that hadn't ended has the same job as before; this holds whether the bench tells its contents or not.
pub record TargetKept (x : GangTarget) (s : BenchState) (new : Slot) (t : BenchState) : Type 0 where
  pub target : GangTarget
  pub is : new ≡ slot.Open target
  pub job : target.job ≡ x.job
  pub counts : Counts target.player.place s t

-- the bench of a target without a script is unchanged; a target that hadn't ended keeps its job
abbrev pub SlotKept : {B : Type 0} → Ghosts B → Slot → B → Slot → B → Type 0
SlotKept G (slot.Refused e) bench new bench' = (new ≡ slot.Refused e) × (bench' ≡ bench)
SlotKept G (slot.Open x) bench new bench' = IsUnended x.player.place → TargetKept x (G.state bench) new (G.state bench')

-- a target that hasn't ended stands where the moves of `way` lead from `a`
abbrev pub SlotStands : Stand → List Move → Slot → List (List ℕ) → BenchState → Type 0
SlotStands a way (slot.Refused e) arena b = Unit {0}
SlotStands a way (slot.Open x) arena b = IsUnended x.player.place × StandsOn a way (goal_for x.job x.player b.file) x.player arena b

-- a target continued its script from where it stood, towards the goal that the file gave
pub record TargetSince (a : Stand) (way : List Move) (x : GangTarget) (s : BenchState) (new : Slot) (arena : List (List ℕ)) (t : BenchState) : Type 0 where
  pub target : GangTarget
  pub is : new ≡ slot.Open target
  pub job : target.job ≡ x.job
  pub same : SameTarget x.player target.player
  pub goes : GoesOn a way (goal_for x.job x.player s.file) target.player arena s t
  pub file : IsUnended target.player.place → t.file ≡ s.file
  pub files : history.GoesOn (file_half s) (file_half t)
  pub guarded : (body : List ℕ) → IsWhole body s.file → Guarded body (goal_for x.job x.player s.file) target.player.place s t
  pub counts : Counts target.player.place s t

-- the target of a slot continued from where it stood; a target without a script is unchanged
abbrev pub SlotSince : Stand → List Move → Slot → BenchState → Slot → List (List ℕ) → BenchState → Type 0
SlotSince a way (slot.Refused e) s new arena t = new ≡ slot.Refused e
SlotSince a way (slot.Open x) s new arena t = TargetSince a way x s new arena t
