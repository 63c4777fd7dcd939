-- The opening of one slot of a gang.
use Rattle.std.specs.Prelude.{◌≡◌, ◌≢◌, ◌≤◌, ◌<◌, ◌++◌, ℕ, Bool, All, List, [], ◌∷◌, length, get_or, replicate, IfSome, Option, Result, Ok}
use Rattle.std.specs.Prelude.{Err}
use Rattle.bench_model.specs.declared.bench.Bench.{Ghosts}
use Rattle.bench_model.specs.Counted.{is_store_fault, is_device_fault, IsCounted}
use Rattle.bench_model.specs.State.{BenchState}
use Rattle.board_file.specs.Limits.{most_ram}
use Rattle.faults.specs.declared.out_of_memory.OutOfMemory.{OutOfMemory}
use Rattle.job_file.specs.First.{SyncsFirst}
use Rattle.job_text.specs.declared.job.Job.{Job}
use Rattle.target_core.specs.Windows.{window_of}
use Rattle.flash_session.specs.declared.fault.SurveyFault.{SurveyFault}
use Rattle.flash_session.specs.declared.fault.SurveyFault.TheVariants as survey
use Rattle.flash_session.specs.Surveys.{survey_fault, Surveyed}
use Rattle.flash_session.specs.Parts.{IsPlayerOf}
use Rattle.flash_session.specs.declared.target_end.TargetEnd.{TargetEnd}
use Rattle.flash_session.specs.declared.target_end.TargetEnd.TheVariants as ended
use Rattle.gang_run.specs.declared.target.GangTarget.{GangTarget}
use Rattle.board_file.specs.Limits.{size_of}
use Rattle.flash_session.specs.Fit.{Fit}
use Rattle.flash_session.specs.Targets.{size_for}
use Rattle.gang_run.specs.declared.slot.Slot.{Slot}
use Rattle.gang_run.specs.declared.slot.Slot.TheVariants as slot
use Rattle.gang_run.specs.Gangs.{OtherWindow}
use Rattle.gang_run.specs.Slots.{HasMemory}
use Rattle.gang_run.specs.Opening.{IsLookedAt, IsRefused, Begins, unread}

-- a slot holds a target of this job, with this window and with a player of the script that the survey planned
abbrev pub IsTargetOf : Job → Surveyed → (window : ℕ) → Slot → Type 0
IsTargetOf j w window (slot.Refused e) = ⊥
IsTargetOf j w window (slot.Open x) = (x.job ≡ j) × (x.player.window ≡ window) × IsPlayerOf j w x.player

-- the slot of a job after its survey: a target where the survey was made, and otherwise the fault of the survey as its end
abbrev pub GivesSlot : Job → Option Surveyed → (window : ℕ) → Result (Unit {0}) SurveyFault → Result Slot OutOfMemory → Type 0
GivesSlot j found window (Ok u) (Ok p) = IfSome found (λ w. IsTargetOf j w window p)
GivesSlot j found window (Err fault) (Ok p) = (p ≡ slot.Refused (ended.Survey fault)) × HasMemory fault
GivesSlot j found window r (Err e) = Unit {0}

-- the number of bytes of a target's RAM
abbrev pub ram_for : GangTarget → ℕ
ram_for x = x.job.board.ram_size

-- a target fits its bench once this window is filled with zero bytes, and it has made no move
pub record IsReadyIn (tells : Bool) (window : ℕ) (x : GangTarget) (s t : BenchState) : Type 0 where
  pub window_is : x.player.window ≡ window
  pub size : size_of x.job.board.regions ≡ size_for x.player
  pub begins : (arena : List (List ℕ)) → window < length arena → window_of arena window ≡ replicate (ram_for x) 0
      → Begins tells x arena s t × Fit tells x.player arena t

-- no survey was made, because of a fault that was counted
pub record FailsSurvey (fault : SurveyFault) (s t : BenchState) : Type 0 where
  pub memory : HasMemory fault
  pub store : IsCounted s.store_faults t.store_faults (is_store_fault (survey_fault fault))
  pub device : IsCounted s.device_faults t.device_faults (is_device_fault (survey_fault fault))

abbrev pub IsUnsurveyedEnd : TargetEnd → BenchState → BenchState → Type 0
IsUnsurveyedEnd (ended.Survey fault) s t = FailsSurvey fault s t
IsUnsurveyedEnd _ s t = ⊥

-- the slot after the survey of a job that was opened on this bench
abbrev pub Surveys : Bool → Job → (window : ℕ) → Slot → BenchState → BenchState → Type 0
Surveys tells j window (slot.Refused e) s t = IsUnsurveyedEnd e s t
Surveys tells j window (slot.Open x) s t = IsReadyIn tells window x s t × (x.job ≡ j)

abbrev pub Opens : Bool → (window : ℕ) → Slot → BenchState → BenchState → Type 0
Opens tells window (slot.Refused e) s t = IsRefused tells e s t
Opens tells window (slot.Open x) s t = IsReadyIn tells window x s t

-- the sizes of the windows, with one more where the slot holds a target
abbrev pub sizes_with : Slot → List ℕ → List ℕ
sizes_with (slot.Refused e) sizes = sizes
sizes_with (slot.Open x) sizes = sizes ++ (ram_for x ∷ [])

abbrev pub PutsSlot : Slot → List Slot → List ℕ → List Slot → List ℕ → Result (Unit {0}) OutOfMemory → Type 0
PutsSlot s slots sizes slots' sizes' (Ok u) = (slots' ≡ slots ++ (s ∷ [])) × (sizes' ≡ sizes_with s sizes)
PutsSlot s slots sizes slots' sizes' (Err e) = Unit {0}

-- the slot of a bench was added, and a target in it has the next window
pub record SlotAdded (tells : Bool) (slots : List Slot) (sizes : List ℕ) (s : BenchState) (slots' : List Slot) (sizes' : List ℕ) (t : BenchState) : Type 0 where
  pub slot : Slot
  pub slots_are : slots' ≡ slots ++ (slot ∷ [])
  pub sizes_are : sizes' ≡ sizes_with slot sizes
  pub opens : Opens tells (length sizes) slot s t

abbrev pub AddsSlot : Bool → List Slot → List ℕ → BenchState → List Slot → List ℕ → BenchState → Result (Unit {0}) OutOfMemory → Type 0
AddsSlot tells slots sizes s slots' sizes' t (Ok u) = SlotAdded tells slots sizes s slots' sizes' t
AddsSlot tells slots sizes s slots' sizes' t (Err e) = Unit {0}

-- ---- the slots so far

-- the slot at a place of a list; a refused one past the end
abbrev pub slot_in : List Slot → ℕ → Slot
slot_in slots i = get_or slots i (slot.Refused (ended.Survey survey.StoreFault))

-- a slot was opened on its bench; if it holds a target, its window is among those with these sizes
abbrev pub OpensAmong : Bool → List ℕ → Slot → BenchState → BenchState → Type 0
OpensAmong tells sizes (slot.Refused e) s t = IsRefused tells e s t
OpensAmong tells sizes (slot.Open x) s t = (x.player.window < length sizes) × (get_or sizes x.player.window 0 ≡ ram_for x) ×
    IsReadyIn tells x.player.window x s t

-- the benches below number `upto` were opened, and the others are unchanged
pub record Opening {B : Type 0} (G : Ghosts B) (first now : List B) (slots : List Slot) (sizes : List ℕ) (upto : ℕ) : Type 0 where
  pub count : length now ≡ length first
  pub within : upto ≤ length first
  pub places : length slots ≡ upto
  pub opened : (i : ℕ) (d : B) → i < upto → OpensAmong G.tells sizes (slot_in slots i) (G.state (get_or first i d)) (G.state (get_or now i d))
  pub looked : (i : ℕ) (d : B) → i < upto → IsLookedAt G.tells (G.state (get_or first i d)) (G.state (get_or now i d))
  pub synced : (i : ℕ) (d : B) → i < upto → SyncsFirst G.tells G.state G.acts (get_or first i d) (get_or now i d) (slot_in slots i ≡ unread)
  pub still : (i : ℕ) (d : B) → upto ≤ i → get_or now i d ≡ get_or first i d
  pub apart : (i j : ℕ) → i ≢ j → OtherWindow (slot_in slots i) (slot_in slots j)
  pub few : length sizes ≤ upto
  pub small : All (λ n. n ≤ most_ram) sizes
