-- What the steps of the call of a gang leave.
use Rattle.std.specs.Prelude.{◌≡◌, ◌<◌, ℕ, zero, suc, List, map, length, option_map, option_copied, Option, Some, None, Result, Ok, Err}
use Rattle.std.specs.Borrow.{Bor}
use Rattle.bench_model.specs.declared.bench.Bench.{Ghosts}
use Rattle.board_file.specs.declared.region.Region.{Region}
use Rattle.job_text.specs.declared.job.Job.{Job}
use Rattle.outside_io.specs.declared.sink.OutputFault.{OutputFault}
use Rattle.report_text.specs.Refusal.{Refusal, status_of}
use Rattle.command_files.specs.Call.{SinkCall}
use Rattle.command_files.specs.Said.{TookAll, TookPart}
use Rattle.flash_session.specs.declared.cursor.Place.{Place}
use Rattle.flash_session.specs.declared.cursor.Place.TheVariants as place
use Rattle.flash_session.specs.declared.target_end.TargetEnd.{TargetEnd}
use Rattle.flash_session.specs.declared.target_end.TargetEnd.TheVariants as ended
use Rattle.flash_session.specs.declared.target_end.Turn.TheVariants as turn
use Rattle.gang_run.specs.declared.gang.Gang.{Gang}
use Rattle.gang_run.specs.declared.slot.Slot.{Slot}
use Rattle.gang_run.specs.declared.slot.Slot.TheVariants as slot
use Rattle.gang_run.specs.Gangs.{slot_at, IsGang, AllSince, AllKept}
use Rattle.gang_run.specs.Slots.{slot_turn}
use Rattle.gang_commands.specs.Gangs.{SaysEnds}
use Rattle.gang_commands.specs.Lines.{Outcome, lines_of, status_in}

-- the regions of a job's board
abbrev pub regions_of : Option (Bor Job) → Option (List Region)
regions_of job = option_map (λ (j : Job). j.board.regions) (option_copied job)

-- how a target ended; none where it is still under way
abbrev pub end_of : Place → Option TargetEnd
end_of (place.At c) = None
end_of (place.In call len left next) = None
end_of (place.Comparing at) = None
end_of place.Closing = None
end_of (place.Ended e) = Some e

-- the outcome of one place of a gang; none where its target is still under way
abbrev pub outcome_of : Slot → Option Outcome
outcome_of (slot.Refused e) = Some (record { end = e; regions = None })
outcome_of (slot.Open x) = option_map (λ (e : TargetEnd). record { end = e; regions = Some x.job.board.regions }) (end_of x.player.place)

-- each target of a gang has ended, with these outcomes in order
abbrev pub HaveOutcomes : Gang → List Outcome → Type 0
HaveOutcomes g ends = map outcome_of g.slots.items ≡ map (λ (o : Outcome). Some o) ends

-- each of the first `count` targets has ended
abbrev pub HasEndedUpto : Gang → ℕ → Type 0
HasEndedUpto g count = (i : ℕ) → i < count → slot_turn (slot_at g i) ≡ turn.Ended

-- the status of the first refusal: the status so far unless that is 0, and otherwise that of the next target
abbrev pub status_behind : ℕ → Option Refusal → ℕ
status_behind zero None = 0
status_behind zero (Some refusal) = status_of refusal
status_behind (suc n) refusal = suc n

-- the lines were put, or `out` failed
abbrev pub PutsEnds : SinkCall → List Outcome → Result ℕ OutputFault → Type 0
PutsEnds out ends (Ok status) = TookAll out (lines_of ends) × (status ≡ status_in ends)
PutsEnds out ends (Err e) = TookPart out (lines_of ends)

-- the lines of all targets of a gang, each of which has ended, were put, or `out` failed
abbrev pub PutsTargets : SinkCall → Gang → Result ℕ OutputFault → Type 0
PutsTargets out g r = (ends : List Outcome) × HaveOutcomes g ends × PutsEnds out ends r

-- All targets of a gang had turns until they ended, and the call said their ends.
pub record Runs {B : Type 0} (G : Ghosts B) (gang : Gang) (benches benches' : List B) (out err : SinkCall) (status : ℕ) : Type 0 where
  pub now : Gang
  pub since : AllSince G gang benches now benches'
  pub kept : AllKept G gang benches now benches'
  pub count : length benches' ≡ length benches
  pub places : length benches' ≡ length now.slots.items
  pub is_gang : IsGang now
  pub ended : HasEndedUpto now (length benches)
  pub ends : List Outcome
  pub outcomes : HaveOutcomes now ends
  pub says : SaysEnds out err ends status
