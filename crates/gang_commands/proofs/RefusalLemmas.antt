-- What a slot of a gang shows of a target that has ended.
use Rattle.std.proofs.Common.{◌≡◌, refl, ap, Option, Some, None}
use Rattle.std.specs.Borrow.{Bor}
use Rattle.job_text.specs.declared.job.Job.{Job}
use Rattle.flash_session.specs.declared.cursor.Place.{Place}
use Rattle.flash_session.specs.declared.cursor.Place.TheVariants as place
use Rattle.flash_session.specs.declared.target_end.TargetEnd.{TargetEnd}
use Rattle.flash_session.specs.declared.target_end.Turn.TheVariants as turn
use Rattle.flash_session.specs.Ended.{IsEndAt}
use Rattle.flash_session.specs.Turns.{turn_of}
use Rattle.gang_run.specs.declared.slot.Slot.{Slot}
use Rattle.gang_run.specs.declared.slot.Slot.TheVariants as slot
use Rattle.gang_run.specs.Slots.{slot_turn, IsSlotEnd, IsSlotJob}
use Rattle.gang_commands.specs.Puts.{regions_of}
use Rattle.gang_commands.proofs.OutcomeLemmas.{end_or, outcome_at}

end_at : (p : Place) (e : Bor TargetEnd) → IsEndAt p (Some e) → e.now ≡ end_or p
end_at (place.At c) e is = absurd is
end_at (place.In call len left next) e is = absurd is
end_at (place.Comparing at) e is = absurd is
end_at place.Closing e is = absurd is
end_at (place.Ended f) e is = is

pub end_is : (s : Slot) (e : Bor TargetEnd) → IsSlotEnd s (Some e) → e.now ≡ (outcome_at s).end
end_is (slot.Refused f) e is = is
end_is (slot.Open x) e is = end_at x.player.place e is

pub regions_are : (s : Slot) (o : Option (Bor Job)) → IsSlotJob s o → regions_of o ≡ (outcome_at s).regions
regions_are (slot.Refused f) None is = refl
regions_are (slot.Refused f) (Some j) is = absurd is
regions_are (slot.Open x) None is = absurd is
regions_are (slot.Open x) (Some j) is = ap (λ (k : Job). Some k.board.regions) is

none_at : (p : Place) → turn_of p ≡ turn.Ended → IsEndAt p None → ⊥
none_at (place.At c) over is = cc
none_at (place.In call len left next) over is = cc
none_at (place.Comparing at) over is = cc
none_at place.Closing over is = cc
none_at (place.Ended f) over is = is

-- a target that has ended has an end
pub has_end : (s : Slot) → slot_turn s ≡ turn.Ended → IsSlotEnd s None → ⊥
has_end (slot.Refused f) over is = is
has_end (slot.Open x) over is = none_at x.player.place over is
