-- `targets_end_as_alone`: its contract, `EndsAlone`.
use Rattle.std.proofs.Common.{[], get_or, sym, subst}
use Rattle.gang_run.specs.declared.slot.Slot.{Slot}
use Rattle.gang_run.specs.Slots.{SlotStands, SlotSince}
use Rattle.gang_run.specs.Gangs.{slot_at}
use Rattle.gang_run.proofs.GangLemmas.{alone_of}
use Rattle.gang_run.proofs.law.targets_end_as_alone.Goals as goal

pub returns : goal.returns
returns g c = λ old new benches after i d a x body told since less is going stands whole over.
    let s = g.B.Bench.state (get_or benches i d) in
    let t = g.B.Bench.state (get_or after i d) in
    let stood : SlotStands a [] (slot_at old i) old.arena s = subst (λ (m : Slot). SlotStands a [] m old.arena s) (sym is) (going, stands) in
    alone_of a x s (slot_at new i) new.arena t body whole (subst (λ (m : Slot). SlotSince a [] m s (slot_at new i) new.arena t) is
    (since i d a [] less told stood)) over
