-- `put_slot`: its contract, `PutsSlot`, where both were added.
use Rattle.std.proofs.Common.{◌∙◌, sym}
use Rattle.gang_run.proofs.open_slots.put_slot.Goals as goal

pub returns-in-Ok : goal.returns-in-Ok
returns-in-Ok c = (c.in_ok-push.ensures.items, c.in-Ok.ensures ∙ sym (c.window_size-size.ensures c.args.sizes.now.items))
