-- `add_slot`: its clauses `added` and `first`.
use Rattle.std.proofs.Common.{◌≡◌, arith}
use Rattle.std.proofs.lemmas.Grind.{common_steps}
use Rattle.job_file.proofs.FirstLemmas.{syncs_as}
use Rattle.gang_run.specs.Opening.{unread}
use Rattle.gang_run.proofs.OpenLemmas.{put_unread}
use Rattle.gang_run.proofs.open_slots.add_slot.Goals as goal

pub returns-in-Ok-clause-added : goal.returns-in-Ok-clause-added
returns-in-Ok-clause-added g c = grind (arith, common_steps)

pub returns-in-Ok-clause-first : goal.returns-in-Ok-clause-first
returns-in-Ok-clause-first g c = syncs_as c.in-Ok.ensures.first (λ is.
    let same : c.in-Ok.slot ≡ unread = cc in
    put_unread c.in-Ok.slot c.args.slots.now.items c.args.sizes.now.items c.put_slot.new.slots.items c.put_slot.new.sizes.items c.put_slot.result
    c.put_slot.ensures same)

pub returns-in-Err-clause-first : goal.returns-in-Err-clause-first
returns-in-Err-clause-first g c = syncs_as c.in-Err.ensures.first (λ is. tt)
