-- `make_slot`: its contract, `IsTargetOf`.
use Rattle.std.proofs.Common.{refl}
use Rattle.flash_session.proofs.GoLemmas.{player_in}
use Rattle.gang_run.proofs.open_slots.make_slot.Goals as goal

pub returns : goal.returns
returns c = λ j w job is. (job, refl, player_in j w c.args.parts.player c.args.window is)
