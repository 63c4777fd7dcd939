-- `play`: what holds at each turn of its loop.
use Rattle.std.specs.Prelude.{◌≡◌, length}
use Rattle.gang_run.specs.Gangs.{IsGang, AreReady}
use Rattle.session_vectors.proofs.gang.gangs.play.Given as goal

abbrev pub invariant-loop-number : goal.invariant-loop-number
invariant-loop-number g l =
    IsGang l.gang × AreReady g.B.Bench l.gang l.benches × (length l.benches ≡ length l.fn.benches) × (length l.gang.slots.items ≡ length l.benches)
