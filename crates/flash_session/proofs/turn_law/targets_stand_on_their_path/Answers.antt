-- `targets_stand_on_their_path`: its contract, `Broken`.
use Rattle.flash_session.specs.Targets.{setup_now, legs_for, point_for}
use Rattle.flash_session.proofs.AloneLemmas.{on_script}
use Rattle.flash_session.proofs.turn_law.targets_stand_on_their_path.Goals as goal

pub returns : goal.returns
returns g c = λ x wanted arena a way now going stands b.
    on_script (legs_for x wanted) wanted (setup_now x) a way x.place x.made (point_for x arena (g.B.Bench.state now).cells)
    x.calls.machine.return_at (g.B.Bench.state now) going stands b
