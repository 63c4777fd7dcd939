-- `targets_end_as_alone`: its contract, `FollowsAs`.
use Rattle.flash_session.proofs.AloneLemmas.{ends_alone}
use Rattle.flash_session.proofs.turn_law.targets_end_as_alone.Goals as goal

pub returns : goal.returns
returns g c = λ legs wanted a way e start now is moments. ends_alone legs wanted a way (g.B.Bench.state start) (g.B.Bench.state now) moments e is
