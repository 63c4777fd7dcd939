-- `targets_begin`: its contract, `StandsOn`.
use Rattle.flash_session.proofs.AloneLemmas.{stands_first}
use Rattle.flash_session.proofs.turn_law.targets_begin.Goals as goal

pub returns : goal.returns
returns g c = λ x wanted arena now is made. stands_first x wanted arena (g.B.Bench.state now) is made
