-- `scripts_that_serve_reach_their_goal`: its contract, `IsReached`.
use Rattle.std.proofs.Common.{◌∙◌}
use Rattle.flash_session.proofs.ServedLemmas.{reaches_goal, surveyed_job}
use Rattle.flash_session.proofs.law.scripts_that_serve_reach_their_goal.Goals as goal

pub returns : goal.returns
returns g c = λ j w e start now told stands count serves found goes other stored.
    let s = g.B.Bench.state start in
    reaches_goal g.B.Bench.tells j w e s (g.B.Bench.state now)
    (surveyed_job g.B.Bench.tells j w s told stands (g.met.B.Bench.all_told start told ∙ count) found) serves goes other stored
