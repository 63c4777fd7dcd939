-- `Player::go`: what holds at each turn of its loop, and what decreases at each turn.
use Rattle.flash_session.specs.Fit.{togo}
use Rattle.flash_session.specs.Targets.{goal_for}
use Rattle.flash_session.specs.Whole.{Played}
use Rattle.flash_session.proofs.player.Player.go.Given as goal

abbrev pub invariant-turns : goal.invariant-turns
invariant-turns g l = record {
  played : Played g.B.Bench.tells (goal_for l.job l.fn.self (g.B.Bench.state l.fn.bench).file) l.fn.self l.fn.arena (g.B.Bench.state l.fn.bench) l.self l.arena
      (g.B.Bench.state l.bench);
}

abbrev pub decreases-turns : goal.decreases-turns
decreases-turns g l = togo l.self
