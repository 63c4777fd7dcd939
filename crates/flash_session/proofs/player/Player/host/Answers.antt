-- `Player::host`: its clauses `turns` and `host`.
use Rattle.std.proofs.Common.{arith}
use Rattle.std.proofs.lemmas.Grind.{common_steps}
use Rattle.flash_session.specs.Targets.{goal_for}
use Rattle.flash_session.proofs.player.Player.host.Goals as goal

pub returns-in-Begin-clause-turns : goal.returns-in-Begin-clause-turns
returns-in-Begin-clause-turns g c = c.begin_phase.ensures.turns (goal_for c.args.job.now c.args.self.now (g.B.Bench.state c.args.bench.now).file)

pub returns-in-Last-clause-turns : goal.returns-in-Last-clause-turns
returns-in-Last-clause-turns g c = c.last_reset.ensures.turns (goal_for c.args.job.now c.args.self.now (g.B.Bench.state c.args.bench.now).file)

pub returns-in-Begin-clause-host : goal.returns-in-Begin-clause-host
returns-in-Begin-clause-host g c = c.begin_phase.ensures.host (goal_for c.args.job.now c.args.self.now (g.B.Bench.state c.args.bench.now).file)

pub returns-in-Last-clause-host : goal.returns-in-Last-clause-host
returns-in-Last-clause-host g c = c.last_reset.ensures.host (goal_for c.args.job.now c.args.self.now (g.B.Bench.state c.args.bench.now).file)

pub step-requires-clause-cursor : goal.step-requires-clause-cursor
step-requires-clause-cursor g c = grind (arith, common_steps)
