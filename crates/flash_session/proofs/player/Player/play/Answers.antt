-- `Player::play`: its clauses `turns`, `one` and `slice`.
use Rattle.flash_session.proofs.TakesLemmas.{takes_from, slice_from}
use Rattle.flash_session.specs.Targets.{goal_for}
use Rattle.flash_session.specs.declared.cursor.Place.TheVariants as place
use Rattle.flash_session.proofs.player.Player.play.Goals as goal

pub returns-in-In-clause-turns : goal.returns-in-In-clause-turns
returns-in-In-clause-turns g c = c.go_on.ensures.turns (goal_for c.args.job.now c.args.self.now (g.B.Bench.state c.args.bench.now).file)

pub returns-in-At-clause-one : goal.returns-in-At-clause-one
returns-in-At-clause-one g c = takes_from c.args.steps _ c.args.self.now.place (place.At c.in-At.cursor) _ c.in-At.is c.host.ensures.one

pub returns-in-In-clause-one : goal.returns-in-In-clause-one
returns-in-In-clause-one g c = takes_from c.args.steps _ c.args.self.now.place (place.In c.in-In.call c.in-In.len c.in-In.left c.in-In.next) _ c.in-In.is
    c.go_on.ensures.one

pub returns-in-Comparing-clause-one : goal.returns-in-Comparing-clause-one
returns-in-Comparing-clause-one g c = takes_from c.args.steps _ c.args.self.now.place (place.Comparing c.in-Comparing.at) _ c.in-Comparing.is
    c.compare.ensures.one

pub returns-in-At-clause-slice : goal.returns-in-At-clause-slice
returns-in-At-clause-slice g c = slice_from g.B.Bench.tells (goal_for c.args.job.now c.args.self.now (g.B.Bench.state c.args.bench.now).file) c.args.steps
    c.args.self.now.place (place.At c.in-At.cursor) _ _ _ _ _ _ c.in-At.is c.host.ensures.host

pub returns-in-In-clause-slice : goal.returns-in-In-clause-slice
returns-in-In-clause-slice g c = slice_from g.B.Bench.tells (goal_for c.args.job.now c.args.self.now (g.B.Bench.state c.args.bench.now).file) c.args.steps
    c.args.self.now.place (place.In c.in-In.call c.in-In.len c.in-In.left c.in-In.next) _ _ _ _ _ _ c.in-In.is c.go_on.ensures.slice

pub returns-in-Comparing-clause-slice : goal.returns-in-Comparing-clause-slice
returns-in-Comparing-clause-slice g c = slice_from g.B.Bench.tells (goal_for c.args.job.now c.args.self.now (g.B.Bench.state c.args.bench.now).file)
    c.args.steps c.args.self.now.place (place.Comparing c.in-Comparing.at) _ _ _ _ _ _ c.in-Comparing.is c.compare.ensures.still
