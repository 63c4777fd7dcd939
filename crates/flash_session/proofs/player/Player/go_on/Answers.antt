-- `Player::go_on`: its clauses `turns`, `one` and `slice`, and what `judge` requires.
use Rattle.std.proofs.Common.{refl, arith}
use Rattle.std.proofs.lemmas.Grind.{common_steps}
use Rattle.flash_session.proofs.TakesLemmas.{judges_so, slice_more, slice_ended}
use Rattle.flash_session.proofs.TurnMade.{further_turn, came_turn}
use Rattle.flash_session.proofs.player.Player.go_on.Goals as goal

pub returns-in-More-clause-turns : goal.returns-in-More-clause-turns
returns-in-More-clause-turns g c = λ goal_now.
    further_turn g.B.Bench.tells goal_now c.args.self.now c.args.arena.now (g.B.Bench.state c.args.bench.now) c.requires.fit c.args.call c.args.len c.args.left
    c.args.next c.requires.place c.slice.new.self c.slice.new.arena c.slice.new.left c.args.steps (g.B.Bench.state c.slice.new.bench)
    c.in-More.ensures c.requires.steps

pub returns-in-Ended-clause-turns : goal.returns-in-Ended-clause-turns
returns-in-Ended-clause-turns g c = λ goal_now.
    came_turn g.B.Bench.tells goal_now c.args.self.now c.args.arena.now (g.B.Bench.state c.args.bench.now) c.requires.fit c.args.call c.args.len c.args.left
    c.args.next c.requires.place c.slice.new.self c.slice.new.arena c.slice.new.left c.args.steps (g.B.Bench.state c.slice.new.bench)
    c.in-Ended.end c.in-Ended.ensures (λ told x. g.met.B.Bench.as_told c.args.bench.now x told) c.judge.new.self c.judge.ensures

pub returns-in-More-clause-one : goal.returns-in-More-clause-one
returns-in-More-clause-one g c = (refl, refl, (c.in-More.ensures.more refl).1, refl)

pub returns-in-Ended-clause-one : goal.returns-in-Ended-clause-one
returns-in-Ended-clause-one g c = judges_so c.args.steps (record c.args.self.now { calls = c.slice.new.self }) c.judge.new.self c.args.call c.args.len
    c.args.left c.args.next c.in-Ended.end c.judge.ensures

pub returns-in-More-clause-slice : goal.returns-in-More-clause-slice
returns-in-More-clause-slice g c =
    slice_more g.B.Bench.tells c.args.steps c.args.self.now c.slice.new.self c.args.arena.now c.slice.new.arena (g.B.Bench.state c.args.bench.now)
    (g.B.Bench.state c.slice.new.bench) c.args.call c.args.len c.args.left c.slice.new.left c.args.next c.in-More.ensures

pub returns-in-Ended-clause-slice : goal.returns-in-Ended-clause-slice
returns-in-Ended-clause-slice g c =
    slice_ended g.B.Bench.tells c.args.steps c.args.self.now c.judge.new.self c.slice.new.self c.args.arena.now c.slice.new.arena
    (g.B.Bench.state c.args.bench.now) (g.B.Bench.state c.slice.new.bench) c.args.call c.args.len c.args.left c.slice.new.left c.args.next c.in-Ended.end
    c.in-Ended.ensures c.judge.ensures

pub judge-requires : goal.judge-requires
judge-requires g c = grind (arith, common_steps)
