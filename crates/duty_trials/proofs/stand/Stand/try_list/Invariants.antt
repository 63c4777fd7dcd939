-- `Stand::try_list`: what holds at each turn of its loop.
use Rattle.std.proofs.Common.{◌≤◌, ◌+◌}
use Rattle.duty_trials.specs.Stands.{setup_in, state_in, world_in}
use Rattle.duty_trials.specs.Subjects.{board_in, algorithm_in}
use Rattle.duty_trials.specs.Tallies.{calls_in}
use Rattle.duty_trials.proofs.LoopLemmas.{Goes}
use Rattle.duty_trials.proofs.stand.Stand.try_list.Given as goal

abbrev pub invariant-loop-number : goal.invariant-loop-number
invariant-loop-number l = Goes (board_in l.subject) (algorithm_in l.subject) l.subject.region l.work l.set l.fn.ideal l.number (setup_in l.self)
    (world_in l.self) (state_in l.self).operation l.ideal
    × (calls_in l.self.tally ≤ calls_in l.fn.self.tally + (l.number + 1))
