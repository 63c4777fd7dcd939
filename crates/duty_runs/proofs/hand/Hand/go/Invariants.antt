-- `Hand::go`: what holds at each turn of its loop.
use Rattle.std.proofs.Common.{◌≡◌, true}
use Rattle.bench_model.specs.Shown.{bench_of}
use Rattle.algo_calls.specs.Shows.{AgreesAt}
use Rattle.duty_runs.specs.Asks.{place_in, before_in}
use Rattle.duty_runs.specs.States.{state_marks, state_world}
use Rattle.duty_runs.specs.Hands.{hand_setup, hand_base, hand_map, hand_point, run_marks}
use Rattle.duty_runs.proofs.GoingLemmas.{Going}
use Rattle.duty_runs.proofs.hand.Hand.go.Given as goal

abbrev pub invariant-loop-made : goal.invariant-loop-made
invariant-loop-made l =
    Going (hand_setup l.fn.self) (place_in l.ask.task l.ask.from l.ask.many) (state_marks (hand_base l.fn.self) (hand_map l.fn.self) l.state)
    (state_world (hand_base l.fn.self) (hand_map l.fn.self) (bench_of l.fn.bench).cells l.state) l.ask.call l.ask.bytes.now l.ask.from
    (before_in l.ask.task l.ask.many) l.made (run_marks l.marks) (hand_point l.self (bench_of l.bench).cells)
    × AgreesAt true l.self.calls (bench_of l.bench)
    × (l.self.calls.machine.return_at ≡ (hand_setup l.fn.self).layout.return_at)
    × (hand_setup l.self ≡ hand_setup l.fn.self)
    × (hand_map l.self ≡ hand_map l.fn.self)
