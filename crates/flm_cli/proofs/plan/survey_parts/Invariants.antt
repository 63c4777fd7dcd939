-- `survey_parts`: what holds at each turn of its loop.
use Rattle.flm_cli.proofs.PlanLemmas.{SurveyedTo}
use Rattle.flm_cli.proofs.plan.survey_parts.Given as goal

abbrev pub invariant-loop-index : goal.invariant-loop-index
invariant-loop-index g l = SurveyedTo g.B.Bench.tells l.wanted.board.weights l.wanted.image l.wanted.algorithms.items (g.B.Bench.state l.fn.bench)
    (g.B.Bench.state l.bench) l.parts l.index
