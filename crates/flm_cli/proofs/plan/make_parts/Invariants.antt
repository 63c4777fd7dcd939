-- `make_parts`: what holds at each turn of its loop.
use Rattle.flm_cli.proofs.PlanLemmas.{TakenTo}
use Rattle.flm_cli.proofs.plan.make_parts.Given as goal

abbrev pub invariant-loop-algorithm : goal.invariant-loop-algorithm
invariant-loop-algorithm l = TakenTo l.algorithms l.parts.items l.start l.algorithm-index
