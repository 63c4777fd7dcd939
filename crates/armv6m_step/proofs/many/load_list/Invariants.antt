-- `load_list`: what holds at each turn of its loop, and what decreases at each turn.
use Rattle.armv6m_step.proofs.ListLemmas.{LoadedTo}
use Rattle.armv6m_step.proofs.many.load_list.Given as goal

abbrev pub invariant-loop-left : goal.invariant-loop-left
invariant-loop-left g l = LoadedTo g.B.Bus.acts l.initial.core l.fn.at l.list l.initial.bus l.core l.from l.left l.bus

abbrev pub decreases-loop-left : goal.decreases-loop-left
decreases-loop-left g l = l.left
