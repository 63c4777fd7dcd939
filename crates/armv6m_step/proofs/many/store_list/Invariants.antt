-- `store_list`: what holds at each turn of its loop, and what decreases at each turn.
use Rattle.armv6m_step.proofs.ListLemmas.{StoredTo}
use Rattle.armv6m_step.proofs.many.store_list.Given as goal

abbrev pub invariant-loop-left : goal.invariant-loop-left
invariant-loop-left g l = StoredTo g.B.Bus.acts l.core l.fn.at l.list l.initial.bus l.to l.left l.bus

abbrev pub decreases-loop-left : goal.decreases-loop-left
decreases-loop-left g l = l.left
