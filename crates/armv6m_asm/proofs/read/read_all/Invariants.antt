-- `read_all`: what holds at each turn of its loop, and what decreases at each turn.
use Rattle.std.proofs.Common.{◌-◌, length}
use Rattle.armv6m_asm.proofs.Steps.{HasRead}
use Rattle.armv6m_asm.proofs.read.read_all.Given as goal

abbrev pub invariant-loop-from : goal.invariant-loop-from
invariant-loop-from l = HasRead l.text l.from l.place l.statements.items

abbrev pub decreases-loop-from : goal.decreases-loop-from
decreases-loop-from l = length l.text - l.from
