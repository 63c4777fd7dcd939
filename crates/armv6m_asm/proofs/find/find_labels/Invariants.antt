-- `find_labels`: what holds at each turn of its loop.
use Rattle.armv6m_asm.proofs.Steps.{HasFound}
use Rattle.armv6m_asm.proofs.find.find_labels.Given as goal

abbrev pub invariant-loop-statement : goal.invariant-loop-statement
invariant-loop-statement l = HasFound l.statements l.statement-index l.place l.labels
