-- `write_code`: what holds at each turn of its loop.
use Rattle.armv6m_asm.proofs.Steps.{HasWritten}
use Rattle.armv6m_asm.proofs.code.write_code.Given as goal

abbrev pub invariant-loop-statement : goal.invariant-loop-statement
invariant-loop-statement l = HasWritten l.labels l.statements l.statement-index l.place l.line l.bytes.items
