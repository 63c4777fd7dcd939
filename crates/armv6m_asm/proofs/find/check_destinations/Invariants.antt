-- `check_destinations`: what holds at each turn of its loop.
use Rattle.std.proofs.Common.{take}
use Rattle.std.specs.Prelude.{All, Contains}
use Rattle.armv6m_asm.specs.Label.{names_of}
use Rattle.armv6m_asm.specs.Assembly.{destinations_of}
use Rattle.armv6m_asm.proofs.find.check_destinations.Given as goal

abbrev pub invariant-loop-statement : goal.invariant-loop-statement
invariant-loop-statement l = All (Contains (names_of l.labels)) (destinations_of (take l.statement-index l.statements))
