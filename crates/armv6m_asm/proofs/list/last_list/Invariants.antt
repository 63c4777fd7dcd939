-- `last_list`: what holds at each turn of its loop, and what decreases at each turn.
use Rattle.std.proofs.Common.{◌≡◌, length}
use Rattle.armv6m_asm.specs.Reading.{symbols_of, list_of}
use Rattle.armv6m_asm.proofs.list.last_list.Given as goal

abbrev pub invariant-registers : goal.invariant-registers
invariant-registers l = list_of l.list (symbols_of l.rest) ≡ list_of 0 (symbols_of l.line)

abbrev pub decreases-registers : goal.decreases-registers
decreases-registers l = length (symbols_of l.rest)
