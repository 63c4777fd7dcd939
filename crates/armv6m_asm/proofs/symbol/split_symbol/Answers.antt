-- `split_symbol`: its clause `split`.
use Rattle.std.proofs.Common.{rules}
use Rattle.armv6m_asm.specs.Reading.{symbols_of}
use Rattle.armv6m_asm.proofs.symbol.split_symbol.Goals as goal

pub returns-in-Some-clause-split : goal.returns-in-Some-clause-split
unfolding symbols_of
returns-in-Some-clause-split c = search rules

pub returns-in-None-clause-split : goal.returns-in-None-clause-split
unfolding symbols_of
returns-in-None-clause-split c = search rules
