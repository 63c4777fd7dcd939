-- `symbol_of_token`: its clause `symbol`.
use Rattle.std.proofs.Common.{rules}
use Rattle.armv6m_asm.specs.Reading.{symbol_of}
use Rattle.armv6m_asm.proofs.symbol.symbol_of_token.Goals as goal

pub returns-in-Mark-clause-symbol : goal.returns-in-Mark-clause-symbol
unfolding symbol_of
returns-in-Mark-clause-symbol c = search rules
