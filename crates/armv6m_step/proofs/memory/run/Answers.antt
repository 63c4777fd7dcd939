-- `run`: that it keeps its contract.
use Rattle.std.proofs.Common.{arith}
use Rattle.armv6m_step.proofs.RunLemmas.{asks}
use Rattle.armv6m_step.proofs.memory.run.Goals as goal

pub returns-in-LdrbImmediate : goal.returns-in-LdrbImmediate
returns-in-LdrbImmediate g c = grind (arith, asks)

pub returns-in-LdrbRegister : goal.returns-in-LdrbRegister
returns-in-LdrbRegister g c = grind (arith, asks)

pub returns-in-StrbRegister : goal.returns-in-StrbRegister
returns-in-StrbRegister g c = grind (arith, asks)

pub returns-in-StrImmediate : goal.returns-in-StrImmediate
returns-in-StrImmediate g c = grind (arith, asks)

pub returns-in-LdrsbRegister : goal.returns-in-LdrsbRegister
returns-in-LdrsbRegister g c = grind (arith, asks)

pub returns-in-LdrhImmediate : goal.returns-in-LdrhImmediate
returns-in-LdrhImmediate g c = grind (arith, asks)

pub returns-in-LdrhRegister : goal.returns-in-LdrhRegister
returns-in-LdrhRegister g c = grind (arith, asks)

pub returns-in-StrhImmediate : goal.returns-in-StrhImmediate
returns-in-StrhImmediate g c = grind (arith, asks)

pub returns-in-StrbImmediate : goal.returns-in-StrbImmediate
returns-in-StrbImmediate g c = grind (arith, asks)

pub returns-in-LdrshRegister : goal.returns-in-LdrshRegister
returns-in-LdrshRegister g c = grind (arith, asks)

pub returns-in-StrhRegister : goal.returns-in-StrhRegister
returns-in-StrhRegister g c = grind (arith, asks)

pub returns-in-StrSp : goal.returns-in-StrSp
returns-in-StrSp g c = grind (arith, asks)

pub returns-in-LdrRegister : goal.returns-in-LdrRegister
returns-in-LdrRegister g c = grind (arith, asks)

pub returns-in-LdrSp : goal.returns-in-LdrSp
returns-in-LdrSp g c = grind (arith, asks)

pub returns-in-StrRegister : goal.returns-in-StrRegister
returns-in-StrRegister g c = grind (arith, asks)

pub returns-in-LdrImmediate : goal.returns-in-LdrImmediate
returns-in-LdrImmediate g c = grind (arith, asks)
