-- `instruction`: its contract, `StandsFor`.
use Rattle.armv6m_forms.proofs.ReadLemmas.{as_written}
use Rattle.armv6m_forms.proofs.instruction_of.instruction.Goals as goal

pub returns-in-None : goal.returns-in-None
returns-in-None c = as_written c.args.mnemonic c.args.operands _ _ c.in-None.is c.none.ensures

pub returns-in-One : goal.returns-in-One
returns-in-One c = as_written c.args.mnemonic c.args.operands _ _ c.in-One.is c.one.ensures

pub returns-in-Two : goal.returns-in-Two
returns-in-Two c = as_written c.args.mnemonic c.args.operands _ _ c.in-Two.is c.two.ensures

pub returns-in-Three : goal.returns-in-Three
returns-in-Three c = as_written c.args.mnemonic c.args.operands _ _ c.in-Three.is c.three.ensures

pub returns-in-Immediate : goal.returns-in-Immediate
returns-in-Immediate c = as_written c.args.mnemonic c.args.operands _ _ c.in-Immediate.is c.immediate.ensures

pub returns-in-OneImmediate : goal.returns-in-OneImmediate
returns-in-OneImmediate c = as_written c.args.mnemonic c.args.operands _ _ c.in-OneImmediate.is c.one_immediate.ensures

pub returns-in-TwoImmediate : goal.returns-in-TwoImmediate
returns-in-TwoImmediate c = as_written c.args.mnemonic c.args.operands _ _ c.in-TwoImmediate.is c.two_immediate.ensures

pub returns-in-ByRegister : goal.returns-in-ByRegister
returns-in-ByRegister c = as_written c.args.mnemonic c.args.operands _ _ c.in-ByRegister.is c.by_register.ensures

pub returns-in-ByOffset : goal.returns-in-ByOffset
returns-in-ByOffset c = as_written c.args.mnemonic c.args.operands _ _ c.in-ByOffset.is c.by_offset.ensures

pub returns-in-List : goal.returns-in-List
returns-in-List c = as_written c.args.mnemonic c.args.operands _ _ c.in-List.is c.list.ensures

pub returns-in-BaseList : goal.returns-in-BaseList
returns-in-BaseList c = as_written c.args.mnemonic c.args.operands _ _ c.in-BaseList.is c.base_list.ensures

pub returns-in-UpdatedList : goal.returns-in-UpdatedList
returns-in-UpdatedList c = as_written c.args.mnemonic c.args.operands _ _ c.in-UpdatedList.is c.updated_list.ensures

pub returns-in-Interrupts : goal.returns-in-Interrupts
returns-in-Interrupts c = as_written c.args.mnemonic c.args.operands _ _ c.in-Interrupts.is c.interrupts.ensures

pub returns-in-FromSpecial : goal.returns-in-FromSpecial
returns-in-FromSpecial c = as_written c.args.mnemonic c.args.operands _ _ c.in-FromSpecial.is c.from_special.ensures

pub returns-in-ToSpecial : goal.returns-in-ToSpecial
returns-in-ToSpecial c = as_written c.args.mnemonic c.args.operands _ _ c.in-ToSpecial.is c.to_special.ensures
