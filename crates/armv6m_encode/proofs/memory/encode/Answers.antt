-- `encode`: that it keeps its contract.
use Rattle.std.proofs.Common.{◌≡◌, ◌∙◌, ℕ, ap, sym}
use Rattle.armv6m_decode.specs.declared.instr.Memory.{Memory}
use Rattle.armv6m_decode.specs.declared.instr.Instr.TheVariants as instr
use Rattle.armv6m_decode.specs.declared.instr.Decoded.TheVariants.{Op}
use Rattle.armv6m_decode.specs.Table.{decoded}
use Rattle.armv6m_encode.proofs.memory.encode.Goals as goal

-- a halfword that decodes to the row of an arm decodes to the instruction
arm : (code : ℕ) (op row : Memory) → op ≡ row → decoded code ≡ Op (instr.Memory row) → decoded code ≡ Op (instr.Memory op)
arm code op row is read = read ∙ ap (λ (m : Memory). Op (instr.Memory m)) (sym is)

pub returns-in-LdrLiteral : goal.returns-in-LdrLiteral
returns-in-LdrLiteral c = arm _ _ _ c.in-LdrLiteral.is c.ldr_literal.ensures

pub returns-in-StrRegister : goal.returns-in-StrRegister
returns-in-StrRegister c = arm _ _ _ c.in-StrRegister.is c.str_register.ensures

pub returns-in-StrhRegister : goal.returns-in-StrhRegister
returns-in-StrhRegister c = arm _ _ _ c.in-StrhRegister.is c.strh_register.ensures

pub returns-in-StrbRegister : goal.returns-in-StrbRegister
returns-in-StrbRegister c = arm _ _ _ c.in-StrbRegister.is c.strb_register.ensures

pub returns-in-LdrsbRegister : goal.returns-in-LdrsbRegister
returns-in-LdrsbRegister c = arm _ _ _ c.in-LdrsbRegister.is c.ldrsb_register.ensures

pub returns-in-LdrRegister : goal.returns-in-LdrRegister
returns-in-LdrRegister c = arm _ _ _ c.in-LdrRegister.is c.ldr_register.ensures

pub returns-in-LdrhRegister : goal.returns-in-LdrhRegister
returns-in-LdrhRegister c = arm _ _ _ c.in-LdrhRegister.is c.ldrh_register.ensures

pub returns-in-LdrbRegister : goal.returns-in-LdrbRegister
returns-in-LdrbRegister c = arm _ _ _ c.in-LdrbRegister.is c.ldrb_register.ensures

pub returns-in-LdrshRegister : goal.returns-in-LdrshRegister
returns-in-LdrshRegister c = arm _ _ _ c.in-LdrshRegister.is c.ldrsh_register.ensures

pub returns-in-StrImmediate : goal.returns-in-StrImmediate
returns-in-StrImmediate c = arm _ _ _ c.in-StrImmediate.is c.str_immediate.ensures

pub returns-in-LdrImmediate : goal.returns-in-LdrImmediate
returns-in-LdrImmediate c = arm _ _ _ c.in-LdrImmediate.is c.ldr_immediate.ensures

pub returns-in-StrbImmediate : goal.returns-in-StrbImmediate
returns-in-StrbImmediate c = arm _ _ _ c.in-StrbImmediate.is c.strb_immediate.ensures

pub returns-in-LdrbImmediate : goal.returns-in-LdrbImmediate
returns-in-LdrbImmediate c = arm _ _ _ c.in-LdrbImmediate.is c.ldrb_immediate.ensures

pub returns-in-StrhImmediate : goal.returns-in-StrhImmediate
returns-in-StrhImmediate c = arm _ _ _ c.in-StrhImmediate.is c.strh_immediate.ensures

pub returns-in-LdrhImmediate : goal.returns-in-LdrhImmediate
returns-in-LdrhImmediate c = arm _ _ _ c.in-LdrhImmediate.is c.ldrh_immediate.ensures

pub returns-in-StrSp : goal.returns-in-StrSp
returns-in-StrSp c = arm _ _ _ c.in-StrSp.is c.str_sp.ensures

pub returns-in-LdrSp : goal.returns-in-LdrSp
returns-in-LdrSp c = arm _ _ _ c.in-LdrSp.is c.ldr_sp.ensures
