-- `encode`: that it keeps its contract.
use Rattle.std.proofs.Common.{◌≡◌, ◌∙◌, ℕ, ap, sym}
use Rattle.armv6m_decode.specs.declared.instr.Alu.{Alu}
use Rattle.armv6m_decode.specs.declared.instr.Instr.TheVariants as instr
use Rattle.armv6m_decode.specs.declared.instr.Decoded.TheVariants.{Op}
use Rattle.armv6m_decode.specs.Table.{decoded}
use Rattle.armv6m_encode.proofs.alu.encode.Goals as goal

-- a halfword that decodes to the row of an arm decodes to the instruction
arm : (code : ℕ) (op row : Alu) → op ≡ row → decoded code ≡ Op (instr.Alu row) → decoded code ≡ Op (instr.Alu op)
arm code op row is read = read ∙ ap (λ (a : Alu). Op (instr.Alu a)) (sym is)

pub returns-in-LslsImmediate : goal.returns-in-LslsImmediate
returns-in-LslsImmediate c = arm _ _ _ c.in-LslsImmediate.is c.lsls_immediate.ensures

pub returns-in-LsrsImmediate : goal.returns-in-LsrsImmediate
returns-in-LsrsImmediate c = arm _ _ _ c.in-LsrsImmediate.is c.lsrs_immediate.ensures

pub returns-in-AsrsImmediate : goal.returns-in-AsrsImmediate
returns-in-AsrsImmediate c = arm _ _ _ c.in-AsrsImmediate.is c.asrs_immediate.ensures

pub returns-in-AddsRegister : goal.returns-in-AddsRegister
returns-in-AddsRegister c = arm _ _ _ c.in-AddsRegister.is c.adds_register.ensures

pub returns-in-SubsRegister : goal.returns-in-SubsRegister
returns-in-SubsRegister c = arm _ _ _ c.in-SubsRegister.is c.subs_register.ensures

pub returns-in-AddsImmediate3 : goal.returns-in-AddsImmediate3
returns-in-AddsImmediate3 c = arm _ _ _ c.in-AddsImmediate3.is c.adds_immediate_3.ensures

pub returns-in-SubsImmediate3 : goal.returns-in-SubsImmediate3
returns-in-SubsImmediate3 c = arm _ _ _ c.in-SubsImmediate3.is c.subs_immediate_3.ensures

pub returns-in-MovsImmediate : goal.returns-in-MovsImmediate
returns-in-MovsImmediate c = arm _ _ _ c.in-MovsImmediate.is c.movs_immediate.ensures

pub returns-in-CmpImmediate : goal.returns-in-CmpImmediate
returns-in-CmpImmediate c = arm _ _ _ c.in-CmpImmediate.is c.cmp_immediate.ensures

pub returns-in-AddsImmediate8 : goal.returns-in-AddsImmediate8
returns-in-AddsImmediate8 c = arm _ _ _ c.in-AddsImmediate8.is c.adds_immediate_8.ensures

pub returns-in-SubsImmediate8 : goal.returns-in-SubsImmediate8
returns-in-SubsImmediate8 c = arm _ _ _ c.in-SubsImmediate8.is c.subs_immediate_8.ensures

pub returns-in-Ands : goal.returns-in-Ands
returns-in-Ands c = arm _ _ _ c.in-Ands.is c.ands.ensures

pub returns-in-Eors : goal.returns-in-Eors
returns-in-Eors c = arm _ _ _ c.in-Eors.is c.eors.ensures

pub returns-in-LslsRegister : goal.returns-in-LslsRegister
returns-in-LslsRegister c = arm _ _ _ c.in-LslsRegister.is c.lsls_register.ensures

pub returns-in-LsrsRegister : goal.returns-in-LsrsRegister
returns-in-LsrsRegister c = arm _ _ _ c.in-LsrsRegister.is c.lsrs_register.ensures

pub returns-in-AsrsRegister : goal.returns-in-AsrsRegister
returns-in-AsrsRegister c = arm _ _ _ c.in-AsrsRegister.is c.asrs_register.ensures

pub returns-in-Adcs : goal.returns-in-Adcs
returns-in-Adcs c = arm _ _ _ c.in-Adcs.is c.adcs.ensures

pub returns-in-Sbcs : goal.returns-in-Sbcs
returns-in-Sbcs c = arm _ _ _ c.in-Sbcs.is c.sbcs.ensures

pub returns-in-Rors : goal.returns-in-Rors
returns-in-Rors c = arm _ _ _ c.in-Rors.is c.rors.ensures

pub returns-in-Tst : goal.returns-in-Tst
returns-in-Tst c = arm _ _ _ c.in-Tst.is c.tst.ensures

pub returns-in-Rsbs : goal.returns-in-Rsbs
returns-in-Rsbs c = arm _ _ _ c.in-Rsbs.is c.rsbs.ensures

pub returns-in-CmpRegister : goal.returns-in-CmpRegister
returns-in-CmpRegister c = arm _ _ _ c.in-CmpRegister.is c.cmp_register.ensures

pub returns-in-Cmn : goal.returns-in-Cmn
returns-in-Cmn c = arm _ _ _ c.in-Cmn.is c.cmn.ensures

pub returns-in-Orrs : goal.returns-in-Orrs
returns-in-Orrs c = arm _ _ _ c.in-Orrs.is c.orrs.ensures

pub returns-in-Muls : goal.returns-in-Muls
returns-in-Muls c = arm _ _ _ c.in-Muls.is c.muls.ensures

pub returns-in-Bics : goal.returns-in-Bics
returns-in-Bics c = arm _ _ _ c.in-Bics.is c.bics.ensures

pub returns-in-Mvns : goal.returns-in-Mvns
returns-in-Mvns c = arm _ _ _ c.in-Mvns.is c.mvns.ensures

pub returns-in-AddHigh : goal.returns-in-AddHigh
returns-in-AddHigh c = arm _ _ _ c.in-AddHigh.is c.add_high.ensures

pub returns-in-CmpHigh : goal.returns-in-CmpHigh
returns-in-CmpHigh c = arm _ _ _ c.in-CmpHigh.is c.cmp_high.ensures

pub returns-in-MovHigh : goal.returns-in-MovHigh
returns-in-MovHigh c = arm _ _ _ c.in-MovHigh.is c.mov_high.ensures
