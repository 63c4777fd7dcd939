-- Each arm does the instruction of its row in all but the PC, or the whole step, or nothing.
use Rattle.std.proofs.Common.{subst}
use Rattle.armv6m_decode.specs.declared.instr.Instr.TheVariants as instr
use Rattle.armv6m_step.specs.declared.arms.Arm.{Arm}
use Rattle.armv6m_step.specs.Arms.{InArm}
use Rattle.armv6m_step.proofs.ArmLemmas as arm
use Rattle.armv6m_step.proofs.QuickLemmas.{fetched, alu_goes, branch_goes, other_goes}
use Rattle.armv6m_step.proofs.quick.arm.Goals as goal

pub returns-in-LslsImmediate : goal.returns-in-LslsImmediate
returns-in-LslsImmediate g c =
    alu_goes g.B.Bus.acts c.args.core.now c.lsls_immediate.new.core c.args.half c.args.pc c.args.bus.now c.lsls_immediate.result _
    (arm.lsls_immediate c.args.half c.ranges.half.fits (subst (λ (a : Arm). InArm a c.args.half) c.in-LslsImmediate.is c.arm_of.ensures))
    c.requires c.lsls_immediate.ensures

pub returns-in-LsrsImmediate : goal.returns-in-LsrsImmediate
returns-in-LsrsImmediate g c =
    alu_goes g.B.Bus.acts c.args.core.now c.lsrs_immediate.new.core c.args.half c.args.pc c.args.bus.now c.lsrs_immediate.result _
    (arm.lsrs_immediate c.args.half c.ranges.half.fits (subst (λ (a : Arm). InArm a c.args.half) c.in-LsrsImmediate.is c.arm_of.ensures))
    c.requires c.lsrs_immediate.ensures

pub returns-in-AsrsImmediate : goal.returns-in-AsrsImmediate
returns-in-AsrsImmediate g c =
    alu_goes g.B.Bus.acts c.args.core.now c.asrs_immediate.new.core c.args.half c.args.pc c.args.bus.now c.asrs_immediate.result _
    (arm.asrs_immediate c.args.half c.ranges.half.fits (subst (λ (a : Arm). InArm a c.args.half) c.in-AsrsImmediate.is c.arm_of.ensures))
    c.requires c.asrs_immediate.ensures

pub returns-in-AddsRegister : goal.returns-in-AddsRegister
returns-in-AddsRegister g c =
    alu_goes g.B.Bus.acts c.args.core.now c.adds_register.new.core c.args.half c.args.pc c.args.bus.now c.adds_register.result _
    (arm.adds_register c.args.half c.ranges.half.fits (subst (λ (a : Arm). InArm a c.args.half) c.in-AddsRegister.is c.arm_of.ensures))
    c.requires c.adds_register.ensures

pub returns-in-SubsRegister : goal.returns-in-SubsRegister
returns-in-SubsRegister g c =
    alu_goes g.B.Bus.acts c.args.core.now c.subs_register.new.core c.args.half c.args.pc c.args.bus.now c.subs_register.result _
    (arm.subs_register c.args.half c.ranges.half.fits (subst (λ (a : Arm). InArm a c.args.half) c.in-SubsRegister.is c.arm_of.ensures))
    c.requires c.subs_register.ensures

pub returns-in-AddsImmediate3 : goal.returns-in-AddsImmediate3
returns-in-AddsImmediate3 g c =
    alu_goes g.B.Bus.acts c.args.core.now c.adds_immediate3.new.core c.args.half c.args.pc c.args.bus.now c.adds_immediate3.result _
    (arm.adds_immediate3 c.args.half c.ranges.half.fits (subst (λ (a : Arm). InArm a c.args.half) c.in-AddsImmediate3.is c.arm_of.ensures))
    c.requires c.adds_immediate3.ensures

pub returns-in-SubsImmediate3 : goal.returns-in-SubsImmediate3
returns-in-SubsImmediate3 g c =
    alu_goes g.B.Bus.acts c.args.core.now c.subs_immediate3.new.core c.args.half c.args.pc c.args.bus.now c.subs_immediate3.result _
    (arm.subs_immediate3 c.args.half c.ranges.half.fits (subst (λ (a : Arm). InArm a c.args.half) c.in-SubsImmediate3.is c.arm_of.ensures))
    c.requires c.subs_immediate3.ensures

pub returns-in-MovsImmediate : goal.returns-in-MovsImmediate
returns-in-MovsImmediate g c =
    alu_goes g.B.Bus.acts c.args.core.now c.movs_immediate.new.core c.args.half c.args.pc c.args.bus.now c.movs_immediate.result _
    (arm.movs_immediate c.args.half c.ranges.half.fits (subst (λ (a : Arm). InArm a c.args.half) c.in-MovsImmediate.is c.arm_of.ensures))
    c.requires c.movs_immediate.ensures

pub returns-in-CmpImmediate : goal.returns-in-CmpImmediate
returns-in-CmpImmediate g c =
    alu_goes g.B.Bus.acts c.args.core.now c.cmp_immediate.new.core c.args.half c.args.pc c.args.bus.now c.cmp_immediate.result _
    (arm.cmp_immediate c.args.half c.ranges.half.fits (subst (λ (a : Arm). InArm a c.args.half) c.in-CmpImmediate.is c.arm_of.ensures))
    c.requires c.cmp_immediate.ensures

pub returns-in-AddsImmediate : goal.returns-in-AddsImmediate
returns-in-AddsImmediate g c =
    alu_goes g.B.Bus.acts c.args.core.now c.adds_immediate.new.core c.args.half c.args.pc c.args.bus.now c.adds_immediate.result _
    (arm.adds_immediate c.args.half c.ranges.half.fits (subst (λ (a : Arm). InArm a c.args.half) c.in-AddsImmediate.is c.arm_of.ensures))
    c.requires c.adds_immediate.ensures

pub returns-in-SubsImmediate : goal.returns-in-SubsImmediate
returns-in-SubsImmediate g c =
    alu_goes g.B.Bus.acts c.args.core.now c.subs_immediate.new.core c.args.half c.args.pc c.args.bus.now c.subs_immediate.result _
    (arm.subs_immediate c.args.half c.ranges.half.fits (subst (λ (a : Arm). InArm a c.args.half) c.in-SubsImmediate.is c.arm_of.ensures))
    c.requires c.subs_immediate.ensures

pub returns-in-Ands : goal.returns-in-Ands
returns-in-Ands g c =
    alu_goes g.B.Bus.acts c.args.core.now c.ands.new.core c.args.half c.args.pc c.args.bus.now c.ands.result _
    (arm.ands c.args.half c.ranges.half.fits (subst (λ (a : Arm). InArm a c.args.half) c.in-Ands.is c.arm_of.ensures))
    c.requires c.ands.ensures

pub returns-in-Eors : goal.returns-in-Eors
returns-in-Eors g c =
    alu_goes g.B.Bus.acts c.args.core.now c.eors.new.core c.args.half c.args.pc c.args.bus.now c.eors.result _
    (arm.eors c.args.half c.ranges.half.fits (subst (λ (a : Arm). InArm a c.args.half) c.in-Eors.is c.arm_of.ensures))
    c.requires c.eors.ensures

pub returns-in-Adcs : goal.returns-in-Adcs
returns-in-Adcs g c =
    alu_goes g.B.Bus.acts c.args.core.now c.adcs.new.core c.args.half c.args.pc c.args.bus.now c.adcs.result _
    (arm.adcs c.args.half c.ranges.half.fits (subst (λ (a : Arm). InArm a c.args.half) c.in-Adcs.is c.arm_of.ensures))
    c.requires c.adcs.ensures

pub returns-in-Rors : goal.returns-in-Rors
returns-in-Rors g c =
    alu_goes g.B.Bus.acts c.args.core.now c.rors.new.core c.args.half c.args.pc c.args.bus.now c.rors.result _
    (arm.rors c.args.half c.ranges.half.fits (subst (λ (a : Arm). InArm a c.args.half) c.in-Rors.is c.arm_of.ensures))
    c.requires c.rors.ensures

pub returns-in-Tst : goal.returns-in-Tst
returns-in-Tst g c =
    alu_goes g.B.Bus.acts c.args.core.now c.tst.new.core c.args.half c.args.pc c.args.bus.now c.tst.result _
    (arm.tst c.args.half c.ranges.half.fits (subst (λ (a : Arm). InArm a c.args.half) c.in-Tst.is c.arm_of.ensures))
    c.requires c.tst.ensures

pub returns-in-Rsbs : goal.returns-in-Rsbs
returns-in-Rsbs g c =
    alu_goes g.B.Bus.acts c.args.core.now c.rsbs.new.core c.args.half c.args.pc c.args.bus.now c.rsbs.result _
    (arm.rsbs c.args.half c.ranges.half.fits (subst (λ (a : Arm). InArm a c.args.half) c.in-Rsbs.is c.arm_of.ensures))
    c.requires c.rsbs.ensures

pub returns-in-CmpRegister : goal.returns-in-CmpRegister
returns-in-CmpRegister g c =
    alu_goes g.B.Bus.acts c.args.core.now c.cmp_register.new.core c.args.half c.args.pc c.args.bus.now c.cmp_register.result _
    (arm.cmp_register c.args.half c.ranges.half.fits (subst (λ (a : Arm). InArm a c.args.half) c.in-CmpRegister.is c.arm_of.ensures))
    c.requires c.cmp_register.ensures

pub returns-in-Orrs : goal.returns-in-Orrs
returns-in-Orrs g c =
    alu_goes g.B.Bus.acts c.args.core.now c.orrs.new.core c.args.half c.args.pc c.args.bus.now c.orrs.result _
    (arm.orrs c.args.half c.ranges.half.fits (subst (λ (a : Arm). InArm a c.args.half) c.in-Orrs.is c.arm_of.ensures))
    c.requires c.orrs.ensures

pub returns-in-Muls : goal.returns-in-Muls
returns-in-Muls g c =
    alu_goes g.B.Bus.acts c.args.core.now c.muls.new.core c.args.half c.args.pc c.args.bus.now c.muls.result _
    (arm.muls c.args.half c.ranges.half.fits (subst (λ (a : Arm). InArm a c.args.half) c.in-Muls.is c.arm_of.ensures))
    c.requires c.muls.ensures

pub returns-in-MovHigh : goal.returns-in-MovHigh
returns-in-MovHigh g c =
    alu_goes g.B.Bus.acts c.args.core.now c.mov_high.new.core c.args.half c.args.pc c.args.bus.now c.mov_high.result _
    (arm.mov_high c.args.half c.ranges.half.fits (subst (λ (a : Arm). InArm a c.args.half) c.in-MovHigh.is c.arm_of.ensures))
    c.requires c.mov_high.ensures

pub exchange-requires : goal.exchange-requires
exchange-requires g c =
    record { pc = c.requires; row = arm.exchange c.args.half c.ranges.half.fits (subst (λ (a : Arm). InArm a c.args.half) c.in-Exchange.is c.arm_of.ensures) }

pub returns-in-LdrLiteral : goal.returns-in-LdrLiteral
returns-in-LdrLiteral g c =
    fetched g.B.Bus.acts c.args.core.now c.ldr_literal.new.core c.args.half c.args.pc c.args.bus.now c.ldr_literal.result c.ldr_literal.new.bus (instr.Memory _)
    (arm.ldr_literal c.args.half c.ranges.half.fits (subst (λ (a : Arm). InArm a c.args.half) c.in-LdrLiteral.is c.arm_of.ensures))
    c.requires c.ldr_literal.ensures

pub returns-in-StrRegister : goal.returns-in-StrRegister
returns-in-StrRegister g c =
    fetched g.B.Bus.acts c.args.core.now c.args.core.now c.args.half c.args.pc c.args.bus.now c.str_register.result c.str_register.new.bus (instr.Memory _)
    (arm.str_register c.args.half c.ranges.half.fits (subst (λ (a : Arm). InArm a c.args.half) c.in-StrRegister.is c.arm_of.ensures))
    c.requires c.str_register.ensures

pub returns-in-LdrRegister : goal.returns-in-LdrRegister
returns-in-LdrRegister g c =
    fetched g.B.Bus.acts c.args.core.now c.ldr_register.new.core c.args.half c.args.pc c.args.bus.now c.ldr_register.result c.ldr_register.new.bus
    (instr.Memory _)
    (arm.ldr_register c.args.half c.ranges.half.fits (subst (λ (a : Arm). InArm a c.args.half) c.in-LdrRegister.is c.arm_of.ensures))
    c.requires c.ldr_register.ensures

pub returns-in-StrImmediate : goal.returns-in-StrImmediate
returns-in-StrImmediate g c =
    fetched g.B.Bus.acts c.args.core.now c.args.core.now c.args.half c.args.pc c.args.bus.now c.str_immediate.result c.str_immediate.new.bus (instr.Memory _)
    (arm.str_immediate c.args.half c.ranges.half.fits (subst (λ (a : Arm). InArm a c.args.half) c.in-StrImmediate.is c.arm_of.ensures))
    c.requires c.str_immediate.ensures

pub returns-in-LdrImmediate : goal.returns-in-LdrImmediate
returns-in-LdrImmediate g c =
    fetched g.B.Bus.acts c.args.core.now c.ldr_immediate.new.core c.args.half c.args.pc c.args.bus.now c.ldr_immediate.result c.ldr_immediate.new.bus
    (instr.Memory _)
    (arm.ldr_immediate c.args.half c.ranges.half.fits (subst (λ (a : Arm). InArm a c.args.half) c.in-LdrImmediate.is c.arm_of.ensures))
    c.requires c.ldr_immediate.ensures

pub returns-in-StrbImmediate : goal.returns-in-StrbImmediate
returns-in-StrbImmediate g c =
    fetched g.B.Bus.acts c.args.core.now c.args.core.now c.args.half c.args.pc c.args.bus.now c.strb_immediate.result c.strb_immediate.new.bus (instr.Memory _)
    (arm.strb_immediate c.args.half c.ranges.half.fits (subst (λ (a : Arm). InArm a c.args.half) c.in-StrbImmediate.is c.arm_of.ensures))
    c.requires c.strb_immediate.ensures

pub returns-in-LdrbImmediate : goal.returns-in-LdrbImmediate
returns-in-LdrbImmediate g c =
    fetched g.B.Bus.acts c.args.core.now c.ldrb_immediate.new.core c.args.half c.args.pc c.args.bus.now c.ldrb_immediate.result c.ldrb_immediate.new.bus
    (instr.Memory _)
    (arm.ldrb_immediate c.args.half c.ranges.half.fits (subst (λ (a : Arm). InArm a c.args.half) c.in-LdrbImmediate.is c.arm_of.ensures))
    c.requires c.ldrb_immediate.ensures

pub returns-in-StrhImmediate : goal.returns-in-StrhImmediate
returns-in-StrhImmediate g c =
    fetched g.B.Bus.acts c.args.core.now c.args.core.now c.args.half c.args.pc c.args.bus.now c.strh_immediate.result c.strh_immediate.new.bus (instr.Memory _)
    (arm.strh_immediate c.args.half c.ranges.half.fits (subst (λ (a : Arm). InArm a c.args.half) c.in-StrhImmediate.is c.arm_of.ensures))
    c.requires c.strh_immediate.ensures

pub returns-in-LdrhImmediate : goal.returns-in-LdrhImmediate
returns-in-LdrhImmediate g c =
    fetched g.B.Bus.acts c.args.core.now c.ldrh_immediate.new.core c.args.half c.args.pc c.args.bus.now c.ldrh_immediate.result c.ldrh_immediate.new.bus
    (instr.Memory _)
    (arm.ldrh_immediate c.args.half c.ranges.half.fits (subst (λ (a : Arm). InArm a c.args.half) c.in-LdrhImmediate.is c.arm_of.ensures))
    c.requires c.ldrh_immediate.ensures

pub returns-in-StrSp : goal.returns-in-StrSp
returns-in-StrSp g c =
    fetched g.B.Bus.acts c.args.core.now c.args.core.now c.args.half c.args.pc c.args.bus.now c.str_sp.result c.str_sp.new.bus (instr.Memory _)
    (arm.str_sp c.args.half c.ranges.half.fits (subst (λ (a : Arm). InArm a c.args.half) c.in-StrSp.is c.arm_of.ensures))
    c.requires c.str_sp.ensures

pub returns-in-LdrSp : goal.returns-in-LdrSp
returns-in-LdrSp g c =
    fetched g.B.Bus.acts c.args.core.now c.ldr_sp.new.core c.args.half c.args.pc c.args.bus.now c.ldr_sp.result c.ldr_sp.new.bus (instr.Memory _)
    (arm.ldr_sp c.args.half c.ranges.half.fits (subst (λ (a : Arm). InArm a c.args.half) c.in-LdrSp.is c.arm_of.ensures))
    c.requires c.ldr_sp.ensures

pub returns-in-AddFromSp : goal.returns-in-AddFromSp
returns-in-AddFromSp g c =
    other_goes g.B.Bus.acts c.args.core.now c.add_from_sp.new.core c.args.half c.args.pc c.args.bus.now c.add_from_sp.result _
    (arm.add_from_sp c.args.half c.ranges.half.fits (subst (λ (a : Arm). InArm a c.args.half) c.in-AddFromSp.is c.arm_of.ensures))
    c.requires c.add_from_sp.ensures

pub returns-in-Push : goal.returns-in-Push
returns-in-Push g c =
    fetched g.B.Bus.acts c.args.core.now c.push_list.new.core c.args.half c.args.pc c.args.bus.now c.push_list.result c.push_list.new.bus (instr.Many _)
    (arm.push c.args.half c.ranges.half.fits (subst (λ (a : Arm). InArm a c.args.half) c.in-Push.is c.arm_of.ensures))
    c.requires c.push_list.ensures

pub returns-in-Reverse : goal.returns-in-Reverse
returns-in-Reverse g c =
    other_goes g.B.Bus.acts c.args.core.now c.reverse.new.core c.args.half c.args.pc c.args.bus.now c.reverse.result _
    (arm.reverse c.args.half c.ranges.half.fits (subst (λ (a : Arm). InArm a c.args.half) c.in-Reverse.is c.arm_of.ensures))
    c.requires c.reverse.ensures

pub returns-in-Pop : goal.returns-in-Pop
returns-in-Pop g c =
    fetched g.B.Bus.acts c.args.core.now c.pop_list.new.core c.args.half c.args.pc c.args.bus.now c.pop_list.result c.pop_list.new.bus (instr.Many _)
    (arm.pop c.args.half c.ranges.half.fits (subst (λ (a : Arm). InArm a c.args.half) c.in-Pop.is c.arm_of.ensures))
    c.requires c.pop_list.ensures

pub returns-in-BranchEqual : goal.returns-in-BranchEqual
returns-in-BranchEqual g c =
    branch_goes g.B.Bus.acts c.args.core.now c.args.core.now c.args.half c.args.pc c.args.bus.now c.branch_equal.result _
    (arm.branch_equal c.args.half c.ranges.half.fits (subst (λ (a : Arm). InArm a c.args.half) c.in-BranchEqual.is c.arm_of.ensures))
    c.requires c.branch_equal.ensures

pub returns-in-BranchNotEqual : goal.returns-in-BranchNotEqual
returns-in-BranchNotEqual g c =
    branch_goes g.B.Bus.acts c.args.core.now c.args.core.now c.args.half c.args.pc c.args.bus.now c.branch_not_equal.result _
    (arm.branch_not_equal c.args.half c.ranges.half.fits (subst (λ (a : Arm). InArm a c.args.half) c.in-BranchNotEqual.is c.arm_of.ensures))
    c.requires c.branch_not_equal.ensures

pub returns-in-BranchCarrySet : goal.returns-in-BranchCarrySet
returns-in-BranchCarrySet g c =
    branch_goes g.B.Bus.acts c.args.core.now c.args.core.now c.args.half c.args.pc c.args.bus.now c.branch_carry_set.result _
    (arm.branch_carry_set c.args.half c.ranges.half.fits (subst (λ (a : Arm). InArm a c.args.half) c.in-BranchCarrySet.is c.arm_of.ensures))
    c.requires c.branch_carry_set.ensures

pub returns-in-BranchCarryClear : goal.returns-in-BranchCarryClear
returns-in-BranchCarryClear g c =
    branch_goes g.B.Bus.acts c.args.core.now c.args.core.now c.args.half c.args.pc c.args.bus.now c.branch_carry_clear.result _
    (arm.branch_carry_clear c.args.half c.ranges.half.fits (subst (λ (a : Arm). InArm a c.args.half) c.in-BranchCarryClear.is c.arm_of.ensures))
    c.requires c.branch_carry_clear.ensures

pub returns-in-BranchHigher : goal.returns-in-BranchHigher
returns-in-BranchHigher g c =
    branch_goes g.B.Bus.acts c.args.core.now c.args.core.now c.args.half c.args.pc c.args.bus.now c.branch_higher.result _
    (arm.branch_higher c.args.half c.ranges.half.fits (subst (λ (a : Arm). InArm a c.args.half) c.in-BranchHigher.is c.arm_of.ensures))
    c.requires c.branch_higher.ensures

pub returns-in-Branch : goal.returns-in-Branch
returns-in-Branch g c =
    branch_goes g.B.Bus.acts c.args.core.now c.args.core.now c.args.half c.args.pc c.args.bus.now c.branch_always.result _
    (arm.branch c.args.half c.ranges.half.fits (subst (λ (a : Arm). InArm a c.args.half) c.in-Branch.is c.arm_of.ensures))
    c.requires c.branch_always.ensures

pub call-requires : goal.call-requires
call-requires g c = record { pc = c.requires; pair = arm.call c.args.half (subst (λ (a : Arm). InArm a c.args.half) c.in-Call.is c.arm_of.ensures) }
