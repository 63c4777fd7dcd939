-- The encoding of an instruction: the halfword, or the pair, that the decoder's table reads as this instruction.
use Rattle.std.specs.Prelude.{◌≡◌, Bool, true, ◌&&◌, nat_lt, Some}
use Rattle.armv6m_decode.specs.declared.instr.Instr.{Instr}
use Rattle.armv6m_decode.specs.declared.instr.Instr.TheVariants as instr
use Rattle.armv6m_decode.specs.declared.instr.Alu.TheVariants.{LslsImmediate, LsrsImmediate, AsrsImmediate, AddsRegister, SubsRegister, AddsImmediate3}
use Rattle.armv6m_decode.specs.declared.instr.Alu.TheVariants.{SubsImmediate3, MovsImmediate, CmpImmediate, AddsImmediate8, SubsImmediate8, Ands, Eors}
use Rattle.armv6m_decode.specs.declared.instr.Alu.TheVariants.{LslsRegister, LsrsRegister, AsrsRegister, Adcs, Sbcs, Rors, Tst, Rsbs, CmpRegister, Cmn, Orrs}
use Rattle.armv6m_decode.specs.declared.instr.Alu.TheVariants.{Muls, Bics, Mvns, AddHigh, CmpHigh, MovHigh}
use Rattle.armv6m_decode.specs.declared.instr.Memory.TheVariants.{LdrLiteral, StrRegister, StrhRegister, StrbRegister, LdrsbRegister, LdrRegister, LdrhRegister}
use Rattle.armv6m_decode.specs.declared.instr.Memory.TheVariants.{LdrbRegister, LdrshRegister, StrImmediate, LdrImmediate, StrbImmediate, LdrbImmediate}
use Rattle.armv6m_decode.specs.declared.instr.Memory.TheVariants.{StrhImmediate, LdrhImmediate, StrSp, LdrSp}
use Rattle.armv6m_decode.specs.declared.instr.Many.TheVariants.{Push, Pop, Stm, Ldm}
use Rattle.armv6m_decode.specs.declared.instr.Branch.TheVariants.{Bx, Blx, Bcc, B, Bl}
use Rattle.armv6m_decode.specs.declared.instr.Other.TheVariants.{Adr, AddFromSp, AddToSp, SubFromSp, Sxth, Sxtb, Uxth, Uxtb, Cpsie, Cpsid, Rev, Rev16, Revsh}
use Rattle.armv6m_decode.specs.declared.instr.Other.TheVariants.{Bkpt, Nop, Yield, Wfe, Wfi, Sev, Udf, Svc, Mrs, Msr, Dsb, Dmb, Isb}
use Rattle.armv6m_decode.specs.declared.instr.Decoded.TheVariants.{Op, NeedsSecond}
use Rattle.armv6m_decode.specs.Table.{decoded, decoded_pair}
use Rattle.armv6m_encode.specs.declared.code.Encoding.{Encoding}
use Rattle.armv6m_encode.specs.declared.code.Encoding.TheVariants.{Half, Pair}

abbrev pub IsEncodedAs : Instr → Encoding → Type 0
IsEncodedAs i (Half half) = decoded half ≡ Op i
IsEncodedAs i (Pair first second) = (decoded first ≡ NeedsSecond) × (decoded_pair first second ≡ Some i)

-- whether each field of an instruction fits the bits that its row has for it
abbrev pub fields_fit : Instr → Bool
fields_fit (instr.Alu (LslsImmediate d m immediate)) = nat_lt d 8 && nat_lt m 8 && nat_lt immediate 32
fields_fit (instr.Alu (LsrsImmediate d m immediate)) = nat_lt d 8 && nat_lt m 8 && nat_lt immediate 32
fields_fit (instr.Alu (AsrsImmediate d m immediate)) = nat_lt d 8 && nat_lt m 8 && nat_lt immediate 32
fields_fit (instr.Alu (AddsRegister d n m)) = nat_lt d 8 && nat_lt n 8 && nat_lt m 8
fields_fit (instr.Alu (SubsRegister d n m)) = nat_lt d 8 && nat_lt n 8 && nat_lt m 8
fields_fit (instr.Alu (AddsImmediate3 d n immediate)) = nat_lt d 8 && nat_lt n 8 && nat_lt immediate 8
fields_fit (instr.Alu (SubsImmediate3 d n immediate)) = nat_lt d 8 && nat_lt n 8 && nat_lt immediate 8
fields_fit (instr.Alu (MovsImmediate d immediate)) = nat_lt d 8 && nat_lt immediate 256
fields_fit (instr.Alu (CmpImmediate n immediate)) = nat_lt n 8 && nat_lt immediate 256
fields_fit (instr.Alu (AddsImmediate8 d immediate)) = nat_lt d 8 && nat_lt immediate 256
fields_fit (instr.Alu (SubsImmediate8 d immediate)) = nat_lt d 8 && nat_lt immediate 256
fields_fit (instr.Alu (Ands d m)) = nat_lt d 8 && nat_lt m 8
fields_fit (instr.Alu (Eors d m)) = nat_lt d 8 && nat_lt m 8
fields_fit (instr.Alu (LslsRegister d m)) = nat_lt d 8 && nat_lt m 8
fields_fit (instr.Alu (LsrsRegister d m)) = nat_lt d 8 && nat_lt m 8
fields_fit (instr.Alu (AsrsRegister d m)) = nat_lt d 8 && nat_lt m 8
fields_fit (instr.Alu (Adcs d m)) = nat_lt d 8 && nat_lt m 8
fields_fit (instr.Alu (Sbcs d m)) = nat_lt d 8 && nat_lt m 8
fields_fit (instr.Alu (Rors d m)) = nat_lt d 8 && nat_lt m 8
fields_fit (instr.Alu (Tst d m)) = nat_lt d 8 && nat_lt m 8
fields_fit (instr.Alu (Rsbs d n)) = nat_lt d 8 && nat_lt n 8
fields_fit (instr.Alu (CmpRegister d m)) = nat_lt d 8 && nat_lt m 8
fields_fit (instr.Alu (Cmn d m)) = nat_lt d 8 && nat_lt m 8
fields_fit (instr.Alu (Orrs d m)) = nat_lt d 8 && nat_lt m 8
fields_fit (instr.Alu (Muls d m)) = nat_lt d 8 && nat_lt m 8
fields_fit (instr.Alu (Bics d m)) = nat_lt d 8 && nat_lt m 8
fields_fit (instr.Alu (Mvns d m)) = nat_lt d 8 && nat_lt m 8
fields_fit (instr.Alu (AddHigh d m)) = nat_lt d 16 && nat_lt m 16
fields_fit (instr.Alu (CmpHigh n m)) = nat_lt n 16 && nat_lt m 16
fields_fit (instr.Alu (MovHigh d m)) = nat_lt d 16 && nat_lt m 16
fields_fit (instr.Memory (LdrLiteral t immediate)) = nat_lt t 8 && nat_lt immediate 256
fields_fit (instr.Memory (StrRegister t n m)) = nat_lt t 8 && nat_lt n 8 && nat_lt m 8
fields_fit (instr.Memory (StrhRegister t n m)) = nat_lt t 8 && nat_lt n 8 && nat_lt m 8
fields_fit (instr.Memory (StrbRegister t n m)) = nat_lt t 8 && nat_lt n 8 && nat_lt m 8
fields_fit (instr.Memory (LdrsbRegister t n m)) = nat_lt t 8 && nat_lt n 8 && nat_lt m 8
fields_fit (instr.Memory (LdrRegister t n m)) = nat_lt t 8 && nat_lt n 8 && nat_lt m 8
fields_fit (instr.Memory (LdrhRegister t n m)) = nat_lt t 8 && nat_lt n 8 && nat_lt m 8
fields_fit (instr.Memory (LdrbRegister t n m)) = nat_lt t 8 && nat_lt n 8 && nat_lt m 8
fields_fit (instr.Memory (LdrshRegister t n m)) = nat_lt t 8 && nat_lt n 8 && nat_lt m 8
fields_fit (instr.Memory (StrImmediate t n immediate)) = nat_lt t 8 && nat_lt n 8 && nat_lt immediate 32
fields_fit (instr.Memory (LdrImmediate t n immediate)) = nat_lt t 8 && nat_lt n 8 && nat_lt immediate 32
fields_fit (instr.Memory (StrbImmediate t n immediate)) = nat_lt t 8 && nat_lt n 8 && nat_lt immediate 32
fields_fit (instr.Memory (LdrbImmediate t n immediate)) = nat_lt t 8 && nat_lt n 8 && nat_lt immediate 32
fields_fit (instr.Memory (StrhImmediate t n immediate)) = nat_lt t 8 && nat_lt n 8 && nat_lt immediate 32
fields_fit (instr.Memory (LdrhImmediate t n immediate)) = nat_lt t 8 && nat_lt n 8 && nat_lt immediate 32
fields_fit (instr.Memory (StrSp t immediate)) = nat_lt t 8 && nat_lt immediate 256
fields_fit (instr.Memory (LdrSp t immediate)) = nat_lt t 8 && nat_lt immediate 256
fields_fit (instr.Many (Push lr list)) = nat_lt list 256
fields_fit (instr.Many (Pop to_pc list)) = nat_lt list 256
fields_fit (instr.Many (Stm n list)) = nat_lt n 8 && nat_lt list 256
fields_fit (instr.Many (Ldm n list)) = nat_lt n 8 && nat_lt list 256
fields_fit (instr.Branch (Bx m)) = nat_lt m 16
fields_fit (instr.Branch (Blx m)) = nat_lt m 16
fields_fit (instr.Branch (Bcc condition immediate)) = nat_lt immediate 256
fields_fit (instr.Branch (B immediate)) = nat_lt immediate 2048
fields_fit (instr.Branch (Bl immediate)) = nat_lt immediate 16777216
fields_fit (instr.Other (Adr d immediate)) = nat_lt d 8 && nat_lt immediate 256
fields_fit (instr.Other (AddFromSp d immediate)) = nat_lt d 8 && nat_lt immediate 256
fields_fit (instr.Other (AddToSp immediate)) = nat_lt immediate 128
fields_fit (instr.Other (SubFromSp immediate)) = nat_lt immediate 128
fields_fit (instr.Other (Sxth d m)) = nat_lt d 8 && nat_lt m 8
fields_fit (instr.Other (Sxtb d m)) = nat_lt d 8 && nat_lt m 8
fields_fit (instr.Other (Uxth d m)) = nat_lt d 8 && nat_lt m 8
fields_fit (instr.Other (Uxtb d m)) = nat_lt d 8 && nat_lt m 8
fields_fit (instr.Other Cpsie) = true
fields_fit (instr.Other Cpsid) = true
fields_fit (instr.Other (Rev d m)) = nat_lt d 8 && nat_lt m 8
fields_fit (instr.Other (Rev16 d m)) = nat_lt d 8 && nat_lt m 8
fields_fit (instr.Other (Revsh d m)) = nat_lt d 8 && nat_lt m 8
fields_fit (instr.Other (Bkpt immediate)) = nat_lt immediate 256
fields_fit (instr.Other Nop) = true
fields_fit (instr.Other Yield) = true
fields_fit (instr.Other Wfe) = true
fields_fit (instr.Other Wfi) = true
fields_fit (instr.Other Sev) = true
fields_fit (instr.Other (Udf immediate)) = nat_lt immediate 256
fields_fit (instr.Other (Svc immediate)) = nat_lt immediate 256
fields_fit (instr.Other (Mrs d special)) = nat_lt d 16 && nat_lt special 256
fields_fit (instr.Other (Msr n special)) = nat_lt n 16 && nat_lt special 256
fields_fit (instr.Other Dsb) = true
fields_fit (instr.Other Dmb) = true
fields_fit (instr.Other Isb) = true
