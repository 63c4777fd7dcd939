-- The form of each instruction: its mnemonic and its operands, as the Armv6-M Architecture Reference Manual writes them (A6.7).
use Rattle.std.specs.Prelude.{◌≡◌, ◌⊎◌, ℕ, ◌+◌, ◌*◌, ◌^◌, ◌&&◌, Bool, true, not, IsTrue, nat_eq, nat_lt, if◌then◌else◌}
use Rattle.armv6m_decode.specs.declared.instr.Instr.{Instr}
use Rattle.armv6m_decode.specs.declared.instr.Instr.TheVariants as instr
use Rattle.armv6m_decode.specs.declared.instr.Alu.TheVariants.{LslsImmediate, LsrsImmediate, AsrsImmediate, AddsRegister, SubsRegister, AddsImmediate3}
use Rattle.armv6m_decode.specs.declared.instr.Alu.TheVariants.{SubsImmediate3, MovsImmediate, CmpImmediate, AddsImmediate8, SubsImmediate8, Ands, Eors}
use Rattle.armv6m_decode.specs.declared.instr.Alu.TheVariants.{LslsRegister, LsrsRegister, AsrsRegister, Adcs, Sbcs, Rors, Tst, Rsbs, CmpRegister, Cmn, Orrs}
use Rattle.armv6m_decode.specs.declared.instr.Alu.TheVariants.{Muls, Bics, Mvns, AddHigh, CmpHigh, MovHigh}
use Rattle.armv6m_decode.specs.declared.instr.Memory.TheVariants.{LdrLiteral, StrRegister, StrhRegister, StrbRegister, LdrsbRegister, LdrRegister, LdrhRegister}
use Rattle.armv6m_decode.specs.declared.instr.Memory.TheVariants.{LdrbRegister, LdrshRegister, StrImmediate, LdrImmediate, StrbImmediate, LdrbImmediate}
use Rattle.armv6m_decode.specs.declared.instr.Memory.TheVariants.{StrhImmediate, LdrhImmediate, StrSp, LdrSp}
use Rattle.armv6m_decode.specs.declared.instr.Many.TheVariants.{Push, Pop, Stm, Ldm}
use Rattle.armv6m_decode.specs.declared.instr.Branch.TheVariants.{Bx, Blx, Bcc, B, Bl}
use Rattle.armv6m_decode.specs.declared.instr.Other.TheVariants.{Adr, AddFromSp, AddToSp, SubFromSp, Sxth, Sxtb, Uxth, Uxtb, Cpsie, Cpsid, Rev, Rev16, Revsh}
use Rattle.armv6m_decode.specs.declared.instr.Other.TheVariants.{Bkpt, Nop, Yield, Wfe, Wfi, Sev, Udf, Svc, Mrs, Msr, Dsb, Dmb, Isb}
use Rattle.armv6m_decode.specs.declared.registers.TheConstants.{SP, LR, PC}
use Rattle.armv6m_decode.specs.Targets.{literal_target, branch_target}
use Rattle.armv6m_encode.specs.Encoding.{fields_fit}
use Rattle.armv6m_forms.specs.declared.mnemonic.Mnemonic.TheVariants as mnemonic
use Rattle.armv6m_forms.specs.declared.form.Operands.TheVariants.{None, One, Two, Three, Immediate, OneImmediate, TwoImmediate, ByRegister, ByOffset, List}
use Rattle.armv6m_forms.specs.declared.form.Operands.TheVariants.{BaseList, UpdatedList, Interrupts, FromSpecial, ToSpecial}
use Rattle.armv6m_forms.specs.declared.form.Aim.TheVariants.{Branch, BranchIf, BranchLink, Load, Address}
use Rattle.armv6m_forms.specs.declared.form.Form.{Form}
use Rattle.armv6m_forms.specs.declared.form.Form.TheVariants.{Plain, Aimed}

-- ---- operands

-- the amount of a right shift by an immediate: 0 means 32
abbrev pub right_shift : ℕ → ℕ
right_shift immediate = if nat_eq immediate 0 then 32 else immediate

-- a list of registers, with one more register if it is there
abbrev pub with_register : Bool → ℕ → ℕ → ℕ
with_register there register list = if there then list + 2 ^ register else list

-- ---- the forms, in the order of the rows of the encoding table

unfoldable pub form_of : Instr → ℕ → Form
-- LSLS by 0 is MOV (register) T2
form_of (instr.Alu (LslsImmediate d m immediate)) at =
    if nat_eq immediate 0 then Plain mnemonic.Movs (Two d m) else Plain mnemonic.Lsls (TwoImmediate d m immediate)
form_of (instr.Alu (LsrsImmediate d m immediate)) at = Plain mnemonic.Lsrs (TwoImmediate d m (right_shift immediate))
form_of (instr.Alu (AsrsImmediate d m immediate)) at = Plain mnemonic.Asrs (TwoImmediate d m (right_shift immediate))
form_of (instr.Alu (AddsRegister d n m)) at = Plain mnemonic.Adds (Three d n m)
form_of (instr.Alu (SubsRegister d n m)) at = Plain mnemonic.Subs (Three d n m)
form_of (instr.Alu (AddsImmediate3 d n immediate)) at = Plain mnemonic.Adds (TwoImmediate d n immediate)
form_of (instr.Alu (SubsImmediate3 d n immediate)) at = Plain mnemonic.Subs (TwoImmediate d n immediate)
form_of (instr.Alu (MovsImmediate d immediate)) at = Plain mnemonic.Movs (OneImmediate d immediate)
form_of (instr.Alu (CmpImmediate n immediate)) at = Plain mnemonic.Cmp (OneImmediate n immediate)
form_of (instr.Alu (AddsImmediate8 d immediate)) at = Plain mnemonic.Adds (OneImmediate d immediate)
form_of (instr.Alu (SubsImmediate8 d immediate)) at = Plain mnemonic.Subs (OneImmediate d immediate)
form_of (instr.Alu (Ands d m)) at = Plain mnemonic.Ands (Two d m)
form_of (instr.Alu (Eors d m)) at = Plain mnemonic.Eors (Two d m)
form_of (instr.Alu (LslsRegister d m)) at = Plain mnemonic.Lsls (Two d m)
form_of (instr.Alu (LsrsRegister d m)) at = Plain mnemonic.Lsrs (Two d m)
form_of (instr.Alu (AsrsRegister d m)) at = Plain mnemonic.Asrs (Two d m)
form_of (instr.Alu (Adcs d m)) at = Plain mnemonic.Adcs (Two d m)
form_of (instr.Alu (Sbcs d m)) at = Plain mnemonic.Sbcs (Two d m)
form_of (instr.Alu (Rors d m)) at = Plain mnemonic.Rors (Two d m)
form_of (instr.Alu (Tst d m)) at = Plain mnemonic.Tst (Two d m)
form_of (instr.Alu (Rsbs d n)) at = Plain mnemonic.Rsbs (TwoImmediate d n 0)
form_of (instr.Alu (CmpRegister d m)) at = Plain mnemonic.Cmp (Two d m)
form_of (instr.Alu (Cmn d m)) at = Plain mnemonic.Cmn (Two d m)
form_of (instr.Alu (Orrs d m)) at = Plain mnemonic.Orrs (Two d m)
form_of (instr.Alu (Muls d m)) at = Plain mnemonic.Muls (Two d m)
form_of (instr.Alu (Bics d m)) at = Plain mnemonic.Bics (Two d m)
form_of (instr.Alu (Mvns d m)) at = Plain mnemonic.Mvns (Two d m)
form_of (instr.Alu (AddHigh d m)) at = Plain mnemonic.Add (Two d m)
form_of (instr.Alu (CmpHigh n m)) at = Plain mnemonic.Cmp (Two n m)
form_of (instr.Alu (MovHigh d m)) at = Plain mnemonic.Mov (Two d m)
form_of (instr.Branch (Bx m)) at = Plain mnemonic.Bx (One m)
form_of (instr.Branch (Blx m)) at = Plain mnemonic.Blx (One m)
form_of (instr.Memory (LdrLiteral t immediate)) at = Aimed (Load t) (literal_target at immediate)
form_of (instr.Memory (StrRegister t n m)) at = Plain mnemonic.Str (ByRegister t n m)
form_of (instr.Memory (StrhRegister t n m)) at = Plain mnemonic.Strh (ByRegister t n m)
form_of (instr.Memory (StrbRegister t n m)) at = Plain mnemonic.Strb (ByRegister t n m)
form_of (instr.Memory (LdrsbRegister t n m)) at = Plain mnemonic.Ldrsb (ByRegister t n m)
form_of (instr.Memory (LdrRegister t n m)) at = Plain mnemonic.Ldr (ByRegister t n m)
form_of (instr.Memory (LdrhRegister t n m)) at = Plain mnemonic.Ldrh (ByRegister t n m)
form_of (instr.Memory (LdrbRegister t n m)) at = Plain mnemonic.Ldrb (ByRegister t n m)
form_of (instr.Memory (LdrshRegister t n m)) at = Plain mnemonic.Ldrsh (ByRegister t n m)
form_of (instr.Memory (StrImmediate t n immediate)) at = Plain mnemonic.Str (ByOffset t n (4 * immediate))
form_of (instr.Memory (LdrImmediate t n immediate)) at = Plain mnemonic.Ldr (ByOffset t n (4 * immediate))
form_of (instr.Memory (StrbImmediate t n immediate)) at = Plain mnemonic.Strb (ByOffset t n immediate)
form_of (instr.Memory (LdrbImmediate t n immediate)) at = Plain mnemonic.Ldrb (ByOffset t n immediate)
form_of (instr.Memory (StrhImmediate t n immediate)) at = Plain mnemonic.Strh (ByOffset t n (2 * immediate))
form_of (instr.Memory (LdrhImmediate t n immediate)) at = Plain mnemonic.Ldrh (ByOffset t n (2 * immediate))
form_of (instr.Memory (StrSp t immediate)) at = Plain mnemonic.Str (ByOffset t SP (4 * immediate))
form_of (instr.Memory (LdrSp t immediate)) at = Plain mnemonic.Ldr (ByOffset t SP (4 * immediate))
form_of (instr.Other (Adr d immediate)) at = Aimed (Address d) (literal_target at immediate)
form_of (instr.Other (AddFromSp d immediate)) at = Plain mnemonic.Add (TwoImmediate d SP (4 * immediate))
form_of (instr.Other (AddToSp immediate)) at = Plain mnemonic.Add (OneImmediate SP (4 * immediate))
form_of (instr.Other (SubFromSp immediate)) at = Plain mnemonic.Sub (OneImmediate SP (4 * immediate))
form_of (instr.Other (Sxth d m)) at = Plain mnemonic.Sxth (Two d m)
form_of (instr.Other (Sxtb d m)) at = Plain mnemonic.Sxtb (Two d m)
form_of (instr.Other (Uxth d m)) at = Plain mnemonic.Uxth (Two d m)
form_of (instr.Other (Uxtb d m)) at = Plain mnemonic.Uxtb (Two d m)
form_of (instr.Many (Push lr list)) at = Plain mnemonic.Push (List (with_register lr LR list))
form_of (instr.Many (Pop to_pc list)) at = Plain mnemonic.Pop (List (with_register to_pc PC list))
form_of (instr.Other Cpsie) at = Plain mnemonic.Cpsie Interrupts
form_of (instr.Other Cpsid) at = Plain mnemonic.Cpsid Interrupts
form_of (instr.Other (Rev d m)) at = Plain mnemonic.Rev (Two d m)
form_of (instr.Other (Rev16 d m)) at = Plain mnemonic.Rev16 (Two d m)
form_of (instr.Other (Revsh d m)) at = Plain mnemonic.Revsh (Two d m)
form_of (instr.Other (Bkpt immediate)) at = Plain mnemonic.Bkpt (Immediate immediate)
form_of (instr.Other Nop) at = Plain mnemonic.Nop None
form_of (instr.Other Yield) at = Plain mnemonic.Yield None
form_of (instr.Other Wfe) at = Plain mnemonic.Wfe None
form_of (instr.Other Wfi) at = Plain mnemonic.Wfi None
form_of (instr.Other Sev) at = Plain mnemonic.Sev None
form_of (instr.Many (Stm n list)) at = Plain mnemonic.Stm (UpdatedList n list)
form_of (instr.Many (Ldm n list)) at = Plain mnemonic.Ldm (BaseList n list)
form_of (instr.Branch (Bcc condition immediate)) at = Aimed (BranchIf condition) (branch_target 8 at immediate)
-- the operand of UDF and SVC isn't written: both end as undefined with any operand
form_of (instr.Other (Udf immediate)) at = Plain mnemonic.Udf None
form_of (instr.Other (Svc immediate)) at = Plain mnemonic.Svc None
form_of (instr.Branch (B immediate)) at = Aimed Branch (branch_target 11 at immediate)
form_of (instr.Branch (Bl immediate)) at = Aimed BranchLink (branch_target 24 at immediate)
form_of (instr.Other (Mrs d special)) at = Plain mnemonic.Mrs (FromSpecial d special)
form_of (instr.Other (Msr n special)) at = Plain mnemonic.Msr (ToSpecial special n)
form_of (instr.Other Dsb) at = Plain mnemonic.Dsb None
form_of (instr.Other Dmb) at = Plain mnemonic.Dmb None
form_of (instr.Other Isb) at = Plain mnemonic.Isb None

-- ---- from a form to its instruction

-- a second form that is read for one instruction: LSLS by 0, as its row has it
abbrev pub IsReadToo : Instr → Form → Type 0
IsReadToo (instr.Alu (LslsImmediate d m immediate)) form = (immediate ≡ 0) × (form ≡ Plain mnemonic.Lsls (TwoImmediate d m 0))
IsReadToo _ form = ⊥

-- Whether an instruction is the one made for its form, where several have one form. CMP of two low registers is encoding T1, since T2 is
-- UNPREDICTABLE there (A6.7.28). UDF and SVC have the operand 0.
abbrev pub is_made : Instr → Bool
is_made (instr.Alu (CmpHigh n m)) = not (nat_lt n 8 && nat_lt m 8)
is_made (instr.Other (Udf immediate)) = nat_eq immediate 0
is_made (instr.Other (Svc immediate)) = nat_eq immediate 0
is_made _ = true

-- the instruction at an address that is made for a form
pub record StandsFor (instr : Instr) (at : ℕ) (form : Form) : Type 0 where
  pub fields : IsTrue (fields_fit instr)
  pub made : IsTrue (is_made instr)
  pub written : (form_of instr at ≡ form) ⊎ IsReadToo instr form

-- no instruction at an address is made for a form
abbrev pub HasNoInstruction : ℕ → Form → Type 0
HasNoInstruction at form = (instr : Instr) → StandsFor instr at form → ⊥

-- a form at an address has at most one instruction
abbrev pub OneInstructionForEach : Type 0
OneInstructionForEach = (first second : Instr) (at : ℕ) (form : Form) → StandsFor first at form → StandsFor second at form → first ≡ second
