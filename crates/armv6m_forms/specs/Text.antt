-- The text of a form in the manual's assembler syntax (A6.7), with a blank after the mnemonic and after each comma.
use Rattle.std.specs.Prelude.{◌≡◌, ◌⊎◌, ℕ, List, [], ◌++◌, codes, decimal, nat_eq, if◌then◌else◌}
use Rattle.std.specs.List.{filter, range_with_len, join_by}
use Rattle.octets.specs.Digit.{hex_text}
use Rattle.armv6m_alu.specs.Bits.{is_bit_set}
use Rattle.armv6m_decode.specs.declared.condition.Condition.{Condition}
use Rattle.armv6m_decode.specs.declared.condition.Condition.TheVariants.{Equal, NotEqual, CarrySet, CarryClear, Minus, Plus, Overflow, NoOverflow, Higher}
use Rattle.armv6m_decode.specs.declared.condition.Condition.TheVariants.{LowerOrSame, GreaterOrEqual, LessThan, GreaterThan, LessOrEqual}
use Rattle.armv6m_decode.specs.declared.registers.TheConstants.{SP, LR, PC, APSR, MSP, PRIMASK}
use Rattle.armv6m_forms.specs.declared.mnemonic.Mnemonic.{Mnemonic}
use Rattle.armv6m_forms.specs.declared.mnemonic.Mnemonic.TheVariants as mnemonic
use Rattle.armv6m_forms.specs.declared.form.Operands.{Operands}
use Rattle.armv6m_forms.specs.declared.form.Operands.TheVariants.{None, One, Two, Three, Immediate, OneImmediate, TwoImmediate, ByRegister, ByOffset}
use Rattle.armv6m_forms.specs.declared.form.Operands.TheVariants.{List as RegisterList, BaseList, UpdatedList, Interrupts, FromSpecial, ToSpecial}
use Rattle.armv6m_forms.specs.declared.form.Aim.{Aim}
use Rattle.armv6m_forms.specs.declared.form.Aim.TheVariants.{Branch, BranchIf, BranchLink, Load, Address}
use Rattle.armv6m_forms.specs.declared.form.Form.{Form}
use Rattle.armv6m_forms.specs.declared.form.Form.TheVariants.{Plain, Aimed}

-- ---- words

unfoldable pub text_of : Mnemonic → List ℕ
text_of mnemonic.Lsls = codes "LSLS"
text_of mnemonic.Lsrs = codes "LSRS"
text_of mnemonic.Asrs = codes "ASRS"
text_of mnemonic.Adds = codes "ADDS"
text_of mnemonic.Subs = codes "SUBS"
text_of mnemonic.Movs = codes "MOVS"
text_of mnemonic.Cmp = codes "CMP"
text_of mnemonic.Ands = codes "ANDS"
text_of mnemonic.Eors = codes "EORS"
text_of mnemonic.Adcs = codes "ADCS"
text_of mnemonic.Sbcs = codes "SBCS"
text_of mnemonic.Rors = codes "RORS"
text_of mnemonic.Tst = codes "TST"
text_of mnemonic.Rsbs = codes "RSBS"
text_of mnemonic.Cmn = codes "CMN"
text_of mnemonic.Orrs = codes "ORRS"
text_of mnemonic.Muls = codes "MULS"
text_of mnemonic.Bics = codes "BICS"
text_of mnemonic.Mvns = codes "MVNS"
text_of mnemonic.Add = codes "ADD"
text_of mnemonic.Mov = codes "MOV"
text_of mnemonic.Bx = codes "BX"
text_of mnemonic.Blx = codes "BLX"
text_of mnemonic.Str = codes "STR"
text_of mnemonic.Strh = codes "STRH"
text_of mnemonic.Strb = codes "STRB"
text_of mnemonic.Ldrsb = codes "LDRSB"
text_of mnemonic.Ldr = codes "LDR"
text_of mnemonic.Ldrh = codes "LDRH"
text_of mnemonic.Ldrb = codes "LDRB"
text_of mnemonic.Ldrsh = codes "LDRSH"
text_of mnemonic.Sub = codes "SUB"
text_of mnemonic.Sxth = codes "SXTH"
text_of mnemonic.Sxtb = codes "SXTB"
text_of mnemonic.Uxth = codes "UXTH"
text_of mnemonic.Uxtb = codes "UXTB"
text_of mnemonic.Push = codes "PUSH"
text_of mnemonic.Pop = codes "POP"
text_of mnemonic.Cpsie = codes "CPSIE"
text_of mnemonic.Cpsid = codes "CPSID"
text_of mnemonic.Rev = codes "REV"
text_of mnemonic.Rev16 = codes "REV16"
text_of mnemonic.Revsh = codes "REVSH"
text_of mnemonic.Bkpt = codes "BKPT"
text_of mnemonic.Nop = codes "NOP"
text_of mnemonic.Yield = codes "YIELD"
text_of mnemonic.Wfe = codes "WFE"
text_of mnemonic.Wfi = codes "WFI"
text_of mnemonic.Sev = codes "SEV"
text_of mnemonic.Stm = codes "STM"
text_of mnemonic.Ldm = codes "LDM"
text_of mnemonic.Udf = codes "UDF"
text_of mnemonic.Svc = codes "SVC"
text_of mnemonic.Mrs = codes "MRS"
text_of mnemonic.Msr = codes "MSR"
text_of mnemonic.Dsb = codes "DSB"
text_of mnemonic.Dmb = codes "DMB"
text_of mnemonic.Isb = codes "ISB"

-- the suffix of a condition (A6.3)
unfoldable pub condition_text : Condition → List ℕ
condition_text Equal = codes "EQ"
condition_text NotEqual = codes "NE"
condition_text CarrySet = codes "CS"
condition_text CarryClear = codes "CC"
condition_text Minus = codes "MI"
condition_text Plus = codes "PL"
condition_text Overflow = codes "VS"
condition_text NoOverflow = codes "VC"
condition_text Higher = codes "HI"
condition_text LowerOrSame = codes "LS"
condition_text GreaterOrEqual = codes "GE"
condition_text LessThan = codes "LT"
condition_text GreaterThan = codes "GT"
condition_text LessOrEqual = codes "LE"

-- the mnemonic of an instruction with a target
unfoldable pub aim_text : Aim → List ℕ
aim_text Branch = codes "B"
aim_text (BranchIf condition) = codes "B" ++ condition_text condition
aim_text BranchLink = codes "BL"
aim_text (Load t) = codes "LDR"
aim_text (Address d) = codes "ADR"

-- the name of a register (A5.1.2); a number from 16 on, which no instruction has, is written the same way
unfoldable pub register_text : ℕ → List ℕ
register_text register =
    if nat_eq register SP then codes "SP" else if nat_eq register LR then codes "LR" else if nat_eq register PC then codes "PC"
    else codes "R" ++ decimal register

-- ---- operands

abbrev pub comma_text : List ℕ
comma_text = codes ", "

-- the text of an immediate, in decimal
unfoldable pub immediate_text : ℕ → List ℕ
immediate_text immediate = codes "#" ++ decimal immediate

-- the name of a special register that this profile has (B5.1.1); any other is written by its number
unfoldable pub special_text : ℕ → List ℕ
special_text special =
    if nat_eq special APSR then codes "APSR" else if nat_eq special MSP then codes "MSP"
    else if nat_eq special PRIMASK then codes "PRIMASK" else immediate_text special

-- the registers below `end` with their bit set, in rising order
unfoldable pub listed_below : ℕ → ℕ → List ℕ
listed_below end list = filter (λ register. is_bit_set list register) (range_with_len 0 end)

unfoldable pub list_text : ℕ → List ℕ
list_text list = codes "{" ++ join_by register_text comma_text (listed_below 16 list) ++ codes "}"

-- the text of a target's address
unfoldable pub target_text : ℕ → List ℕ
target_text target = codes "0x" ++ hex_text 8 target

unfoldable pub operands_text : Operands → List ℕ
operands_text None = []
operands_text (One m) = register_text m
operands_text (Two d m) = register_text d ++ comma_text ++ register_text m
operands_text (Three d n m) = register_text d ++ comma_text ++ register_text n ++ comma_text ++ register_text m
operands_text (Immediate immediate) = immediate_text immediate
operands_text (OneImmediate d immediate) = register_text d ++ comma_text ++ immediate_text immediate
operands_text (TwoImmediate d n immediate) = register_text d ++ comma_text ++ register_text n ++ comma_text ++ immediate_text immediate
operands_text (ByRegister t n m) = register_text t ++ codes ", [" ++ register_text n ++ comma_text ++ register_text m ++ codes "]"
operands_text (ByOffset t n offset) = register_text t ++ codes ", [" ++ register_text n ++ comma_text ++ immediate_text offset ++ codes "]"
operands_text (RegisterList list) = list_text list
operands_text (BaseList n list) = register_text n ++ comma_text ++ list_text list
operands_text (UpdatedList n list) = register_text n ++ codes "!, " ++ list_text list
operands_text Interrupts = codes "i"
operands_text (FromSpecial d special) = register_text d ++ comma_text ++ special_text special
operands_text (ToSpecial special n) = special_text special ++ comma_text ++ register_text n

-- the register before a target, with its comma
unfoldable pub aim_register : Aim → List ℕ
aim_register (Load t) = register_text t ++ comma_text
aim_register (Address d) = register_text d ++ comma_text
aim_register _ = []

-- ---- forms

-- the text of a form: its mnemonic, then a blank and its operands if it has any
unfoldable pub form_text : Form → List ℕ
form_text (Plain m None) = text_of m
form_text (Plain m operands) = text_of m ++ codes " " ++ operands_text operands
form_text (Aimed aim target) = aim_text aim ++ codes " " ++ aim_register aim ++ target_text target

-- ---- reading words

-- a mnemonic that has only a target as its operand
abbrev pub IsBranch : Aim → Type 0
IsBranch (Load t) = ⊥
IsBranch (Address d) = ⊥
IsBranch _ = Unit {0}

-- a special register that this profile has
abbrev pub IsSpecial : ℕ → Type 0
IsSpecial special = (special ≡ APSR) ⊎ ((special ≡ MSP) ⊎ (special ≡ PRIMASK))
