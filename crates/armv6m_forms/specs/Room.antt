-- Forms with a text that fits a line of 64 bytes. Only a list of registers can be too long.
use Rattle.std.specs.Prelude.{◌≤◌, ℕ, length}
use Rattle.armv6m_forms.specs.declared.form.Operands.{Operands}
use Rattle.armv6m_forms.specs.declared.form.Operands.TheVariants.{List as RegisterList, BaseList, UpdatedList}
use Rattle.armv6m_forms.specs.declared.form.Form.{Form}
use Rattle.armv6m_forms.specs.declared.form.Form.TheVariants.{Plain, Aimed}
use Rattle.armv6m_decode.specs.declared.instr.Instr.{Instr}
use Rattle.armv6m_decode.specs.declared.instr.Instr.TheVariants as instr
use Rattle.armv6m_decode.specs.declared.instr.Many.TheVariants.{Push, Pop, Stm, Ldm}
use Rattle.armv6m_forms.specs.Text.{list_text}

-- a list of registers that leaves room for a mnemonic and a base before it: the list of R0 to R7, LR and PC has 40 bytes
abbrev pub IsShort : ℕ → Type 0
IsShort list = length (list_text list) ≤ 40

abbrev pub HasShortList : Operands → Type 0
HasShortList (RegisterList list) = IsShort list
HasShortList (BaseList n list) = IsShort list
HasShortList (UpdatedList n list) = IsShort list
HasShortList _ = Unit {0}

abbrev pub HasRoom : Form → Type 0
HasRoom (Plain m operands) = HasShortList operands
HasRoom (Aimed aim target) = Unit {0}

-- the low registers in the list of an instruction, or none if it has no list
abbrev pub low_list : Instr → ℕ
low_list (instr.Many (Push lr list)) = list
low_list (instr.Many (Pop pc list)) = list
low_list (instr.Many (Stm n list)) = list
low_list (instr.Many (Ldm n list)) = list
low_list _ = 0
