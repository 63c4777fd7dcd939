-- Terms for the instruction that a form is read as.
use Rattle.std.specs.Prelude.{ℕ, ◌-◌, ◌/◌, ◌%◌, ◌^◌, ◌&&◌, nat_eq, nat_lt, nat_le, if◌then◌else◌, Option, Some, None, MatchOption}
use Rattle.armv6m_decode.specs.declared.instr.Instr.{Instr}
use Rattle.armv6m_forms.specs.declared.mnemonic.Mnemonic.{Mnemonic}
use Rattle.armv6m_forms.specs.declared.mnemonic.Mnemonic.TheVariants as mnemonic
use Rattle.armv6m_forms.specs.declared.form.Form.{Form}
use Rattle.armv6m_forms.specs.Form.{StandsFor, HasNoInstruction}

-- the instruction that stands for a form without a target at every address, or none if no instruction does at any
abbrev pub IsReadAs : Form → Option Instr → Type 0
IsReadAs form result = MatchOption result ((at : ℕ) → HasNoInstruction at form) (λ instr. (at : ℕ) → StandsFor instr at form)

-- the instruction that stands at an address for a form with a target, or none if no instruction does
abbrev pub IsReadAt : ℕ → Form → Option Instr → Type 0
IsReadAt at form result = MatchOption result (HasNoInstruction at form) (λ instr. StandsFor instr at form)

-- how many bytes one unit of a mnemonic's immediate field is: a word, a halfword or a byte
abbrev pub scale_of : Mnemonic → ℕ
scale_of mnemonic.Add = 4
scale_of mnemonic.Sub = 4
scale_of mnemonic.Str = 4
scale_of mnemonic.Ldr = 4
scale_of mnemonic.Strh = 2
scale_of mnemonic.Ldrh = 2
scale_of _ = 1

-- a number as a field of eight bits that counts units, if it fits
abbrev pub counted : ℕ → ℕ → Option ℕ
counted unit number = if nat_eq (number % unit) 0 && nat_lt (number / unit) 256 then Some (number / unit) else None

-- a distance modulo 2^32 as a signed field that counts halfwords, if it is less than `span` bytes in either direction
abbrev pub halved : ℕ → ℕ → Option ℕ
halved span distance =
    if nat_eq (distance % 2) 0
    then if nat_lt distance span then Some (distance / 2)
    else if nat_le (2 ^ 32 - span) distance then Some (span - (2 ^ 32 - distance) / 2)
    else None
    else None
