-- Addresses, extensions, byte orders, hints, barriers and the special registers: the meaning of all other rows.
use Rattle.std.specs.Prelude.{ℕ, ◌+◌, ◌*◌, ◌/◌, ◌%◌, ◌^◌, Bool, true, false, ◌||◌, nat_eq, if◌then◌else◌, Ok, Err}
use Rattle.std.specs.Int.{w32, swap_bytes}
use Rattle.armv6m_alu.specs.Bits.{is_bit_set, sign_extended}
use Rattle.armv6m_alu.specs.Sums.{number_of}
use Rattle.armv6m_decode.specs.Targets.{literal_target}
use Rattle.armv6m_decode.specs.declared.instr.Other.{Other}
use Rattle.armv6m_decode.specs.declared.instr.Other.TheVariants.{Adr, AddFromSp, AddToSp, SubFromSp, Sxth, Sxtb, Uxth, Uxtb, Cpsie, Cpsid, Rev, Rev16, Revsh}
use Rattle.armv6m_decode.specs.declared.instr.Other.TheVariants.{Bkpt, Nop, Yield, Wfe, Wfi, Sev, Udf, Svc, Mrs, Msr, Dsb, Dmb, Isb}
use Rattle.armv6m_decode.specs.declared.registers.TheConstants.{SP, PC, APSR, MSP, PRIMASK}
use Rattle.armv6m_step.specs.declared.core_state.Core.{Core}
use Rattle.armv6m_step.specs.Ends.{Break, Outcome}
use Rattle.armv6m_step.specs.Registers.{reg, written, moved, pc_of}
use Rattle.armv6m_step.specs.Numbers.{sum, difference}
use Rattle.armv6m_step.specs.DataRows.{undefined_at}

-- writes a value to register d, and sets no flags
abbrev pub put : Core → ℕ → ℕ → ℕ → Outcome
put core next d value = Ok (moved (written core d value) next)

-- the two bytes of a halfword in the other order
abbrev pub swapped_half : ℕ → ℕ
swapped_half h = h % 2 ^ 8 * 2 ^ 8 + h / 2 ^ 8 % 2 ^ 8

abbrev pub swapped_halves : ℕ → ℕ
swapped_halves x = swapped_half (x / 2 ^ 16) * 2 ^ 16 + swapped_half (x % 2 ^ 16)

-- ---- the special registers (B1.4.2): APSR has N, Z, C and V in the bits 31 to 28, PRIMASK is bit 0

abbrev pub flags_number : Core → ℕ
flags_number core = number_of core.n * 2 ^ 31 + number_of core.z * 2 ^ 30 + number_of core.c * 2 ^ 29 + number_of core.v * 2 ^ 28

unfoldable pub with_flags_of : Core → ℕ → Core
with_flags_of core x = record core { n = is_bit_set x 31; z = is_bit_set x 30; c = is_bit_set x 29; v = is_bit_set x 28 }

unfoldable pub with_primask : Core → Bool → Core
with_primask core on = record core { primask = on }

-- whether a register is SP or PC, which MRS and MSR may not name
abbrev pub is_sp_or_pc : ℕ → Bool
is_sp_or_pc r = nat_eq r SP || nat_eq r PC

-- MRS: writes the special register with this number to register d
abbrev pub read_special : Core → ℕ → ℕ → ℕ → Outcome
read_special core next d special =
    if is_sp_or_pc d then undefined_at core else
    if nat_eq special APSR then put core next d (flags_number core) else
    if nat_eq special MSP then put core next d (reg core SP) else
    if nat_eq special PRIMASK then put core next d (number_of core.primask) else
    undefined_at core

abbrev pub write_special : Core → ℕ → ℕ → ℕ → Outcome
write_special core next n special =
    if is_sp_or_pc n then undefined_at core else
    if nat_eq special APSR then Ok (moved (with_flags_of core (reg core n)) next) else
    if nat_eq special MSP then put core next SP (reg core n) else
    if nat_eq special PRIMASK then Ok (moved (with_primask core (is_bit_set (reg core n) 0)) next) else
    undefined_at core

abbrev pub other : Core → ℕ → Other → Outcome
other core next (Adr d i) = put core next d (literal_target (pc_of core) i)
other core next (AddFromSp d i) = put core next d (sum (reg core SP) (4 * i))
other core next (AddToSp i) = put core next SP (sum (reg core SP) (4 * i))
other core next (SubFromSp i) = put core next SP (difference (reg core SP) (4 * i))
other core next (Sxth d m) = put core next d (sign_extended 16 (reg core m % 2 ^ 16))
other core next (Sxtb d m) = put core next d (sign_extended 8 (reg core m % 2 ^ 8))
other core next (Uxth d m) = put core next d (reg core m % 2 ^ 16)
other core next (Uxtb d m) = put core next d (reg core m % 2 ^ 8)
other core next Cpsie = Ok (moved (with_primask core false) next)
other core next Cpsid = Ok (moved (with_primask core true) next)
other core next (Rev d m) = put core next d (swap_bytes w32 (reg core m))
other core next (Rev16 d m) = put core next d (swapped_halves (reg core m))
other core next (Revsh d m) = put core next d (sign_extended 16 (swapped_half (reg core m % 2 ^ 16)))
other core next (Bkpt i) = Err (Break (pc_of core))
other core next Nop = Ok (moved core next)
other core next Yield = Ok (moved core next)
other core next Wfe = Ok (moved core next)
other core next Wfi = Ok (moved core next)
other core next Sev = Ok (moved core next)
other core next (Udf i) = undefined_at core
other core next (Svc i) = undefined_at core
other core next (Mrs d special) = read_special core next d special
other core next (Msr n special) = write_special core next n special
other core next Dsb = Ok (moved core next)
other core next Dmb = Ok (moved core next)
other core next Isb = Ok (moved core next)
