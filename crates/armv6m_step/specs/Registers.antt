-- The registers and flags as an instruction reads and writes them: Armv6-M Architecture Reference Manual, B1.4 "Registers", and the
-- operations R[n] of its pseudocode. The PC of a core holds the address of the next instruction to run.
use Rattle.std.specs.Prelude.{ℕ, Bool, ◌*◌, ◌/◌, ◌%◌, ◌^◌, nat_eq, nat_le, if◌then◌else◌, slice_index, slice_set}
use Rattle.armv6m_alu.specs.declared.Sum.{Sum}
use Rattle.armv6m_decode.specs.Targets.{pc_read}
use Rattle.armv6m_decode.specs.declared.registers.TheConstants.{SP, PC}
use Rattle.armv6m_step.specs.declared.core_state.Core.{Core}

-- the address of the next instruction to run
abbrev pub pc_of : Core → ℕ
pc_of core = slice_index core.regs PC

-- a register as an operand: the PC reads as the instruction's address plus 4
unfoldable pub reg : Core → ℕ → ℕ
reg core n = if nat_eq (n % 16) PC then pc_read (slice_index core.regs (n % 16)) else slice_index core.regs (n % 16)

-- a core with a register written: a write to SP clears its two low bits
unfoldable pub written : Core → ℕ → ℕ → Core
written core n value = record core { regs = slice_set core.regs (n % 16) (if nat_eq (n % 16) SP then value / 4 * 4 else value) }

-- a core with its PC at another instruction
unfoldable pub moved : Core → ℕ → Core
moved core pc = record core { regs = slice_set core.regs PC pc }

-- a core with N and Z set by a result
unfoldable pub with_nz : Core → ℕ → Core
with_nz core value = record core { n = nat_le (2 ^ 31) value; z = nat_eq value 0 }

unfoldable pub with_carry : Core → Bool → Core
with_carry core carry = record core { c = carry }

-- a core with N, Z, C and V set by a sum
unfoldable pub with_nzcv : Core → Sum → Core
with_nzcv core sum = record (with_nz core sum.value) { c = sum.carry; v = sum.overflow }
