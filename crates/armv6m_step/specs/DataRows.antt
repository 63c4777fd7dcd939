-- Data processing: the meaning of the rows 0000 to 4600, in the order of the table of encodings. Comments give the manual's
-- pseudocode in short (A6.7); `awc` is its AddWithCarry().
use Rattle.std.specs.Prelude.{ℕ, ◌*◌, ◌/◌, ◌%◌, ◌^◌, true, false, ◌&&◌, ◌||◌, nat_eq, nat_lt, if◌then◌else◌, Ok, Err, bit_and, bit_or, bit_xor}
use Rattle.std.specs.Int.{w32, bit_not}
use Rattle.armv6m_alu.specs.declared.Sum.{Sum}
use Rattle.armv6m_alu.specs.declared.Shifted.{Shifted}
use Rattle.armv6m_alu.specs.Sums.{sum_with_carry}
use Rattle.armv6m_alu.specs.Shifts.{shifted_left, shifted_right, shifted_right_signed, rotated_right}
use Rattle.armv6m_decode.specs.declared.instr.Alu.{Alu}
use Rattle.armv6m_decode.specs.declared.instr.Alu.TheVariants.{LslsImmediate, LsrsImmediate, AsrsImmediate, AddsRegister, SubsRegister, AddsImmediate3}
use Rattle.armv6m_decode.specs.declared.instr.Alu.TheVariants.{SubsImmediate3, MovsImmediate, CmpImmediate, AddsImmediate8, SubsImmediate8, Ands, Eors}
use Rattle.armv6m_decode.specs.declared.instr.Alu.TheVariants.{LslsRegister, LsrsRegister, AsrsRegister, Adcs, Sbcs, Rors, Tst, Rsbs, CmpRegister, Cmn, Orrs}
use Rattle.armv6m_decode.specs.declared.instr.Alu.TheVariants.{Muls, Bics, Mvns, AddHigh, CmpHigh, MovHigh}
use Rattle.armv6m_decode.specs.declared.registers.TheConstants.{PC}
use Rattle.armv6m_step.specs.declared.core_state.Core.{Core}
use Rattle.armv6m_step.specs.Ends.{Undefined, Outcome}
use Rattle.armv6m_step.specs.Registers.{reg, written, moved, with_nz, with_carry, with_nzcv, pc_of}
use Rattle.armv6m_step.specs.Numbers.{sum}

-- writes a value to register d, and sets N and Z
abbrev pub value_into : Core → ℕ → ℕ → ℕ → Outcome
value_into core next d value = Ok (moved (with_nz (written core d value) value) next)

-- writes a shifted value to register d, and sets N, Z and C
abbrev pub shift_into : Core → ℕ → ℕ → Shifted → Outcome
shift_into core next d s = Ok (moved (with_carry (with_nz (written core d s.value) s.value) s.carry) next)

-- writes a sum to register d, and sets N, Z, C and V
abbrev pub sum_into : Core → ℕ → ℕ → Sum → Outcome
sum_into core next d s = Ok (moved (with_nzcv (written core d s.value) s) next)

-- sets N, Z, C and V by a sum, and writes no register
abbrev pub compared : Core → ℕ → Sum → Outcome
compared core next s = Ok (moved (with_nzcv core s) next)

-- sets N and Z by a value, and writes no register
abbrev pub tested : Core → ℕ → ℕ → Outcome
tested core next value = Ok (moved (with_nz core value) next)

-- writes a value to register d, and sets no flags; a write to the PC is a branch with bit 0 cleared (ALUWritePC)
abbrev pub plain_into : Core → ℕ → ℕ → ℕ → Outcome
plain_into core next d value = if nat_eq d PC then Ok (moved core (value / 2 * 2)) else Ok (moved (written core d value) next)

abbrev pub undefined_at : Core → Outcome
undefined_at core = Err (Undefined (pc_of core))

-- x - y as a sum with its flags
abbrev pub subtraction : ℕ → ℕ → Sum
subtraction x y = sum_with_carry x (bit_not w32 y) true

-- the amount of a right shift by an immediate: 0 means 32 (DecodeImmShift)
abbrev pub shift_amount : ℕ → ℕ
shift_amount immediate = if nat_eq immediate 0 then 32 else immediate

abbrev pub low_byte : ℕ → ℕ
low_byte x = x % 2 ^ 8

abbrev pub alu : Core → ℕ → Alu → Outcome
alu core next (LslsImmediate d m i) = shift_into core next d (shifted_left (reg core m) i core.c)  -- R[d] = LSL(R[m], i)
alu core next (LsrsImmediate d m i) = shift_into core next d (shifted_right (reg core m) (shift_amount i) core.c)  -- R[d] = LSR(R[m], i)
alu core next (AsrsImmediate d m i) = shift_into core next d (shifted_right_signed (reg core m) (shift_amount i) core.c)  -- R[d] = ASR(R[m], i)
alu core next (AddsRegister d n m) = sum_into core next d (sum_with_carry (reg core n) (reg core m) false)  -- R[d] = awc(R[n], R[m], 0)
alu core next (SubsRegister d n m) = sum_into core next d (subtraction (reg core n) (reg core m))  -- R[d] = awc(R[n], NOT R[m], 1)
alu core next (AddsImmediate3 d n i) = sum_into core next d (sum_with_carry (reg core n) i false)  -- R[d] = awc(R[n], i, 0)
alu core next (SubsImmediate3 d n i) = sum_into core next d (subtraction (reg core n) i)  -- R[d] = awc(R[n], NOT i, 1)
alu core next (MovsImmediate d i) = value_into core next d i  -- R[d] = i
alu core next (CmpImmediate n i) = compared core next (subtraction (reg core n) i)  -- awc(R[n], NOT i, 1)
alu core next (AddsImmediate8 d i) = sum_into core next d (sum_with_carry (reg core d) i false)  -- R[d] = awc(R[d], i, 0)
alu core next (SubsImmediate8 d i) = sum_into core next d (subtraction (reg core d) i)  -- R[d] = awc(R[d], NOT i, 1)
alu core next (Ands d m) = value_into core next d (bit_and (reg core d) (reg core m))  -- R[d] = R[d] AND R[m]
alu core next (Eors d m) = value_into core next d (bit_xor (reg core d) (reg core m))  -- R[d] = R[d] EOR R[m]
alu core next (LslsRegister d m) = shift_into core next d (shifted_left (reg core d) (low_byte (reg core m)) core.c)  -- R[d] = LSL(R[d], R[m]<7:0>)
alu core next (LsrsRegister d m) = shift_into core next d (shifted_right (reg core d) (low_byte (reg core m)) core.c)  -- R[d] = LSR(R[d], R[m]<7:0>)
alu core next (AsrsRegister d m) = shift_into core next d (shifted_right_signed (reg core d) (low_byte (reg core m)) core.c)  -- R[d] = ASR(R[d], R[m]<7:0>)
alu core next (Adcs d m) = sum_into core next d (sum_with_carry (reg core d) (reg core m) core.c)  -- R[d] = awc(R[d], R[m], C)
alu core next (Sbcs d m) = sum_into core next d (sum_with_carry (reg core d) (bit_not w32 (reg core m)) core.c)  -- R[d] = awc(R[d], NOT R[m], C)
alu core next (Rors d m) = shift_into core next d (rotated_right (reg core d) (low_byte (reg core m)) core.c)  -- R[d] = ROR(R[d], R[m]<7:0>)
alu core next (Tst d m) = tested core next (bit_and (reg core d) (reg core m))  -- R[d] AND R[m]
alu core next (Rsbs d n) = sum_into core next d (subtraction 0 (reg core n))  -- R[d] = awc(NOT R[n], 0, 1)
alu core next (CmpRegister d m) = compared core next (subtraction (reg core d) (reg core m))  -- awc(R[d], NOT R[m], 1)
alu core next (Cmn d m) = compared core next (sum_with_carry (reg core d) (reg core m) false)  -- awc(R[d], R[m], 0)
alu core next (Orrs d m) = value_into core next d (bit_or (reg core d) (reg core m))  -- R[d] = R[d] OR R[m]
alu core next (Muls d m) = value_into core next d (reg core d * reg core m % 2 ^ 32)  -- R[d] = (R[d] * R[m])<31:0>
alu core next (Bics d m) = value_into core next d (bit_and (reg core d) (bit_not w32 (reg core m)))  -- R[d] = R[d] AND NOT R[m]
alu core next (Mvns d m) = value_into core next d (bit_not w32 (reg core m))  -- R[d] = NOT R[m]
-- R[d] = R[d] + R[m]. Both PC is undefined here; the manual leaves it unpredictable.
alu core next (AddHigh d m) = if nat_eq d PC && nat_eq m PC then undefined_at core else plain_into core next d (sum (reg core d) (reg core m))
-- awc(R[n], NOT R[m], 1). Two low registers, or the PC, are undefined here; the manual leaves them unpredictable.
alu core next (CmpHigh n m) =
    if (nat_lt n 8 && nat_lt m 8) || (nat_eq n PC || nat_eq m PC) then undefined_at core
    else compared core next (subtraction (reg core n) (reg core m))
alu core next (MovHigh d m) = plain_into core next d (reg core m)  -- R[d] = R[m]
