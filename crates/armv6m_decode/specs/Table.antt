-- The instructions of Armv6-M with their encodings: Armv6-M Architecture Reference Manual, A5.2 "16-bit Thumb instruction encoding" and
-- A5.3 "32-bit Thumb instruction encoding". The manual's name of the encoding (A6.7) follows each row.
use Rattle.std.specs.Prelude.{◌≡◌, ℕ, ◌+◌, ◌*◌, ◌/◌, ◌^◌, ◌<◌, ◌≤◌, nat_eq, nat_le, List, [], ◌∷◌, Option, Some, None, if◌then◌else◌}
use Rattle.armv6m_decode.specs.declared.instr.Instr.{Instr}
use Rattle.armv6m_decode.specs.declared.instr.Instr.TheVariants as instr
use Rattle.armv6m_decode.specs.declared.instr.Alu.TheVariants.{LslsImmediate, LsrsImmediate, AsrsImmediate, AddsRegister, SubsRegister, AddsImmediate3}
use Rattle.armv6m_decode.specs.declared.instr.Alu.TheVariants.{SubsImmediate3, MovsImmediate, CmpImmediate, AddsImmediate8, SubsImmediate8, Ands, Eors}
use Rattle.armv6m_decode.specs.declared.instr.Alu.TheVariants.{LslsRegister, LsrsRegister, AsrsRegister, Adcs, Sbcs, Rors, Tst, Rsbs, CmpRegister, Cmn, Orrs}
use Rattle.armv6m_decode.specs.declared.instr.Alu.TheVariants.{Muls, Bics, Mvns, AddHigh, CmpHigh, MovHigh}
use Rattle.armv6m_decode.specs.declared.instr.Memory.TheVariants.{LdrLiteral, StrRegister, StrhRegister, StrbRegister, LdrsbRegister, LdrRegister, LdrhRegister}
use Rattle.armv6m_decode.specs.declared.instr.Memory.TheVariants.{LdrbRegister, LdrshRegister, StrImmediate, LdrImmediate, StrbImmediate, LdrbImmediate}
use Rattle.armv6m_decode.specs.declared.instr.Memory.TheVariants.{StrhImmediate, LdrhImmediate, StrSp, LdrSp}
use Rattle.armv6m_decode.specs.declared.instr.Many.TheVariants.{Push, Pop, Stm, Ldm}
use Rattle.armv6m_decode.specs.declared.instr.Branch.TheVariants.{Bx, Blx, Bcc, B, Bl}
use Rattle.armv6m_decode.specs.declared.instr.Other.TheVariants.{Adr, AddFromSp, AddToSp, SubFromSp, Sxth, Sxtb, Uxth, Uxtb, Cpsie, Cpsid, Rev, Rev16, Revsh}
use Rattle.armv6m_decode.specs.declared.instr.Other.TheVariants.{Bkpt, Nop, Yield, Wfe, Wfi, Sev, Udf, Svc, Mrs, Msr, Dsb, Dmb, Isb}
use Rattle.armv6m_decode.specs.declared.instr.Decoded.{Decoded}
use Rattle.armv6m_decode.specs.declared.instr.Decoded.TheVariants.{Op, NeedsSecond, Undefined}
use Rattle.armv6m_alu.specs.Bits.{is_bit_set}
use Rattle.armv6m_decode.specs.Conditions.{condition_of}
use Rattle.armv6m_decode.specs.Rows.{Row, row, PairRow, pair_row, bits, first_fit, first_fit_pair, AtMostOneFits, AtMostOneFitsPair}

-- the number of a register with its highest bit in bit 7 and the others in bits 2 to 0: the manual's DN:Rdn
abbrev pub high_register : ℕ → ℕ
high_register h = bits 7 7 h * 8 + bits 2 0 h

-- NOT(J EOR S) of two bits
abbrev pub not_exclusive_or : ℕ → ℕ → ℕ
not_exclusive_or j s = if nat_eq j s then 1 else 0

-- the 24 bits S:I1:I2:imm10:imm11 of BL, with I1 = NOT(J1 EOR S) and I2 = NOT(J2 EOR S)
abbrev pub branch_offset : ℕ → ℕ → ℕ
branch_offset g h =
    bits 10 10 g * 2 ^ 23
    + not_exclusive_or (bits 13 13 h) (bits 10 10 g) * 2 ^ 22
    + not_exclusive_or (bits 11 11 h) (bits 10 10 g) * 2 ^ 21
    + bits 9 0 g * 2 ^ 11
    + bits 10 0 h

-- The instructions of one halfword h. No single value and mask can say 'condition below 14', so the conditional branch has three rows.
unfoldable pub rows : List Row
rows =
    -- A5.2.1 Shift (immediate), add, subtract, move, and compare
    row 0x0000 0xF800 (λ h. instr.Alu (LslsImmediate (bits 2 0 h) (bits 5 3 h) (bits 10 6 h))) ∷  -- LSL (immediate) T1; immediate 0: MOV (register) T2
    row 0x0800 0xF800 (λ h. instr.Alu (LsrsImmediate (bits 2 0 h) (bits 5 3 h) (bits 10 6 h))) ∷  -- LSR (immediate) T1
    row 0x1000 0xF800 (λ h. instr.Alu (AsrsImmediate (bits 2 0 h) (bits 5 3 h) (bits 10 6 h))) ∷  -- ASR (immediate) T1
    row 0x1800 0xFE00 (λ h. instr.Alu (AddsRegister (bits 2 0 h) (bits 5 3 h) (bits 8 6 h))) ∷  -- ADD (register) T1
    row 0x1A00 0xFE00 (λ h. instr.Alu (SubsRegister (bits 2 0 h) (bits 5 3 h) (bits 8 6 h))) ∷  -- SUB (register) T1
    row 0x1C00 0xFE00 (λ h. instr.Alu (AddsImmediate3 (bits 2 0 h) (bits 5 3 h) (bits 8 6 h))) ∷  -- ADD (immediate) T1
    row 0x1E00 0xFE00 (λ h. instr.Alu (SubsImmediate3 (bits 2 0 h) (bits 5 3 h) (bits 8 6 h))) ∷  -- SUB (immediate) T1
    row 0x2000 0xF800 (λ h. instr.Alu (MovsImmediate (bits 10 8 h) (bits 7 0 h))) ∷  -- MOV (immediate) T1
    row 0x2800 0xF800 (λ h. instr.Alu (CmpImmediate (bits 10 8 h) (bits 7 0 h))) ∷  -- CMP (immediate) T1
    row 0x3000 0xF800 (λ h. instr.Alu (AddsImmediate8 (bits 10 8 h) (bits 7 0 h))) ∷  -- ADD (immediate) T2
    row 0x3800 0xF800 (λ h. instr.Alu (SubsImmediate8 (bits 10 8 h) (bits 7 0 h))) ∷  -- SUB (immediate) T2
    -- A5.2.2 Data processing
    row 0x4000 0xFFC0 (λ h. instr.Alu (Ands (bits 2 0 h) (bits 5 3 h))) ∷  -- AND (register) T1
    row 0x4040 0xFFC0 (λ h. instr.Alu (Eors (bits 2 0 h) (bits 5 3 h))) ∷  -- EOR (register) T1
    row 0x4080 0xFFC0 (λ h. instr.Alu (LslsRegister (bits 2 0 h) (bits 5 3 h))) ∷  -- LSL (register) T1
    row 0x40C0 0xFFC0 (λ h. instr.Alu (LsrsRegister (bits 2 0 h) (bits 5 3 h))) ∷  -- LSR (register) T1
    row 0x4100 0xFFC0 (λ h. instr.Alu (AsrsRegister (bits 2 0 h) (bits 5 3 h))) ∷  -- ASR (register) T1
    row 0x4140 0xFFC0 (λ h. instr.Alu (Adcs (bits 2 0 h) (bits 5 3 h))) ∷  -- ADC (register) T1
    row 0x4180 0xFFC0 (λ h. instr.Alu (Sbcs (bits 2 0 h) (bits 5 3 h))) ∷  -- SBC (register) T1
    row 0x41C0 0xFFC0 (λ h. instr.Alu (Rors (bits 2 0 h) (bits 5 3 h))) ∷  -- ROR (register) T1
    row 0x4200 0xFFC0 (λ h. instr.Alu (Tst (bits 2 0 h) (bits 5 3 h))) ∷  -- TST (register) T1
    row 0x4240 0xFFC0 (λ h. instr.Alu (Rsbs (bits 2 0 h) (bits 5 3 h))) ∷  -- RSB (immediate) T1
    row 0x4280 0xFFC0 (λ h. instr.Alu (CmpRegister (bits 2 0 h) (bits 5 3 h))) ∷  -- CMP (register) T1
    row 0x42C0 0xFFC0 (λ h. instr.Alu (Cmn (bits 2 0 h) (bits 5 3 h))) ∷  -- CMN (register) T1
    row 0x4300 0xFFC0 (λ h. instr.Alu (Orrs (bits 2 0 h) (bits 5 3 h))) ∷  -- ORR (register) T1
    row 0x4340 0xFFC0 (λ h. instr.Alu (Muls (bits 2 0 h) (bits 5 3 h))) ∷  -- MUL T1
    row 0x4380 0xFFC0 (λ h. instr.Alu (Bics (bits 2 0 h) (bits 5 3 h))) ∷  -- BIC (register) T1
    row 0x43C0 0xFFC0 (λ h. instr.Alu (Mvns (bits 2 0 h) (bits 5 3 h))) ∷  -- MVN (register) T1
    -- A5.2.3 Special data instructions and branch and exchange
    row 0x4400 0xFF00 (λ h. instr.Alu (AddHigh (high_register h) (bits 6 3 h))) ∷  -- ADD (register) T2, and ADD (SP plus register) T1 and T2
    row 0x4500 0xFF00 (λ h. instr.Alu (CmpHigh (high_register h) (bits 6 3 h))) ∷  -- CMP (register) T2
    row 0x4600 0xFF00 (λ h. instr.Alu (MovHigh (high_register h) (bits 6 3 h))) ∷  -- MOV (register) T1
    row 0x4700 0xFF87 (λ h. instr.Branch (Bx (bits 6 3 h))) ∷  -- BX T1
    row 0x4780 0xFF87 (λ h. instr.Branch (Blx (bits 6 3 h))) ∷  -- BLX (register) T1
    -- A5.2 Load from literal pool
    row 0x4800 0xF800 (λ h. instr.Memory (LdrLiteral (bits 10 8 h) (bits 7 0 h))) ∷  -- LDR (literal) T1
    -- A5.2.4 Load/store single data item
    row 0x5000 0xFE00 (λ h. instr.Memory (StrRegister (bits 2 0 h) (bits 5 3 h) (bits 8 6 h))) ∷  -- STR (register) T1
    row 0x5200 0xFE00 (λ h. instr.Memory (StrhRegister (bits 2 0 h) (bits 5 3 h) (bits 8 6 h))) ∷  -- STRH (register) T1
    row 0x5400 0xFE00 (λ h. instr.Memory (StrbRegister (bits 2 0 h) (bits 5 3 h) (bits 8 6 h))) ∷  -- STRB (register) T1
    row 0x5600 0xFE00 (λ h. instr.Memory (LdrsbRegister (bits 2 0 h) (bits 5 3 h) (bits 8 6 h))) ∷  -- LDRSB (register) T1
    row 0x5800 0xFE00 (λ h. instr.Memory (LdrRegister (bits 2 0 h) (bits 5 3 h) (bits 8 6 h))) ∷  -- LDR (register) T1
    row 0x5A00 0xFE00 (λ h. instr.Memory (LdrhRegister (bits 2 0 h) (bits 5 3 h) (bits 8 6 h))) ∷  -- LDRH (register) T1
    row 0x5C00 0xFE00 (λ h. instr.Memory (LdrbRegister (bits 2 0 h) (bits 5 3 h) (bits 8 6 h))) ∷  -- LDRB (register) T1
    row 0x5E00 0xFE00 (λ h. instr.Memory (LdrshRegister (bits 2 0 h) (bits 5 3 h) (bits 8 6 h))) ∷  -- LDRSH (register) T1
    row 0x6000 0xF800 (λ h. instr.Memory (StrImmediate (bits 2 0 h) (bits 5 3 h) (bits 10 6 h))) ∷  -- STR (immediate) T1
    row 0x6800 0xF800 (λ h. instr.Memory (LdrImmediate (bits 2 0 h) (bits 5 3 h) (bits 10 6 h))) ∷  -- LDR (immediate) T1
    row 0x7000 0xF800 (λ h. instr.Memory (StrbImmediate (bits 2 0 h) (bits 5 3 h) (bits 10 6 h))) ∷  -- STRB (immediate) T1
    row 0x7800 0xF800 (λ h. instr.Memory (LdrbImmediate (bits 2 0 h) (bits 5 3 h) (bits 10 6 h))) ∷  -- LDRB (immediate) T1
    row 0x8000 0xF800 (λ h. instr.Memory (StrhImmediate (bits 2 0 h) (bits 5 3 h) (bits 10 6 h))) ∷  -- STRH (immediate) T1
    row 0x8800 0xF800 (λ h. instr.Memory (LdrhImmediate (bits 2 0 h) (bits 5 3 h) (bits 10 6 h))) ∷  -- LDRH (immediate) T1
    row 0x9000 0xF800 (λ h. instr.Memory (StrSp (bits 10 8 h) (bits 7 0 h))) ∷  -- STR (immediate) T2
    row 0x9800 0xF800 (λ h. instr.Memory (LdrSp (bits 10 8 h) (bits 7 0 h))) ∷  -- LDR (immediate) T2
    -- A5.2 Generate PC-relative address, and SP-relative address
    row 0xA000 0xF800 (λ h. instr.Other (Adr (bits 10 8 h) (bits 7 0 h))) ∷  -- ADR T1
    row 0xA800 0xF800 (λ h. instr.Other (AddFromSp (bits 10 8 h) (bits 7 0 h))) ∷  -- ADD (SP plus immediate) T1
    -- A5.2.5 Miscellaneous 16-bit instructions
    row 0xB000 0xFF80 (λ h. instr.Other (AddToSp (bits 6 0 h))) ∷  -- ADD (SP plus immediate) T2
    row 0xB080 0xFF80 (λ h. instr.Other (SubFromSp (bits 6 0 h))) ∷  -- SUB (SP minus immediate) T1
    row 0xB200 0xFFC0 (λ h. instr.Other (Sxth (bits 2 0 h) (bits 5 3 h))) ∷  -- SXTH T1
    row 0xB240 0xFFC0 (λ h. instr.Other (Sxtb (bits 2 0 h) (bits 5 3 h))) ∷  -- SXTB T1
    row 0xB280 0xFFC0 (λ h. instr.Other (Uxth (bits 2 0 h) (bits 5 3 h))) ∷  -- UXTH T1
    row 0xB2C0 0xFFC0 (λ h. instr.Other (Uxtb (bits 2 0 h) (bits 5 3 h))) ∷  -- UXTB T1
    row 0xB400 0xFE00 (λ h. instr.Many (Push (is_bit_set h 8) (bits 7 0 h))) ∷  -- PUSH T1
    row 0xB662 0xFFFF (λ h. instr.Other Cpsie) ∷  -- CPS T1, with im 0
    row 0xB672 0xFFFF (λ h. instr.Other Cpsid) ∷  -- CPS T1, with im 1
    row 0xBA00 0xFFC0 (λ h. instr.Other (Rev (bits 2 0 h) (bits 5 3 h))) ∷  -- REV T1
    row 0xBA40 0xFFC0 (λ h. instr.Other (Rev16 (bits 2 0 h) (bits 5 3 h))) ∷  -- REV16 T1
    row 0xBAC0 0xFFC0 (λ h. instr.Other (Revsh (bits 2 0 h) (bits 5 3 h))) ∷  -- REVSH T1
    row 0xBC00 0xFE00 (λ h. instr.Many (Pop (is_bit_set h 8) (bits 7 0 h))) ∷  -- POP T1
    row 0xBE00 0xFF00 (λ h. instr.Other (Bkpt (bits 7 0 h))) ∷  -- BKPT T1
    row 0xBF00 0xFFFF (λ h. instr.Other Nop) ∷  -- NOP T1
    row 0xBF10 0xFFFF (λ h. instr.Other Yield) ∷  -- YIELD T1
    row 0xBF20 0xFFFF (λ h. instr.Other Wfe) ∷  -- WFE T1
    row 0xBF30 0xFFFF (λ h. instr.Other Wfi) ∷  -- WFI T1
    row 0xBF40 0xFFFF (λ h. instr.Other Sev) ∷  -- SEV T1
    -- A5.2 Store multiple registers, and load multiple registers
    row 0xC000 0xF800 (λ h. instr.Many (Stm (bits 10 8 h) (bits 7 0 h))) ∷  -- STM T1
    row 0xC800 0xF800 (λ h. instr.Many (Ldm (bits 10 8 h) (bits 7 0 h))) ∷  -- LDM T1
    -- A5.2.6 Conditional branch, and Supervisor Call
    row 0xD000 0xF800 (λ h. instr.Branch (Bcc (condition_of (bits 11 8 h)) (bits 7 0 h))) ∷  -- B T1, conditions 0 to 7
    row 0xD800 0xFC00 (λ h. instr.Branch (Bcc (condition_of (bits 11 8 h)) (bits 7 0 h))) ∷  -- B T1, conditions 8 to 11
    row 0xDC00 0xFE00 (λ h. instr.Branch (Bcc (condition_of (bits 11 8 h)) (bits 7 0 h))) ∷  -- B T1, conditions 12 and 13
    row 0xDE00 0xFF00 (λ h. instr.Other (Udf (bits 7 0 h))) ∷  -- UDF T1
    row 0xDF00 0xFF00 (λ h. instr.Other (Svc (bits 7 0 h))) ∷  -- SVC T1
    -- A5.2 Unconditional branch
    row 0xE000 0xF800 (λ h. instr.Branch (B (bits 10 0 h))) ∷  -- B T2
    []

-- The instructions of two halfwords g and h: A5.3.1 Branch and miscellaneous control.
unfoldable pub pair_rows : List PairRow
pair_rows =
    pair_row 0xF000 0xF800 0xD000 0xD000 (λ g h. instr.Branch (Bl (branch_offset g h))) ∷  -- BL T1
    pair_row 0xF3EF 0xFFFF 0x8000 0xF000 (λ g h. instr.Other (Mrs (bits 11 8 h) (bits 7 0 h))) ∷  -- MRS T1
    pair_row 0xF380 0xFFF0 0x8800 0xFF00 (λ g h. instr.Other (Msr (bits 3 0 g) (bits 7 0 h))) ∷  -- MSR (register) T1
    pair_row 0xF3BF 0xFFFF 0x8F40 0xFFF0 (λ g h. instr.Other Dsb) ∷  -- DSB T1
    pair_row 0xF3BF 0xFFFF 0x8F50 0xFFF0 (λ g h. instr.Other Dmb) ∷  -- DMB T1
    pair_row 0xF3BF 0xFFFF 0x8F60 0xFFF0 (λ g h. instr.Other Isb) ∷  -- ISB T1
    []

abbrev pub op_or_undefined : Option Instr → Decoded
op_or_undefined None = Undefined
op_or_undefined (Some i) = Op i

-- A halfword begins a pair if its top five bits are 11101, 11110 or 11111 (A5.1). Any other halfword is the instruction of the row that it
-- fits, or undefined if it fits none.
unfoldable pub decoded : ℕ → Decoded
decoded half = if nat_le 29 (half / 2 ^ 11) then NeedsSecond else op_or_undefined (first_fit rows half)

unfoldable pub decoded_pair : ℕ → ℕ → Option Instr
decoded_pair first second = first_fit_pair pair_rows first second

-- ---- the laws of the table

abbrev pub OneRowForEach : Type 0
OneRowForEach = AtMostOneFits rows

abbrev pub OneRowForEachPair : Type 0
OneRowForEachPair = AtMostOneFitsPair pair_rows

-- a halfword that begins a pair fits no row
abbrev pub NoRowBeginsPair : Type 0
NoRowBeginsPair = (half : ℕ) → half < 2 ^ 16 → 29 ≤ half / 2 ^ 11 → first_fit rows half ≡ None
