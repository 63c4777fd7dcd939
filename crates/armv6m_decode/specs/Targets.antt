-- The addresses that instructions give by their distance from the PC.
use Rattle.std.specs.Prelude.{ℕ, ◌+◌, ◌*◌, ◌/◌, ◌%◌, ◌^◌}
use Rattle.armv6m_alu.specs.Bits.{sign_extended}

-- the PC as the instruction at this address reads it
abbrev pub pc_read : ℕ → ℕ
pc_read at = (at + 4) % 2 ^ 32

-- the target of LDR (literal) and of ADR: the manual's Align(PC, 4) + ZeroExtend(imm8:'00', 32)
abbrev pub literal_target : ℕ → ℕ → ℕ
literal_target at immediate = (pc_read at / 4 * 4 + 4 * immediate) % 2 ^ 32

-- twice a signed immediate of `bits` bits, as a number of 32 bits: the manual's SignExtend(imm:'0', 32)
abbrev pub signed_offset : ℕ → ℕ → ℕ
signed_offset bits immediate = sign_extended (bits + 1) (2 * immediate)

-- the target of a branch
abbrev pub branch_target : ℕ → ℕ → ℕ → ℕ
branch_target bits at immediate = (pc_read at + signed_offset bits (immediate % 2 ^ bits)) % 2 ^ 32
