-- Loads and stores of one register: the meaning of the rows 4800 to 9800.
use Rattle.std.specs.Prelude.{ℕ, ◌*◌, ◌%◌, ◌^◌, Ok}
use Rattle.armv6m_alu.specs.Bits.{sign_extended}
use Rattle.armv6m_decode.specs.Targets.{literal_target}
use Rattle.armv6m_decode.specs.declared.instr.Memory.{Memory}
use Rattle.armv6m_decode.specs.declared.instr.Memory.TheVariants.{LdrLiteral, StrRegister, StrhRegister, StrbRegister, LdrsbRegister, LdrRegister, LdrhRegister}
use Rattle.armv6m_decode.specs.declared.instr.Memory.TheVariants.{LdrbRegister, LdrshRegister, StrImmediate, LdrImmediate, StrbImmediate, LdrbImmediate}
use Rattle.armv6m_decode.specs.declared.instr.Memory.TheVariants.{StrhImmediate, LdrhImmediate, StrSp, LdrSp}
use Rattle.armv6m_decode.specs.declared.registers.TheConstants.{SP}
use Rattle.armv6m_step.specs.declared.core_state.Core.{Core}
use Rattle.armv6m_step.specs.Registers.{reg, written, moved, pc_of}
use Rattle.armv6m_step.specs.Numbers.{sum}
use Rattle.armv6m_step.specs.Meaning.{Meaning, Gives, load, store}

-- the instruction is done, and the next one is at `next`
abbrev pub went : Core → ℕ → Meaning
went core next = Gives (Ok (moved core next))

-- a loaded value is written to register t
abbrev pub loaded : Core → ℕ → ℕ → ℕ → Meaning
loaded core next t value = went (written core t value) next

-- R[t] = MemU[at,4], and loads of the other widths and signs
unfoldable pub load_word : Core → ℕ → ℕ → ℕ → Meaning
load_word core next t at = load 4 at (λ v. loaded core next t v)

unfoldable pub load_half : Core → ℕ → ℕ → ℕ → Meaning
load_half core next t at = load 2 at (λ v. loaded core next t v)

unfoldable pub load_byte : Core → ℕ → ℕ → ℕ → Meaning
load_byte core next t at = load 1 at (λ v. loaded core next t v)

unfoldable pub load_signed_half : Core → ℕ → ℕ → ℕ → Meaning
load_signed_half core next t at = load 2 at (λ v. loaded core next t (sign_extended 16 v))

unfoldable pub load_signed_byte : Core → ℕ → ℕ → ℕ → Meaning
load_signed_byte core next t at = load 1 at (λ v. loaded core next t (sign_extended 8 v))

-- MemU[at,4] = R[t], MemU[at,2] = R[t]<15:0> and MemU[at,1] = R[t]<7:0>
unfoldable pub store_word : Core → ℕ → ℕ → ℕ → Meaning
store_word core next t at = store 4 at (reg core t) (went core next)

unfoldable pub store_half : Core → ℕ → ℕ → ℕ → Meaning
store_half core next t at = store 2 at (reg core t % 2 ^ 16) (went core next)

unfoldable pub store_byte : Core → ℕ → ℕ → ℕ → Meaning
store_byte core next t at = store 1 at (reg core t % 2 ^ 8) (went core next)

abbrev pub memory : Core → ℕ → Memory → Meaning
memory core next (LdrLiteral t i) = load_word core next t (literal_target (pc_of core) i)
memory core next (StrRegister t n m) = store_word core next t (sum (reg core n) (reg core m))
memory core next (StrhRegister t n m) = store_half core next t (sum (reg core n) (reg core m))
memory core next (StrbRegister t n m) = store_byte core next t (sum (reg core n) (reg core m))
memory core next (LdrsbRegister t n m) = load_signed_byte core next t (sum (reg core n) (reg core m))
memory core next (LdrRegister t n m) = load_word core next t (sum (reg core n) (reg core m))
memory core next (LdrhRegister t n m) = load_half core next t (sum (reg core n) (reg core m))
memory core next (LdrbRegister t n m) = load_byte core next t (sum (reg core n) (reg core m))
memory core next (LdrshRegister t n m) = load_signed_half core next t (sum (reg core n) (reg core m))
memory core next (StrImmediate t n i) = store_word core next t (sum (reg core n) (4 * i))
memory core next (LdrImmediate t n i) = load_word core next t (sum (reg core n) (4 * i))
memory core next (StrbImmediate t n i) = store_byte core next t (sum (reg core n) i)
memory core next (LdrbImmediate t n i) = load_byte core next t (sum (reg core n) i)
memory core next (StrhImmediate t n i) = store_half core next t (sum (reg core n) (2 * i))
memory core next (LdrhImmediate t n i) = load_half core next t (sum (reg core n) (2 * i))
memory core next (StrSp t i) = store_word core next t (sum (reg core SP) (4 * i))
memory core next (LdrSp t i) = load_word core next t (sum (reg core SP) (4 * i))
