-- The marks after a load or a store of one register, and of a list of registers.
use Rattle.std.specs.Prelude.{◌+◌, ◌*◌, ◌%◌, ◌^◌, ℕ, Bool, true, if◌then◌else◌, Option, Some, None, List, [], ◌∷◌}
use Rattle.armv6m_alu.specs.Bits.{is_bit_set}
use Rattle.armv6m_decode.specs.Targets.{literal_target}
use Rattle.armv6m_decode.specs.declared.instr.Memory.{Memory}
use Rattle.armv6m_decode.specs.declared.instr.Memory.TheVariants.{LdrLiteral, StrRegister, StrhRegister, StrbRegister, LdrsbRegister, LdrRegister, LdrhRegister}
use Rattle.armv6m_decode.specs.declared.instr.Memory.TheVariants.{LdrbRegister, LdrshRegister, StrImmediate, LdrImmediate, StrbImmediate, LdrbImmediate}
use Rattle.armv6m_decode.specs.declared.instr.Memory.TheVariants.{StrhImmediate, LdrhImmediate, StrSp, LdrSp}
use Rattle.armv6m_decode.specs.declared.instr.Many.{Many}
use Rattle.armv6m_decode.specs.declared.instr.Many.TheVariants.{Push, Pop, Stm, Ldm}
use Rattle.armv6m_decode.specs.declared.registers.TheConstants.{SP, LR}
use Rattle.armv6m_step.specs.declared.core_state.Core.{Core}
use Rattle.armv6m_step.specs.Registers.{reg, pc_of}
use Rattle.armv6m_step.specs.Numbers.{sum, difference}
use Rattle.armv6m_step.specs.ListRows.{low_registers, list_bytes}
use Rattle.shadow_step.specs.declared.marks.Mark.{Mark}
use Rattle.shadow_step.specs.declared.marks.Mark.TheVariants.{Known}
use Rattle.shadow_step.specs.declared.marks.CoreMarks.{CoreMarks}
use Rattle.shadow_step.specs.Marks.{is_known, plain, operand, put, gone}
use Rattle.shadow_step.specs.Rows.{known, both}
use Rattle.shadow_step.specs.OtherRows.{low_byte, low_half}
use Rattle.shadow_step.specs.Shadow.{Shadow, Marks}

abbrev pub marks : {M : Type 0} → CoreMarks → M → Marks M
marks t m = record { core = t; bus = m }

-- a function applied to an optional value, or none if there is no value
abbrev pub and_then : {A X : Type 0} → Option A → (A → Option X) → Option X
and_then None f = None
and_then (Some a) f = f a

abbrev pub only_if : {X : Type 0} → Bool → Option X → Option X
only_if k x = if k then x else None

-- ---- one register

-- a load into register d from a known address: `f` makes the mark of the register from the mark of the loaded number
abbrev pub load_marks : {M : Type 0} → Shadow M → CoreMarks → M → Bool → ℕ → ℕ → ℕ → (Mark → Mark) → Option (Marks M)
load_marks s t m k width at d f = only_if k (and_then (s.load m width at) (λ x. Some (marks (gone (put t d (f x))) m)))

abbrev pub store_marks : {M : Type 0} → Shadow M → CoreMarks → M → Bool → ℕ → ℕ → ℕ → Mark → Option (Marks M)
store_marks s t m k width at v x = only_if k (and_then (s.store m width at v x) (λ m'. Some (marks (gone t) m')))

abbrev pub whole : Mark → Mark
whole x = x

abbrev pub memory_marks : {M : Type 0} → Shadow M → CoreMarks → M → Core → Memory → Option (Marks M)
memory_marks s t m core (LdrLiteral d i) = load_marks s t m true 4 (literal_target (pc_of core) i) d whole
memory_marks s t m core (StrRegister d n o) = store_marks s t m (both t n o) 4 (sum (reg core n) (reg core o)) (reg core d) (operand t d)
memory_marks s t m core (StrhRegister d n o) = store_marks s t m (both t n o) 2 (sum (reg core n) (reg core o)) (reg core d % 2 ^ 16) (low_half (operand t d))
memory_marks s t m core (StrbRegister d n o) = store_marks s t m (both t n o) 1 (sum (reg core n) (reg core o)) (reg core d % 2 ^ 8) (low_byte (operand t d))
memory_marks s t m core (LdrsbRegister d n o) = load_marks s t m (both t n o) 1 (sum (reg core n) (reg core o)) d plain
memory_marks s t m core (LdrRegister d n o) = load_marks s t m (both t n o) 4 (sum (reg core n) (reg core o)) d whole
memory_marks s t m core (LdrhRegister d n o) = load_marks s t m (both t n o) 2 (sum (reg core n) (reg core o)) d whole
memory_marks s t m core (LdrbRegister d n o) = load_marks s t m (both t n o) 1 (sum (reg core n) (reg core o)) d whole
memory_marks s t m core (LdrshRegister d n o) = load_marks s t m (both t n o) 2 (sum (reg core n) (reg core o)) d plain
memory_marks s t m core (StrImmediate d n i) = store_marks s t m (known t n) 4 (sum (reg core n) (4 * i)) (reg core d) (operand t d)
memory_marks s t m core (LdrImmediate d n i) = load_marks s t m (known t n) 4 (sum (reg core n) (4 * i)) d whole
memory_marks s t m core (StrbImmediate d n i) = store_marks s t m (known t n) 1 (sum (reg core n) i) (reg core d % 2 ^ 8) (low_byte (operand t d))
memory_marks s t m core (LdrbImmediate d n i) = load_marks s t m (known t n) 1 (sum (reg core n) i) d whole
memory_marks s t m core (StrhImmediate d n i) = store_marks s t m (known t n) 2 (sum (reg core n) (2 * i)) (reg core d % 2 ^ 16) (low_half (operand t d))
memory_marks s t m core (LdrhImmediate d n i) = load_marks s t m (known t n) 2 (sum (reg core n) (2 * i)) d whole
memory_marks s t m core (StrSp d i) = store_marks s t m (known t SP) 4 (sum (reg core SP) (4 * i)) (reg core d) (operand t d)
memory_marks s t m core (LdrSp d i) = load_marks s t m (known t SP) 4 (sum (reg core SP) (4 * i)) d whole

-- ---- a list of registers

unfoldable pub store_each_marks : {M : Type 0} → Shadow M → CoreMarks → M → Core → ℕ → List ℕ → Option M
store_each_marks s t m core at [] = Some m
store_each_marks s t m core at (r ∷ rs) = and_then (s.store m 4 at (reg core r) (operand t r)) (λ m'. store_each_marks s t m' core (sum at 4) rs)

unfoldable pub load_each_marks : {M : Type 0} → Shadow M → CoreMarks → M → ℕ → List ℕ → Option CoreMarks
load_each_marks s t m at [] = Some t
load_each_marks s t m at (r ∷ rs) = and_then (s.load m 4 at) (λ x. load_each_marks s (put t r x) m (sum at 4) rs)

-- the marks after the last access of PUSH and of POP
abbrev pub link_marks : {M : Type 0} → Shadow M → CoreMarks → M → Core → Bool → ℕ → Option (Marks M)
link_marks s t m core lr at =
    if lr then and_then (s.store m 4 at (reg core LR) (operand t LR))
    (λ m'. Some (marks (gone (put t SP Known)) m')) else Some (marks (gone (put t SP Known)) m)

abbrev pub return_marks : {M : Type 0} → Shadow M → CoreMarks → M → Bool → ℕ → Option (Marks M)
return_marks s t m pc at =
    if pc then and_then (s.load m 4 at) (λ x. only_if (is_known x) (Some (marks (gone (put t SP Known)) m))) else Some (marks (gone (put t SP Known)) m)

abbrev pub many_marks : {M : Type 0} → Shadow M → CoreMarks → M → Core → Many → Option (Marks M)
many_marks s t m core (Push lr list) =
    let start = difference (reg core SP) (list_bytes list + (if lr then 4 else 0)) in
    only_if (known t SP) (and_then (store_each_marks s t m core start (low_registers list)) (λ m'. link_marks s t m' core lr (sum start (list_bytes list))))
many_marks s t m core (Pop pc list) =
    only_if (known t SP) (and_then (load_each_marks s t m (reg core SP) (low_registers list))
    (λ filled. return_marks s filled m pc (sum (reg core SP) (list_bytes list))))
many_marks s t m core (Stm n list) =
    only_if (known t n) (and_then (store_each_marks s t m core (reg core n) (low_registers list)) (λ m'. Some (marks (gone (put t n Known)) m')))
many_marks s t m core (Ldm n list) =
    only_if (known t n) (and_then (load_each_marks s t m (reg core n) (low_registers list))
    (λ filled. Some (marks (gone (if is_bit_set list (n % 16) then filled else put filled n Known)) m)))
