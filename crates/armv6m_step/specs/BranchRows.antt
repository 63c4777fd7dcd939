-- Branches: the meaning of BX, BLX, B and BL.
use Rattle.std.specs.Prelude.{ℕ, Bool, not, ◌&&◌, ◌||◌, if◌then◌else◌, Ok}
use Rattle.armv6m_decode.specs.declared.instr.Branch.{Branch}
use Rattle.armv6m_decode.specs.declared.instr.Branch.TheVariants.{Bx, Blx, Bcc, B, Bl}
use Rattle.armv6m_decode.specs.declared.condition.Condition.{Condition}
use Rattle.armv6m_decode.specs.declared.condition.Condition.TheVariants.{Equal, NotEqual, CarrySet, CarryClear, Minus, Plus, Overflow, NoOverflow, Higher}
use Rattle.armv6m_decode.specs.declared.condition.Condition.TheVariants.{LowerOrSame, GreaterOrEqual, LessThan, GreaterThan, LessOrEqual}
use Rattle.armv6m_decode.specs.declared.registers.TheConstants.{LR}
use Rattle.armv6m_decode.specs.Targets.{branch_target}
use Rattle.armv6m_step.specs.declared.core_state.Core.{Core}
use Rattle.armv6m_step.specs.Ends.{Outcome}
use Rattle.armv6m_step.specs.Registers.{reg, written, moved, pc_of}
use Rattle.armv6m_step.specs.Numbers.{sum}
use Rattle.armv6m_step.specs.ListRows.{branch_exchange}

abbrev pub same : Bool → Bool → Bool
same a b = if a then b else not b

-- whether a condition holds of the flags (A6.3)
abbrev pub holds : Core → Condition → Bool
holds core Equal = core.z
holds core NotEqual = not core.z
holds core CarrySet = core.c
holds core CarryClear = not core.c
holds core Minus = core.n
holds core Plus = not core.n
holds core Overflow = core.v
holds core NoOverflow = not core.v
holds core Higher = core.c && not core.z
holds core LowerOrSame = not core.c || core.z
holds core GreaterOrEqual = same core.n core.v
holds core LessThan = not (same core.n core.v)
holds core GreaterThan = not core.z && same core.n core.v
holds core LessOrEqual = core.z || not (same core.n core.v)

-- a core with LR as a call sets it: the next instruction's address with bit 0 set
abbrev pub linked : Core → ℕ → Core
linked core next = written core LR (sum next 1)

abbrev pub branch : Core → ℕ → Branch → Outcome
branch core next (Bx m) = branch_exchange (pc_of core) core (reg core m)
branch core next (Blx m) = branch_exchange (pc_of core) (linked core next) (reg core m)
branch core next (Bcc condition i) = if holds core condition then Ok (moved core (branch_target 8 (pc_of core) i)) else Ok (moved core next)
branch core next (B i) = Ok (moved core (branch_target 11 (pc_of core) i))
branch core next (Bl i) = Ok (moved (linked core next) (branch_target 24 (pc_of core) i))
