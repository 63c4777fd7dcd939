-- One instruction: the loads of the fetch, then the meaning of the row that fits.
use Rattle.std.specs.Prelude.{ℕ, Option, Some, None}
use Rattle.armv6m_decode.specs.declared.instr.Instr.{Instr}
use Rattle.armv6m_decode.specs.declared.instr.Instr.TheVariants as instr
use Rattle.armv6m_decode.specs.declared.instr.Decoded.{Decoded}
use Rattle.armv6m_decode.specs.declared.instr.Decoded.TheVariants as decoded_as
use Rattle.armv6m_decode.specs.Table.{decoded, decoded_pair}
use Rattle.armv6m_step.specs.declared.core_state.Core.{Core}
use Rattle.armv6m_step.specs.Ends.{Undefined}
use Rattle.armv6m_step.specs.Registers.{pc_of}
use Rattle.armv6m_step.specs.Numbers.{sum}
use Rattle.armv6m_step.specs.DataRows.{alu}
use Rattle.armv6m_step.specs.MemoryRows.{memory}
use Rattle.armv6m_step.specs.ListRows.{many}
use Rattle.armv6m_step.specs.BranchRows.{branch}
use Rattle.armv6m_step.specs.OtherRows.{other}
use Rattle.armv6m_step.specs.Meaning.{Meaning, Gives, load, stops}

-- the meaning of an instruction, if the one after it is at `next`
abbrev pub meaning : Core → ℕ → Instr → Meaning
meaning core next (instr.Alu op) = Gives (alu core next op)
meaning core next (instr.Memory op) = memory core next op
meaning core next (instr.Many op) = many core next op
meaning core next (instr.Branch op) = Gives (branch core next op)
meaning core next (instr.Other op) = Gives (other core next op)

abbrev pub of_pair : Core → Option Instr → Meaning
of_pair core None = stops (Undefined (pc_of core))
of_pair core (Some op) = meaning core (sum (pc_of core) 4) op

abbrev pub of_halfword : Core → ℕ → Decoded → Meaning
of_halfword core half (decoded_as.Op op) = meaning core (sum (pc_of core) 2) op
of_halfword core half decoded_as.NeedsSecond = load 2 (sum (pc_of core) 2) (λ second. of_pair core (decoded_pair half second))
of_halfword core half decoded_as.Undefined = stops (Undefined (pc_of core))

-- the meaning of the instruction at the PC
unfoldable pub instruction : Core → Meaning
instruction core = load 2 (pc_of core) (λ half. of_halfword core half (decoded half))
