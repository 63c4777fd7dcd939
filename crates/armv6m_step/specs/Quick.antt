-- What a quick step does.
use Rattle.std.specs.Prelude.{◌≡◌, ℕ, Ok}
use Rattle.armv6m_step.specs.declared.core_state.Core.{Core}
use Rattle.armv6m_step.specs.declared.ends.StepEnd.TheVariants as end
use Rattle.armv6m_step.specs.declared.quick.Quick.{Quick}
use Rattle.armv6m_step.specs.declared.quick.Quick.TheVariants.{Went, Done, Left}
use Rattle.armv6m_step.specs.Ends.{Outcome}
use Rattle.armv6m_step.specs.Meaning.{Meaning, Acts, Runs}
use Rattle.armv6m_step.specs.Registers.{pc_of, moved}

-- an instruction without accesses continues at `to`, and leaves this core in all but the PC
abbrev pub Goes : Outcome → Core → Quick → Type 0
Goes outcome core' (Went to) = outcome ≡ Ok (moved core' to)
Goes outcome core' _ = ⊥

-- What a quick step leaves. With `Went to` the instruction is done in all but the PC, which is to be `to`. With `Done` it is done and ended
-- so. Otherwise nothing is done.
abbrev pub Steps : {B : Type 0} → Acts B → Meaning → Core → B → Quick → Core → B → Type 0
Steps acts m core bus (Went to) core' bus' = Runs acts m core bus end.Went (moved core' to) bus'
Steps acts m core bus (Done e) core' bus' = Runs acts m core bus e core' bus'
Steps acts m core bus Left core' bus' = (core' ≡ core) × (bus' ≡ bus)

-- a core whose PC is set to `pc` has that PC
abbrev pub Reads : Core → ℕ → Type 0
Reads core pc = pc_of (moved core pc) ≡ pc
