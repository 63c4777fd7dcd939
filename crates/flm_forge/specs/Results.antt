-- Faults of the assembler as faults of this crate.
use Rattle.armv6m_asm.specs.declared.fault.AsmFault.{AsmFault}
use Rattle.armv6m_asm.specs.declared.fault.AsmFault.TheVariants as asm
use Rattle.flm_forge.specs.declared.fault.ForgeFault.{ForgeFault}
use Rattle.flm_forge.specs.declared.fault.ForgeFault.TheVariants as fault

-- an assembler's fault as a fault of this crate. Out of memory is a variant of the outer type.
abbrev pub outer : AsmFault → ForgeFault
outer asm.OutOfMemory = fault.OutOfMemory
outer (asm.BadWord line) = fault.Asm (asm.BadWord line)
outer (asm.TwiceLabel name) = fault.Asm (asm.TwiceLabel name)
outer (asm.NoLabel name) = fault.Asm (asm.NoLabel name)
outer (asm.OutOfReach line) = fault.Asm (asm.OutOfReach line)
