-- Steps that may refuse, one after another: the first refusal is the answer.
use Rattle.std.specs.Prelude.{Option, Some, None, Result, Ok, Err}
use Rattle.faults.specs.Results as results
use Rattle.elf32.specs.declared.fault.ElfFault.{ElfFault}
use Rattle.elf32.specs.declared.fault.ElfFault.TheVariants as elf
use Rattle.flm_descriptor.specs.declared.fault.FlmFault.{FlmFault}
use Rattle.flm_descriptor.specs.declared.fault.FlmFault.TheVariants as fault

-- a fault of the ELF file as a fault of the FLM file
abbrev pub outer : ElfFault → FlmFault
outer elf.OutOfMemory = fault.OutOfMemory
outer elf.NotElf = fault.Elf elf.NotElf
outer elf.NotArm32 = fault.Elf elf.NotArm32
outer (elf.Truncated field) = fault.Elf (elf.Truncated field)
outer (elf.BadIndex field value) = fault.Elf (elf.BadIndex field value)
outer (elf.BadName offset) = fault.Elf (elf.BadName offset)

-- the answer of the ELF reader as an answer of this crate
abbrev pub from_elf : {T : Type 0} → Result T ElfFault → Result T FlmFault
from_elf (Ok x) = Ok x
from_elf (Err f) = Err (outer f)

-- a step that only refuses
abbrev pub unless : Option FlmFault → Result (Unit {0}) FlmFault
unless None = Ok tt
unless (Some f) = Err f

-- a function returned what was read, seen by `view`, unless memory ran out
abbrev pub Gives : {X Y : Type 0} → (X → Y) → Result X FlmFault → Result Y FlmFault → Type 0
Gives view answer read = results.Gives fault.OutOfMemory view answer read
