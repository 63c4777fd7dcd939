-- `put_elf_fault`: its contract, `Puts`.
use Rattle.std.proofs.Common.{ap, sym}
use Rattle.outside_io.proofs.PutTexts.{puts_as}
use Rattle.report_text.specs.Faults.{elf_text}
use Rattle.report_text.proofs.reason.put_elf_fault.Goals as goal

pub returns-in-BadName : goal.returns-in-BadName
unfolding elf_text
returns-in-BadName g c = puts_as (ap elf_text (sym c.in-BadName.is)) (rw c.hex_digits-offset.ensures at c.put_pieces-in-BadName.ensures)

pub returns-in-OutOfMemory : goal.returns-in-OutOfMemory
unfolding elf_text
returns-in-OutOfMemory g c = puts_as (ap elf_text (sym c.in-OutOfMemory.is)) c.put_pieces.ensures

pub returns-in-BadIndex : goal.returns-in-BadIndex
unfolding elf_text
returns-in-BadIndex g c =
    puts_as (ap elf_text (sym c.in-BadIndex.is))
    (rw (c.field_text-in-BadIndex.ensures, c.as_bytes-value.ensures.value, c.format.ensures.text) at c.put_pieces-in-BadIndex.ensures)

pub returns-in-Truncated : goal.returns-in-Truncated
unfolding elf_text
returns-in-Truncated g c = puts_as (ap elf_text (sym c.in-Truncated.is)) (rw c.field_text.ensures at c.put_pieces-in-Truncated.ensures)

pub returns-in-NotElf : goal.returns-in-NotElf
unfolding elf_text
returns-in-NotElf g c = puts_as (ap elf_text (sym c.in-NotElf.is)) c.put_pieces-in-NotElf.ensures

pub returns-in-NotArm32 : goal.returns-in-NotArm32
unfolding elf_text
returns-in-NotArm32 g c = puts_as (ap elf_text (sym c.in-NotArm32.is)) c.put_pieces-in-NotArm32.ensures
