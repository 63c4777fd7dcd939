-- `put_flm_fault`: its contract, `Puts`.
use Rattle.std.proofs.Common.{ap, sym}
use Rattle.outside_io.proofs.PutTexts.{puts_as, puts_then, puts_stops, puts_failed}
use Rattle.report_text.specs.Faults.{elf_text, flm_text}
use Rattle.report_text.proofs.reason.put_flm_fault.Goals as goal

pub returns-in_err-put_pieces-in-Elf : goal.returns-in_err-put_pieces-in-Elf
unfolding flm_text
returns-in_err-put_pieces-in-Elf g c =
    puts_as (ap flm_text (sym c.in-Elf.is)) (puts_failed _ c.from_residual.ensures.0 (puts_stops (elf_text c.in-Elf.fault) c.in_err-put_pieces-in-Elf.ensures))

pub returns-in-OutOfMemory : goal.returns-in-OutOfMemory
unfolding flm_text
returns-in-OutOfMemory g c = puts_as (ap flm_text (sym c.in-OutOfMemory.is)) c.put_pieces.ensures

pub returns-in-DataBeforeCode : goal.returns-in-DataBeforeCode
unfolding flm_text
returns-in-DataBeforeCode g c = puts_as (ap flm_text (sym c.in-DataBeforeCode.is)) c.put_pieces-in-DataBeforeCode.ensures

pub returns-in-DescriptorShort : goal.returns-in-DescriptorShort
unfolding flm_text
returns-in-DescriptorShort g c = puts_as (ap flm_text (sym c.in-DescriptorShort.is)) c.put_pieces-in-DescriptorShort.ensures

pub returns-in-NoSectorEnd : goal.returns-in-NoSectorEnd
unfolding flm_text
returns-in-NoSectorEnd g c = puts_as (ap flm_text (sym c.in-NoSectorEnd.is)) c.put_pieces-in-NoSectorEnd.ensures

pub returns-in-SectorSize : goal.returns-in-SectorSize
unfolding flm_text
returns-in-SectorSize g c = puts_as (ap flm_text (sym c.in-SectorSize.is)) c.put_number-in-SectorSize.ensures

pub returns-in-SymbolOutside : goal.returns-in-SymbolOutside
unfolding flm_text
returns-in-SymbolOutside g c =
    puts_as (ap flm_text (sym c.in-SymbolOutside.is))
    (rw (c.text-in-SymbolOutside.ensures, c.hex_digits-value.ensures) at c.put_pieces-in-SymbolOutside.ensures)

pub returns-in_ok-put_pieces-in-Elf : goal.returns-in_ok-put_pieces-in-Elf
unfolding flm_text
returns-in_ok-put_pieces-in-Elf g c = puts_as (ap flm_text (sym c.in-Elf.is)) (puts_then _ c.in_ok-put_pieces-in-Elf.ensures c.put_elf_fault.ensures)

pub returns-in-SectorOrder : goal.returns-in-SectorOrder
unfolding flm_text
returns-in-SectorOrder g c = puts_as (ap flm_text (sym c.in-SectorOrder.is)) c.put_number-in-SectorOrder.ensures

pub returns-in-NoSymbol : goal.returns-in-NoSymbol
unfolding flm_text
returns-in-NoSymbol g c = puts_as (ap flm_text (sym c.in-NoSymbol.is)) (rw c.text-in-NoSymbol.ensures at c.put_pieces-in-NoSymbol.ensures)

pub returns-in-NoSection : goal.returns-in-NoSection
unfolding flm_text
returns-in-NoSection g c = puts_as (ap flm_text (sym c.in-NoSection.is)) (rw c.text.ensures at c.put_pieces-in-NoSection.ensures)

pub returns-in-BadDevice : goal.returns-in-BadDevice
unfolding flm_text
returns-in-BadDevice g c = puts_as (ap flm_text (sym c.in-BadDevice.is)) c.put_number-in-BadDevice.ensures

pub returns-in-SectorGap : goal.returns-in-SectorGap
unfolding flm_text
returns-in-SectorGap g c = puts_as (ap flm_text (sym c.in-SectorGap.is)) c.put_pieces-in-SectorGap.ensures

pub returns-in-BadPage : goal.returns-in-BadPage
unfolding flm_text
returns-in-BadPage g c = puts_as (ap flm_text (sym c.in-BadPage.is)) c.put_number.ensures
