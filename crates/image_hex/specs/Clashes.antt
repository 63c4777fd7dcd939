-- A fault of adding the bytes of a record as a fault of its line.
use Rattle.record_lines.specs.declared.fault.ClashFault.{ClashFault}
use Rattle.record_lines.specs.declared.fault.ClashFault.TheVariants as clash
use Rattle.record_lines.specs.declared.fault.LineFault.{LineFault}
use Rattle.record_lines.specs.declared.fault.LineFault.TheVariants.{Refused, OutOfMemory}
use Rattle.image_hex.specs.declared.fault.HexKind.{HexKind}
use Rattle.image_hex.specs.declared.fault.HexKind.TheVariants.{Conflict}

abbrev pub line_fault_of : ClashFault → LineFault HexKind
line_fault_of (clash.Conflict at old new) = Refused (Conflict at old new)
line_fault_of clash.OutOfMemory = OutOfMemory
