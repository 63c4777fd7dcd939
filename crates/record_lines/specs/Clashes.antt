-- What adding the bytes of a record answers.
use Rattle.std.specs.Prelude.{◌≡◌, Option, Some}
use Rattle.record_lines.specs.declared.fault.ClashFault.{ClashFault}
use Rattle.record_lines.specs.declared.fault.ClashFault.TheVariants.{Conflict, OutOfMemory}
use Rattle.record_lines.specs.Cells.{Clash}

-- a fault of adding bytes is the clash, or out of memory
abbrev pub IsClashFault : ClashFault → Option Clash → Type 0
IsClashFault (Conflict at old new) clash = clash ≡ Some (record { at = at; old = old; new = new })
IsClashFault OutOfMemory clash = Unit {0}
