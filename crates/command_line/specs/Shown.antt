-- A line as a value, whatever its place in memory.
use Rattle.std.specs.Prelude.{List}
use Rattle.command_line.specs.Scan.{Text}
use Rattle.command_line.specs.declared.line.Line.{Line}

abbrev pub shown : Line → Text × List Text × List Text
shown line = (line.command, line.addresses.items, line.names.items)
