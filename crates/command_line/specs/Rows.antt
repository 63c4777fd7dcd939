-- What the rows that `clap` returns for a command say.
use Rattle.std.specs.Prelude.{List, [], Option, codes, unwrap_or, option_map}
use Rattle.clap.specs.Walk.{Row, all_of}
use Rattle.command_line.specs.Scan.{Text}

-- the values that the rows have under a name
abbrev pub told : Text → List Row → List Text
told id rows = unwrap_or (all_of id rows) []

-- the command, with its addresses and its positional words
abbrev pub asked : Option (Text × List Row) → Option (Text × List Text × List Text)
asked = option_map (λ p. (p.0, told (codes "raw-at") p.1, told (codes "names") p.1))
