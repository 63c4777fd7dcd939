-- The line that the words of a command line were read as.
use Rattle.std.specs.Prelude.{◌≡◌, ℕ, List, [], ◌∷◌, Option, Some, None}
use Rattle.command_line.specs.Scan.{scan, says}
use Rattle.command_line.specs.Shown.{shown}
use Rattle.command_line.specs.declared.line.Line.{Line}
use Rattle.command_words.specs.Words.{IsAddress, AsksNothing}
use Rattle.command_words.specs.declared.line.CommandLine.{CommandLine}
use Rattle.command_words.specs.declared.line.CommandLine.TheVariants.{Faulty, Line as line_that}

-- the words after the name of a command have these addresses and these positional words
abbrev pub Spells : List (List ℕ) → Line → Type 0
Spells others line = scan [] [] others ≡ Some (line.addresses.items, line.names.items)

-- the address that options give: none without an option, else the address in the only option
abbrev pub Gives : List (List ℕ) → Option ℕ → Type 0
Gives [] None = Unit {0}
Gives (address ∷ []) (Some at) = IsAddress address at
Gives _ _ = ⊥

-- the words of the command line say this line
abbrev pub IsLineOf : List (List ℕ) → Line → Type 0
IsLineOf words line = says words ≡ Some (shown line)

-- the words were read as this line, or as faulty because they ask for no command
abbrev pub IsReadAs : List (List ℕ) → CommandLine → Type 0
IsReadAs words Faulty = AsksNothing words
IsReadAs words (line_that line) = IsLineOf words line
