-- The names in a command line.
use Rattle.std.specs.Prelude.{ℕ, List}
use Rattle.command_words.specs.declared.names.Names.{Names}

abbrev pub names_of : Names → List (List ℕ)
names_of names = names.words.now
