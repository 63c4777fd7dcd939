-- The words after the name of a command.
use Rattle.std.specs.Prelude.{ℕ, List, [], ◌∷◌, Option, Some, None}
use Rattle.command_words.specs.Words.{form_text, Positional, HasOneNumber, HasBoardAndImages, HasTargetAndImages, Command, program, begin, resume, revert, plan}
use Rattle.command_words.specs.Words.{verify, compare, status, inspect, dump, demo}
use Rattle.command_words.specs.declared.command.CommandName.{CommandName}
use Rattle.command_words.specs.declared.command.CommandName.TheVariants.{Program, Begin, Resume, Revert, Plan, Verify, Compare, Status, Inspect, Dump, Demo}

-- these words, after the name of a command, ask for this command
abbrev pub Fits : CommandName → List (List ℕ) → Command → Type 0
Fits Program others (program files) = HasTargetAndImages others files
Fits Begin others (begin files) = HasTargetAndImages others files
Fits Resume others resume = Positional others []
Fits Revert others revert = Positional others []
Fits Plan others (plan files) = HasTargetAndImages others files
Fits Verify others (verify files) = HasBoardAndImages others files
Fits Compare others (compare image) = Positional others (image ∷ [])
Fits Status others status = Positional others []
Fits Inspect others (inspect flm) = Positional others (flm ∷ [])
Fits Dump others (dump form board) = Positional others (form_text form ∷ board ∷ [])
Fits Demo others (demo seed) = HasOneNumber others seed
Fits _ others _ = ⊥

-- the command that these words ask for, or none if they fit no command
abbrev pub Fitted : CommandName → List (List ℕ) → Option Command → Type 0
Fitted name others (Some command) = Fits name others command
Fitted name others None = (command : Command) → Fits name others command → ⊥
