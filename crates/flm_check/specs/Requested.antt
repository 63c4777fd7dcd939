-- What a command line asks for, as values of the code.
use Rattle.std.specs.Prelude.{◌≡◌, ℕ, List}
use Rattle.command_words.specs.Requested.{files_of}
use Rattle.command_words.specs.Words.{IsDecimal}
use Rattle.flm_check.specs.Words.{Asked, IsRounds, seed_name, rounds_name}
use Rattle.flm_check.specs.declared.words.Request.{Request}
use Rattle.flm_check.specs.declared.words.Setting.{Setting}
use Rattle.flm_check.specs.declared.words.Setting.TheVariants as setting

abbrev pub asked_of : Request → Asked
asked_of request = record { files = files_of request.names; seed = request.rounds.seed; rounds = request.rounds.rounds }

-- an option and its number
abbrev pub IsSetting : List ℕ → List ℕ → Setting → Type 0
IsSetting name word (setting.Seed number) = (name ≡ seed_name) × IsDecimal word number
IsSetting name word (setting.Rounds number) = (name ≡ rounds_name) × IsRounds word number
