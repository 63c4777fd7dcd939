-- The answers of the steps that take and read the files.
use Rattle.std.specs.Prelude.{◌⊎◌, map, Result, Ok, Err}
use Rattle.board_file.specs.Shown as board
use Rattle.flm_descriptor.specs.Shown as flm
use Rattle.report_text.specs.Refusal as refusal
use Rattle.report_text.specs.Shown.{shown}
use Rattle.report_text.specs.declared.refusal.Refusal.{Refusal}
use Rattle.command_words.specs.Files.{FilesAsked, names_in}
use Rattle.command_files.specs.Inputs.{InputsCall, FilesGiven}
use Rattle.command_files.specs.Steps.{IsTakeFault, TookFiles}
use Rattle.flm_check.specs.BoardAlgorithms.{AreBoardAlgorithms, IsRefused}
use Rattle.flm_check.specs.declared.board_algorithms.BoardAlgorithms.{BoardAlgorithms}

-- the files describe this board and these algorithms
abbrev pub Say : FilesGiven → BoardAlgorithms → Type 0
Say files checked = AreBoardAlgorithms files (board.shown checked.board) (map flm.shown checked.algorithms.items)

abbrev pub IsReadRefusal : FilesGiven → refusal.Refusal → Type 0
IsReadRefusal files refusal.out_of_memory = Unit {0}
IsReadRefusal files r = IsRefused files r

abbrev pub ReadsBoardAlgorithms : FilesGiven → Result BoardAlgorithms Refusal → Type 0
ReadsBoardAlgorithms files (Ok checked) = Say files checked
ReadsBoardAlgorithms files (Err e) = IsReadRefusal files (shown e)

-- a file can't be taken, or else the files are refused
abbrev pub TakesBoardAlgorithms : InputsCall → FilesAsked → Result BoardAlgorithms Refusal → Type 0
TakesBoardAlgorithms inputs asked (Ok checked) = TookFiles inputs asked (λ files. Say files checked)
TakesBoardAlgorithms inputs asked (Err e) =
    IsTakeFault inputs (names_in asked) (shown e) ⊎ TookFiles inputs asked (λ files. IsReadRefusal files (shown e))
