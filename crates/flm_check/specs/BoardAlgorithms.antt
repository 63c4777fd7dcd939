-- What files say: a board, and an algorithm for each of its regions.
use Rattle.std.specs.Prelude.{◌≡◌, ◌≢◌, ℕ, List, ◌++◌, length, option_to_list, Err}
use Rattle.board_file.specs.Shown as board
use Rattle.board_file.specs.Text.{reading, IsBoard}
use Rattle.flm_descriptor.specs.Shown as flm
use Rattle.report_text.specs.Refusal.{Refusal, usage, board_refused, flm_refused, other_device, no_room}
use Rattle.command_files.specs.Inputs.{FilesGiven}
use Rattle.command_files.specs.Files.{AreFor}
use Rattle.command_files.specs.Refused.{AreNotFor}

-- the FLM files
abbrev pub flms_in : FilesGiven → List (List ℕ)
flms_in files = option_to_list files.flm ++ files.images

-- a text is that of a board, and there is an FLM file for each of its regions
pub record IsBoardFor (files : FilesGiven) (b : board.Shown) : Type 0 where
  pub is_board : IsBoard files.board b
  pub each : length (flms_in files) ≡ length b.regions

-- each FLM file describes an algorithm that fits its region
pub record AreBoardAlgorithms (files : FilesGiven) (b : board.Shown) (algorithms : List flm.Shown) : Type 0 where
  pub board_for : IsBoardFor files b
  pub are_for : AreFor b b.regions (flms_in files) algorithms

-- Why the files are refused.

-- there are more or fewer FLM files than regions
pub record HasOtherCount (files : FilesGiven) : Type 0 where
  pub board : board.Shown
  pub is_board : IsBoard files.board board
  pub other : length (flms_in files) ≢ length board.regions

-- an FLM file isn't right for its region
pub record HasNoAlgorithm (files : FilesGiven) (refusal : Refusal) : Type 0 where
  pub board : board.Shown
  pub board_for : IsBoardFor files board
  pub are_not : AreNotFor board board.regions (flms_in files) refusal

-- Each reason comes only where no earlier one does: the board is first, then the number of FLM files, then each of them in its turn.
abbrev pub IsRefused : FilesGiven → Refusal → Type 0
IsRefused files (board_refused fault) = reading files.board ≡ Err fault
IsRefused files usage = HasOtherCount files
IsRefused files (flm_refused fault) = HasNoAlgorithm files (flm_refused fault)
IsRefused files (other_device base size) = HasNoAlgorithm files (other_device base size)
IsRefused files (no_room need have) = HasNoAlgorithm files (no_room need have)
IsRefused files _ = ⊥
