-- The answers of the steps that take and read a command's files.
use Rattle.std.specs.Prelude.{◌≡◌, ◌≤◌, ◌⊎◌, ℕ, All, List, ◌∷◌, map, length, Option, option_to_list, Result, Ok, Err}
use Rattle.std.specs.Option.{ForSome}
use Rattle.faults.specs.Counts.{Rose}
use Rattle.byte_map.specs.Image.{Run}
use Rattle.board_file.specs.declared.region.Region.{Region}
use Rattle.board_file.specs.declared.board.Board.{Board}
use Rattle.board_file.specs.Shown as board
use Rattle.board_file.specs.Text.{reading, IsBoard}
use Rattle.flm_descriptor.specs.Shown as flm
use Rattle.flm_descriptor.specs.declared.algorithm.Algorithm.{Algorithm}
use Rattle.image_set.specs.Union.{IsUnion}
use Rattle.image_more.specs.declared.fault.AnyFault.{AnyFault}
use Rattle.image_more.specs.Any.{IsAnyImage, IsAnyFault}
use Rattle.report_text.specs.Refusal as refusal
use Rattle.report_text.specs.Shown.{shown}
use Rattle.report_text.specs.declared.refusal.Refusal.{Refusal}
use Rattle.command_words.specs.Files.{FilesAsked, names_in}
use Rattle.command_files.specs.Inputs.{InputsCall, FilesGiven, AreEach, AreFiles, Given, IsUntaken, NoneFailed}
use Rattle.command_files.specs.Files.{IsForBoard, IsOneFor, AreFor, IsUnionOf, flm_files, Aim, IsAim}
use Rattle.command_files.specs.Refused.{IsUnfit, IsNoneFor, AreNotFor, Clashes, IsImageRefused}
use Rattle.command_files.specs.Refused.{IsRefused}
use Rattle.command_files.specs.declared.take.Files.{Files}
use Rattle.command_files.specs.declared.target_files.TargetFiles.{TargetFiles}
use Rattle.command_files.specs.declared.wanted.Wanted.{Wanted}

-- ---- taking the files of some names

-- why taking files ended early; if memory ran out, no take failed
abbrev pub IsTakeFault : InputsCall → List (List ℕ) → refusal.Refusal → Type 0
IsTakeFault inputs names refusal.out_of_memory = NoneFailed inputs
IsTakeFault inputs names (refusal.input_fault name) =
    (inputs.before.faults ≤ inputs.after.faults) × Rose inputs.before.faults inputs.after.faults × IsUntaken inputs names name
IsTakeFault inputs names _ = ⊥

abbrev pub TakesEach : InputsCall → List (List ℕ) → Result (List (List ℕ)) Refusal → Type 0
TakesEach inputs names (Ok files) = AreEach inputs names files × NoneFailed inputs
TakesEach inputs names (Err e) = IsTakeFault inputs names (shown e)

-- the bytes of files that were taken
abbrev pub bytes_of : Files → FilesGiven
bytes_of files = record { board = files.board; flm = files.flm; images = files.images.items }

-- no file is longer than 64 MiB, the longest that is allowed
pub record AreShort (files : Files) : Type 0 where
  pub board : length files.board ≤ 67108864
  pub flm : ForSome files.flm (λ bytes. length bytes ≤ 67108864)
  pub images : All (λ bytes. length bytes ≤ 67108864) files.images.items

abbrev pub TakesFiles : InputsCall → FilesAsked → List (List ℕ) → Result Files Refusal → Type 0
TakesFiles inputs asked names (Ok files) = AreFiles inputs asked (bytes_of files) × NoneFailed inputs
TakesFiles inputs asked names (Err e) = IsTakeFault inputs names (shown e)

-- ---- reading the files

abbrev pub IsBoardRefusal : List ℕ → refusal.Refusal → Type 0
IsBoardRefusal text refusal.out_of_memory = Unit {0}
IsBoardRefusal text (refusal.board_refused fault) = reading text ≡ Err fault
IsBoardRefusal text _ = ⊥

abbrev pub ReadsBoard : List ℕ → Result Board Refusal → Type 0
ReadsBoard text (Ok b) = IsBoard text (board.shown b)
ReadsBoard text (Err e) = IsBoardRefusal text (shown e)

abbrev pub IsFlmRefusal : board.Shown → Region → List ℕ → refusal.Refusal → Type 0
IsFlmRefusal b region file refusal.out_of_memory = Unit {0}
IsFlmRefusal b region file r = IsNoneFor b region file r

-- the result of reading the FLM file of a region
abbrev pub ReadsOne : board.Shown → Region → List ℕ → Result Algorithm Refusal → Type 0
ReadsOne b region file (Ok algorithm) = IsOneFor b region file (flm.shown algorithm)
ReadsOne b region file (Err e) = IsFlmRefusal b region file (shown e)

abbrev pub AreFlmRefusal : board.Shown → List (List ℕ) → refusal.Refusal → Type 0
AreFlmRefusal b files refusal.out_of_memory = Unit {0}
AreFlmRefusal b files r = AreNotFor b b.regions files r

-- the result of reading an FLM file for each region of the board
abbrev pub ReadsAlgorithms : board.Shown → List (List ℕ) → Result (List Algorithm) Refusal → Type 0
ReadsAlgorithms b files (Ok algorithms) = AreFor b b.regions files (map flm.shown algorithms)
ReadsAlgorithms b files (Err e) = AreFlmRefusal b files (shown e)

-- the result of checking an algorithm against a region of the board
abbrev pub ChecksAlgorithm : board.Shown → Region → flm.Shown → Result (Unit {0}) Refusal → Type 0
ChecksAlgorithm b region algorithm (Ok _) = IsForBoard b region.base region.size algorithm
ChecksAlgorithm b region algorithm (Err e) = IsUnfit b region.base region.size algorithm (shown e)

-- the image in a file was added to those in the files before it
pub record Adds (raw_at : Option ℕ) (file : List ℕ) (before after : List Run) : Type 0 where
  pub image : List Run
  pub is_image : IsAnyImage raw_at file image
  pub union : IsUnion before image after

-- why the image in a file wasn't added
abbrev pub IsAddFault : Option ℕ → List ℕ → List Run → AnyFault → Type 0
IsAddFault raw_at file before fault = IsAnyFault raw_at file fault ⊎ Clashes raw_at file before fault

abbrev pub IsImagesRefusal : Option ℕ → List (List ℕ) → List (List ℕ) → refusal.Refusal → Type 0
IsImagesRefusal raw_at names files refusal.out_of_memory = Unit {0}
IsImagesRefusal raw_at names files (refusal.image_refused name fault) = IsImageRefused raw_at names files name fault
IsImagesRefusal raw_at names files _ = ⊥

abbrev pub ReadsImages : Option ℕ → List (List ℕ) → List (List ℕ) → Result (List Run) Refusal → Type 0
ReadsImages raw_at names files (Ok image) = IsUnionOf raw_at files image
ReadsImages raw_at names files (Err e) = IsImagesRefusal raw_at names files (shown e)

-- the aim of what was read
abbrev pub aim_of : Wanted → Aim
aim_of wanted = record {
  board = board.shown wanted.board;
  algorithms = map flm.shown wanted.algorithms.items;
  image = wanted.image;
}

abbrev pub IsFilesRefusal : FilesAsked → FilesGiven → refusal.Refusal → Type 0
IsFilesRefusal asked files refusal.out_of_memory = Unit {0}
IsFilesRefusal asked files r = IsRefused asked files r

abbrev pub ReadsFiles : FilesAsked → FilesGiven → Result Wanted Refusal → Type 0
ReadsFiles asked files (Ok wanted) = IsAim asked.raw_at files (aim_of wanted)
ReadsFiles asked files (Err e) = IsFilesRefusal asked files (shown e)

-- ---- taking and reading the files of a command on a target

-- the aim of a target's files
abbrev pub said_aim : TargetFiles → Aim
said_aim said = aim_of said.wanted

-- what was read is what the files say, with the bytes of the board's text and of each region's FLM file
pub record AreTargetFiles (raw_at : Option ℕ) (files : FilesGiven) (said : TargetFiles) : Type 0 where
  pub is_aim : IsAim raw_at files (said_aim said)
  pub board_text : files.board ≡ said.board_text
  pub flms : flm_files files.flm files.images (said_aim said).board ≡ said.flm ∷ option_to_list said.second

-- The files were taken, and no take failed.
pub record TookFiles (inputs : InputsCall) (asked : FilesAsked) (Holds : FilesGiven → Type 0) : Type 0 where
  pub given : Given inputs asked Holds
  pub none_failed : NoneFailed inputs

-- the files were taken and read; else a file couldn't be taken, or the files are refused
abbrev pub ReadsTargetFiles : InputsCall → FilesAsked → Result TargetFiles Refusal → Type 0
ReadsTargetFiles inputs asked (Ok said) = TookFiles inputs asked (λ files. AreTargetFiles asked.raw_at files said)
ReadsTargetFiles inputs asked (Err e) =
    IsTakeFault inputs (names_in asked) (shown e) ⊎ TookFiles inputs asked (λ files. IsFilesRefusal asked files (shown e))
