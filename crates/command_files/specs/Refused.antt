-- Why a command's files are refused.
use Rattle.std.specs.Prelude.{◌≡◌, ◌≢◌, ◌<◌, ◌⊎◌, ℕ, List, ◌∷◌, length, Option, IsSome, Ok, Err}
use Rattle.byte_map.specs.Image.{Run}
use Rattle.board_file.specs.declared.region.Region.{Region}
use Rattle.board_file.specs.Shown as board
use Rattle.board_file.specs.Text.{reading, IsBoard}
use Rattle.flm_descriptor.specs.Shown as flm
use Rattle.flm_descriptor.specs.Flm.{flm_of}
use Rattle.algo_loader.specs.Places.{need_of}
use Rattle.image_set.specs.declared.fault.ImageFault.{ImageFault}
use Rattle.image_more.specs.declared.fault.AnyFault.{AnyFault}
use Rattle.image_more.specs.declared.fault.AnyFault.TheVariants.{OutOfMemory}
use Rattle.image_more.specs.Any.{IsAnyImage, IsAnyFault}
use Rattle.image_more.specs.Fault.{any_of}
use Rattle.image_more.specs.Place.{file_at}
use Rattle.image_more.specs.Files.{IsUnionBefore}
use Rattle.image_set.specs.Union.{IsUnionFault}
use Rattle.image_set.specs.Ranges.{IsPlaceFault}
use Rattle.report_text.specs.Refusal.{Refusal, usage, board_refused, flm_refused, other_device, no_room, image_refused, image_misplaced}
use Rattle.command_words.specs.Files.{FilesAsked}
use Rattle.command_files.specs.Inputs.{FilesGiven, name_at}
use Rattle.command_files.specs.Files.{flm_files, image_files, IsBoardOf, IsOneFor, AreFor, Aim, ranges_of, AreRead}

-- FLM files leave no name for an image
pub record LeavesNoImage (files : FilesGiven) (board : board.Shown) : Type 0 where
  pub has_flm : IsSome files.flm
  pub few : length files.images < length board.regions

-- ---- why an FLM file isn't one for a region

-- the device of an algorithm, which the refusal names, has another base or another size than the region
pub record IsOtherDevice (base size : ℕ) (algorithm : flm.Shown) (told_base told_size : ℕ) : Type 0 where
  pub base_is : told_base ≡ algorithm.device.base
  pub size_is : told_size ≡ algorithm.device.size
  pub other : (told_base ≢ base) ⊎ (told_size ≢ size)

-- the device of an algorithm is the region, but the algorithm needs more bytes than the RAM has
pub record HasNoRoom (board : board.Shown) (base size : ℕ) (algorithm : flm.Shown) (need have : ℕ) : Type 0 where
  pub base_is : algorithm.device.base ≡ base
  pub size_is : algorithm.device.size ≡ size
  pub need_is : need ≡ need_of algorithm board
  pub have_is : have ≡ board.ram_size
  pub more : have < need

abbrev pub IsUnfit : board.Shown → ℕ → ℕ → flm.Shown → Refusal → Type 0
IsUnfit board base size algorithm (other_device told_base told_size) = IsOtherDevice base size algorithm told_base told_size
IsUnfit board base size algorithm (no_room need have) = HasNoRoom board base size algorithm need have
IsUnfit board base size algorithm _ = ⊥

-- an FLM file says no algorithm
abbrev pub IsUnread : List ℕ → Refusal → Type 0
IsUnread file (flm_refused fault) = flm_of file ≡ Err fault
IsUnread file _ = ⊥

-- an FLM file says an algorithm that isn't for the region
pub record IsReadUnfit (board : board.Shown) (region : Region) (file : List ℕ) (refusal : Refusal) : Type 0 where
  pub algorithm : flm.Shown
  pub says : flm_of file ≡ Ok algorithm
  pub unfit : IsUnfit board region.base region.size algorithm refusal

abbrev pub IsNoneFor : board.Shown → Region → List ℕ → Refusal → Type 0
IsNoneFor board region file refusal = IsUnread file refusal ⊎ IsReadUnfit board region file refusal

-- the first FLM file that isn't one for the region at its place
abbrev pub AreNotFor : board.Shown → List Region → List (List ℕ) → Refusal → Type 0
AreNotFor board (region ∷ regions) (file ∷ files) refusal =
    IsNoneFor board region file refusal ⊎ (((algorithm : flm.Shown) × IsOneFor board region file algorithm) × AreNotFor board regions files refusal)
AreNotFor board regions files refusal = ⊥

-- ---- the images, file after file

-- the image in a file clashes with those in the files before it
pub record Clashes (raw_at : Option ℕ) (file : List ℕ) (before : List Run) (fault : AnyFault) : Type 0 where
  pub image : List Run
  pub is_image : IsAnyImage raw_at file image
  pub clash : ImageFault
  pub is_clash : IsUnionFault before image clash
  pub fault_is : fault ≡ any_of clash

-- the first file that has no image, or whose image clashes with those before it; the refusal names it
pub record IsImageRefused (raw_at : Option ℕ) (names files : List (List ℕ)) (name : List ℕ) (fault : AnyFault) : Type 0 where
  pub place : ℕ
  pub inside : place < length files
  pub name_is : name ≡ name_at names place
  pub before : List Run
  pub is_before : IsUnionBefore raw_at files place before
  pub is_fault : IsAnyFault raw_at (file_at files place) fault ⊎ Clashes raw_at (file_at files place) before fault
  pub no_memory : fault ≢ OutOfMemory

-- ---- all reasons

-- there is a board, and FLM files for its regions leave no name for an image
pub record HasNoImage (files : FilesGiven) : Type 0 where
  pub board : board.Shown
  pub is_board : IsBoard files.board board
  pub leaves : LeavesNoImage files board

-- there is a board, and a name for an image
pub record HasBoard (files : FilesGiven) : Type 0 where
  pub board : board.Shown
  pub is_board : IsBoardOf files board

-- there are a board and, where there are FLM files, an algorithm for each of its regions
pub record HasTarget (files : FilesGiven) : Type 0 where
  pub has_board : HasBoard files
  pub algorithms : List flm.Shown
  pub are_for : AreFor has_board.board has_board.board.regions (flm_files files.flm files.images has_board.board) algorithms

-- there is a board, and an FLM file that isn't one for its region
pub record HasNoTarget (files : FilesGiven) (refusal : Refusal) : Type 0 where
  pub has_board : HasBoard files
  pub are_not : AreNotFor has_board.board has_board.board.regions (flm_files files.flm files.images has_board.board) refusal

-- the board and the algorithms are right, and an image file is wrong
pub record HasWrongImage (asked : FilesAsked) (files : FilesGiven) (name : List ℕ) (fault : AnyFault) : Type 0 where
  pub has_target : HasTarget files
  pub is_wrong : IsImageRefused asked.raw_at (image_files files.flm asked.images has_target.has_board.board)
      (image_files files.flm files.images has_target.has_board.board) name fault

-- all files are right, but the image is empty or has a byte outside the regions
pub record IsMisplaced (raw_at : Option ℕ) (files : FilesGiven) (fault : ImageFault) : Type 0 where
  pub aim : Aim
  pub are_read : AreRead raw_at files aim
  pub is_fault : IsPlaceFault aim.image (ranges_of aim.board.regions) fault

-- Each reason implies that the earlier ones don't apply. The order is: the board; a name left for an image; each FLM file in turn, with its
-- device and its room; the images in turn; the place of their union.
abbrev pub IsRefused : FilesAsked → FilesGiven → Refusal → Type 0
IsRefused asked files (board_refused fault) = reading files.board ≡ Err fault
IsRefused asked files usage = HasNoImage files
IsRefused asked files (flm_refused fault) = HasNoTarget files (flm_refused fault)
IsRefused asked files (other_device base size) = HasNoTarget files (other_device base size)
IsRefused asked files (no_room need have) = HasNoTarget files (no_room need have)
IsRefused asked files (image_refused name fault) = HasWrongImage asked files name fault
IsRefused asked files (image_misplaced fault) = IsMisplaced asked.raw_at files fault
IsRefused asked files _ = ⊥
