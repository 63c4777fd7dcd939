-- What a command's files say: an image for a board and, where the command has FLM files, an algorithm for each region of the board.
use Rattle.std.specs.Prelude.{◌≡◌, ◌≤◌, ◌-◌, ℕ, List, [], ◌∷◌, ◌++◌, map, length, take, drop, Option, option_to_list, Some, None, IsSome, Ok}
use Rattle.byte_map.specs.Image.{Run}
use Rattle.board_file.specs.declared.region.Region.{Region}
use Rattle.board_file.specs.Shown as board
use Rattle.board_file.specs.Text.{IsBoard}
use Rattle.flm_descriptor.specs.Shown as flm
use Rattle.flm_descriptor.specs.Flm.{flm_of}
use Rattle.algo_loader.specs.Places.{need_of}
use Rattle.image_more.specs.Files.{IsUnionBefore}
use Rattle.image_set.specs.Ranges.{LiesInside}
use Rattle.command_files.specs.Inputs.{FilesGiven}

-- The names after the board. A command with an FLM file has one for each region of the board: these come first, and the other names are
-- images. Without an FLM file all names are images.

-- how many FLM files follow the first
abbrev pub others_of : Option (List ℕ) → List Region → ℕ
others_of None regions = 0
others_of (Some first) regions = length regions - 1

-- the FLM files: the first one, and one for each further region
abbrev pub flm_files : Option (List ℕ) → List (List ℕ) → board.Shown → List (List ℕ)
flm_files first others board = option_to_list first ++ take (others_of first board.regions) others

-- the images: all files after the FLM files
abbrev pub image_files : Option (List ℕ) → List (List ℕ) → board.Shown → List (List ℕ)
image_files first others board = drop (others_of first board.regions) others

-- ---- the board and the algorithms

-- the board's text says this board, and a name is left for an image
pub record IsBoardOf (files : FilesGiven) (board : board.Shown) : Type 0 where
  pub is_board : IsBoard files.board board
  pub enough : IsSome files.flm → length board.regions ≤ length files.images

-- an algorithm fits a region with this base and size: its device is the region, and the RAM has room for it
pub record IsForBoard (board : board.Shown) (base size : ℕ) (algorithm : flm.Shown) : Type 0 where
  pub base_is : algorithm.device.base ≡ base
  pub size_is : algorithm.device.size ≡ size
  pub room : need_of algorithm board ≤ board.ram_size

-- an FLM file says this algorithm, which fits the region
pub record IsOneFor (board : board.Shown) (region : Region) (file : List ℕ) (algorithm : flm.Shown) : Type 0 where
  pub says : flm_of file ≡ Ok algorithm
  pub fits : IsForBoard board region.base region.size algorithm

-- FLM files say these algorithms, each for the region at the same place
abbrev pub AreFor : board.Shown → List Region → List (List ℕ) → List flm.Shown → Type 0
AreFor board regions [] [] = Unit {0}
AreFor board (region ∷ regions) (file ∷ files) (algorithm ∷ algorithms) = IsOneFor board region file algorithm × AreFor board regions files algorithms
AreFor board regions files algorithms = ⊥

-- What a command wants of the cells: an image, in the regions of a board, and an algorithm for each region where there are FLM files.
pub record Aim : Type 0 where
  pub board : board.Shown
  pub algorithms : List flm.Shown
  pub image : List Run

-- the addresses of regions, each as one range
abbrev pub ranges_of : List Region → List (ℕ × ℕ)
ranges_of regions = map (λ (region : Region). (region.base, region.size)) regions

-- the image is the union of the images in these files
abbrev pub IsUnionOf : Option ℕ → List (List ℕ) → List Run → Type 0
IsUnionOf raw_at files image = IsUnionBefore raw_at files (length files) image

-- each file is right, and the aim is what they say
pub record AreRead (raw_at : Option ℕ) (files : FilesGiven) (aim : Aim) : Type 0 where
  pub board : IsBoardOf files aim.board
  pub algorithms : AreFor aim.board aim.board.regions (flm_files files.flm files.images aim.board) aim.algorithms
  pub union : IsUnionOf raw_at (image_files files.flm files.images aim.board) aim.image

-- no file is refused: the image has a byte, and none outside the regions
pub record IsAim (raw_at : Option ℕ) (files : FilesGiven) (aim : Aim) : Type 0 where
  pub are_read : AreRead raw_at files aim
  pub inside : LiesInside aim.image (ranges_of aim.board.regions)
