-- The board and the algorithm of every demonstration.
use Rattle.std.specs.Prelude.{◌≡◌, ℕ, List, codes, Some, slice_get}
use Rattle.board_file.specs.Shown as board
use Rattle.board_file.specs.Text.{IsBoard}
use Rattle.board_file.specs.declared.region.Region.{Region}
use Rattle.flm_descriptor.specs.Shown as flm
use Rattle.flm_descriptor.specs.Flm.{IsFlm}
use Rattle.flm_forge.specs.Listed.{listing_of}
use Rattle.flm_forge.specs.Read.{IsForged}
use Rattle.flm_forge.specs.declared.kind.Kind.TheVariants.{A1}

-- the text of the board: 64 sectors of 1,024 bytes at 0x08000000; what the text leaves out has its default
unfoldable pub board_text : List ℕ
board_text = codes "[ram]\nbase = 0x20000000\nsize = 4096\n[[region]]\nbase = 0x08000000\nsectors = [[64, 1024]]\n[controller]\nbase = 0x40022000\n"

-- a board, an FLM file, and the algorithm of that file
pub record Fixture : Type 0 where
  pub board : board.Shown
  pub file : List ℕ
  pub algorithm : flm.Shown

-- the board is that of the text, and the FLM file is forged from the listing A1 for that board, with pages of 1,024 bytes
pub record IsFixture (t : Fixture) : Type 0 where
  pub is_board : IsBoard board_text t.board
  pub region : Region
  pub region_is : slice_get t.board.regions 0 ≡ Some region
  pub is_forged : IsForged (listing_of A1 t.board.controller_base region 1024) t.file
  pub is_algorithm : IsFlm t.file t.algorithm
