-- An algorithm and a region of a board.
use Rattle.std.specs.Prelude.{◌≡◌, ◌≤◌, ℕ, slice_get, Some}
use Rattle.board_file.specs.declared.region.Region.{Region}
use Rattle.board_file.specs.Shown.{Shown as BoardShown}
use Rattle.flm_descriptor.specs.Shown.{Shown as AlgorithmShown}
use Rattle.algo_loader.specs.Places.{need_of}

-- an algorithm is one for a region: its device is the region, and the board's RAM has room for it
pub record IsFit (b : BoardShown) (a : AlgorithmShown) (region : ℕ) : Type 0 where
  pub its : Region
  pub is : slice_get b.regions region ≡ Some its
  pub base : a.device.base ≡ its.base
  pub size : a.device.size ≡ its.size
  pub room : need_of a b ≤ b.ram_size
