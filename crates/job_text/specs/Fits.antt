-- How the parts of a job must suit one another.
use Rattle.std.specs.Prelude.{◌≤◌, ◌<◌, ◌+◌, ◌&&◌, ◌==◌, ℕ, Bool, true, false, nat_le, nat_lt, IsTrue, List, [], ◌∷◌, length}
use Rattle.std.specs.List.{list_any}
use mathlib.Core.Bool.{Bool-set}
use Rattle.std.specs.Coded.{Unit-prop, le_prop, Π_prop, ×_prop}
use Rattle.board_file.specs.declared.region.Region.{Region}
use Rattle.board_file.specs.Shown as board
use Rattle.flm_descriptor.specs.declared.device.Device.{Device}
use Rattle.flm_descriptor.specs.Shown as flm
use Rattle.byte_map.specs.Image.{Run, addresses, end_of, AreMaximal}
use Rattle.algo_loader.specs.Places.{has_room}

-- the device has the base and the size of the region
abbrev pub is_device_of : Region → Device → Bool
is_device_of region device = (region.base == device.base) && (region.size == device.size)

-- the algorithm serves a region of the board: its device is the region, and it has room in the board's RAM
abbrev pub fits : board.Shown → Region → flm.Shown → Bool
fits b region a = is_device_of region a.device && has_room a b

-- there is one algorithm for each region, and it serves that region
abbrev pub all_fit : board.Shown → List Region → List flm.Shown → Bool
all_fit b [] [] = true
all_fit b (region ∷ regions) (a ∷ rest) = fits b region a && all_fit b regions rest
all_fit b _ _ = false

-- ---- bytes of an image

-- the address lies in the region
abbrev pub holds : Region → ℕ → Bool
holds region at = nat_le region.base at && nat_lt at (region.base + region.size)

-- each address from `from` to before `to` lies in a region
abbrev pub Covers : List Region → ℕ → ℕ → Type 0
Covers regions from to = (at : ℕ) → from ≤ at → at < to → IsTrue (list_any (λ region. holds region at) regions)

abbrev pub AreCovered : List Region → List Run → Type 0
AreCovered regions [] = Unit {0}
AreCovered regions (r ∷ rs) = Covers regions r.at (end_of r) × AreCovered regions rs

-- the runs of an image are as long as possible, and each of its bytes lies in a region
abbrev pub LiesIn : List Region → List Run → Type 0
LiesIn regions image = AreMaximal 0 addresses image × AreCovered regions image

-- Board, algorithms and image of a job suit one another: each region has its algorithm, and the image isn't empty and lies in the
-- regions.
pub record Suits (b : board.Shown) (algorithms : List flm.Shown) (image : List Run) : Type 0 where
  pub fit : IsTrue (all_fit b b.regions algorithms)
  pub some : 1 ≤ length image
  pub inside : LiesIn b.regions image

-- any two proofs that an image lies in regions are equal
AreMaximal-prop : (low end : ℕ) (rs : List Run) → IsProp (AreMaximal low end rs)
AreMaximal-prop low end [] = Unit-prop
AreMaximal-prop low end (r ∷ rs) = hlevel (le_prop, AreMaximal-prop (end_of r + 1) end rs)

AreCovered-prop : (regions : List Region) (rs : List Run) → IsProp (AreCovered regions rs)
AreCovered-prop regions [] = Unit-prop
AreCovered-prop regions (r ∷ rs) = ×_prop (Π_prop λ at. Π_prop λ _. Π_prop λ _. Bool-set _ _) (AreCovered-prop regions rs)

pub LiesIn-prop : (regions : List Region) (image : List Run) → IsProp (LiesIn regions image)
LiesIn-prop regions image = ×_prop (AreMaximal-prop 0 addresses image) (AreCovered-prop regions image)
