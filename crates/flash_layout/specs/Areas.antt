-- The areas of a board in order, with their cells numbered through, and the sectors of all areas.
use Rattle.std.specs.Prelude.{◌≡◌, ◌≤◌, ◌<◌, ◌⊎◌, ◌+◌, ◌-◌, ◌%◌, ℕ, Bool, true, ◌&&◌, ◌||◌, nat_eq, nat_lt, nat_le, if◌then◌else◌, List, [], ◌∷◌, ◌++◌, Option}
use Rattle.std.specs.Prelude.{Some, None}
use Rattle.board_file.specs.declared.region.Region.{Region}
use Rattle.board_file.specs.declared.sectors.SectorRun.{SectorRun}
use Rattle.board_file.specs.Laws.{Sector, sector_at}
use Rattle.flash_layout.specs.declared.area.Area.{Area}
use Rattle.flash_layout.specs.declared.area.Found.{Found}
use Rattle.flash_layout.specs.declared.area.SectorCells.{SectorCells}

-- the area of a region
abbrev pub area_of : Region → Area
area_of r = record { base = r.base; size = r.size; empty = r.empty; unit = r.unit }

abbrev pub areas_of : List Region → List Area
areas_of [] = []
areas_of (r ∷ rest) = area_of r ∷ areas_of rest

-- the sectors of all regions, in order
abbrev pub runs_of : List Region → List SectorRun
runs_of [] = []
runs_of (r ∷ rest) = r.sectors ++ runs_of rest

-- how many cells the areas have together
abbrev pub cells_in : List Area → ℕ
cells_in [] = 0
cells_in (a ∷ rest) = a.size + cells_in rest

-- an area has a byte, begins and ends at a multiple of four, and is programmed by halfwords or words
abbrev pub area_fits : Area → Bool
area_fits a = (nat_eq (a.base % 4) 0 && nat_eq (a.size % 4) 0) && (nat_lt 0 a.size && (nat_eq a.unit 2 || nat_eq a.unit 4))

abbrev pub all_fit : List Area → Bool
all_fit [] = true
all_fit (a ∷ rest) = area_fits a && all_fit rest

-- the address lies in the area
abbrev pub holds : Area → ℕ → Bool
holds a at = nat_le a.base at && nat_lt (at - a.base) a.size

-- the first of these areas that holds the address, and the cell there; the cells before them are numbered below `from`
unfoldable pub find : List Area → ℕ → ℕ → Option Found
find [] from at = None
find (a ∷ rest) from at =
    if holds a at then Some (record { area = a; place = from + (at - a.base) }) else find rest (from + a.size) at

-- the cells of a sector
abbrev pub sector_cells : ℕ → Option Sector → Option SectorCells
sector_cells empty None = None
sector_cells empty (Some s) = Some (record { place = s.start; len = s.size; empty = empty })

-- the cells of the sector that holds what was found
abbrev pub sector_found : List SectorRun → Option Found → Option SectorCells
sector_found runs None = None
sector_found runs (Some found) = sector_cells found.area.empty (sector_at runs found.place)

-- the cells of the sector that holds the address
abbrev pub sector_of : List Area → List SectorRun → ℕ → Option SectorCells
sector_of areas runs at = sector_found runs (find areas 0 at)

-- this is the first area, and it has a byte
abbrev pub IsFirst : List Area → Area → Type 0
IsFirst [] a = ⊥
IsFirst (b ∷ rest) a = (b ≡ a) × (0 < a.size)

-- a sector's cells: there is at least one, and they lie among `cells` cells
pub record AreInside (cells : ℕ) (s : SectorCells) : Type 0 where
  pub inside : s.place + s.len ≤ cells
  pub some : 0 < s.len

-- An access to an address in the flash lies among the cells, if the address is a multiple of the access's width.
pub record FoundInside (areas : List Area) (at : ℕ) (f : Found) : Type 0 where
  pub byte : f.place + 1 ≤ cells_in areas
  pub half : at % 2 ≡ 0 → f.place + 2 ≤ cells_in areas
  pub word : at % 4 ≡ 0 → f.place + 4 ≤ cells_in areas
  pub unit : (f.area.unit ≡ 2) ⊎ (f.area.unit ≡ 4)

-- The sector of an address in the flash contains the address's cell and lies among all cells.
pub record SectorHolds (cells : ℕ) (f : Found) (s : SectorCells) : Type 0 where
  pub from : s.place ≤ f.place
  pub to : f.place < s.place + s.len
  pub inside : s.place + s.len ≤ cells
  pub empty : s.empty ≡ f.area.empty

pub record HasSectorCells (areas : List Area) (runs : List SectorRun) (at : ℕ) (f : Found) : Type 0 where
  pub sector : SectorCells
  pub is : sector_of areas runs at ≡ Some sector
  pub holds : SectorHolds (cells_in areas) f sector
