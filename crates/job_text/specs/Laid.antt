-- The cells of several regions. The cells of one region follow those of the one before it, and the place of a cell is its number among
-- all.
use Rattle.std.specs.Prelude.{◌+◌, ◌-◌, ℕ, nat_lt, if◌then◌else◌, List, [], ◌∷◌, ◌++◌, take, drop, Option, Some, None}
use Rattle.board_file.specs.declared.region.Region.{Region}
use Rattle.byte_map.specs.Image.{Run, over}

-- the address of the cell at a place, or none after the last cell
abbrev pub address_at : List Region → ℕ → Option ℕ
address_at [] place = None
address_at (region ∷ regions) place = if nat_lt place region.size then Some (region.base + place) else address_at regions (place - region.size)

-- An image laid over the cells of regions in order: each cell becomes the image's byte at its address, and stays where the image has
-- none.
abbrev pub overlaid : List Run → List Region → List ℕ → List ℕ
overlaid image [] cells = cells
overlaid image (r ∷ rest) cells = over image r.base (take r.size cells) ++ overlaid image rest (drop r.size cells)
