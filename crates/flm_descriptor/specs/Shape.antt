-- The geometry of a flash device: its sectors and pages as ranges of places (Open-CMSIS-Pack, `FlashOS.h`, `struct FlashSectors`).
use Rattle.std.specs.Prelude.{◌≡◌, ℕ, take, ◌+◌, ◌-◌, ◌*◌, ◌/◌, ◌<◌, ◌≤◌, min, length, get_or, List, [], ◌∷◌, ◌++◌, map}
use Rattle.std.specs.List.{range_with_len}
use Rattle.flm_descriptor.specs.declared.items.SectorItem.{SectorItem}
use Rattle.flm_descriptor.specs.declared.geometry.Run.{Run}

-- a range of places: from `start` on and before `stop`
pub record Range : Type 0 where
  pub start : ℕ
  pub stop : ℕ

abbrev pub range : ℕ → ℕ → Range
range a b = record { start = a; stop = b }

-- the shape of a device: its size, the bytes of a page, and the sector items
pub record Shape : Type 0 where
  pub size : ℕ
  pub page : ℕ
  pub items : List SectorItem

abbrev pub shape : ℕ → ℕ → List SectorItem → Shape
shape size page items = record { size = size; page = page; items = items }

-- how many pieces of `step` bytes begin from `start` on and before `stop`
unfoldable pub pieces : ℕ → ℕ → ℕ → ℕ
pieces step start stop = (stop - start + (step - 1)) / step

-- piece `k` of `step` bytes; the last may be shorter
abbrev pub piece : ℕ → ℕ → ℕ → ℕ → Range
piece step start stop k = range (start + k * step) (min (start + (k + 1) * step) stop)

-- the pieces of `step` bytes from `start` to `stop`
unfoldable pub cut : ℕ → ℕ → ℕ → List Range
cut step start stop = map (piece step start stop) (range_with_len 0 (pieces step start stop))

-- where an item ends: at the next one's offset, or at the device's end
unfoldable pub item_end : ℕ → List SectorItem → ℕ
item_end size [] = size
item_end size (next ∷ rest) = min next.offset size

-- the runs of sectors, one for each item: from its offset to that of the next item, or to the device's end
unfoldable pub runs_of : ℕ → List SectorItem → List Run
runs_of size [] = []
runs_of size (item ∷ rest) = record { start = item.offset; stop = item_end size rest; step = item.size } ∷ runs_of size rest

-- the sectors of the runs, in rising order
unfoldable pub sectors_of : List Run → List Range
sectors_of [] = []
sectors_of (run ∷ rest) = cut run.step run.start run.stop ++ sectors_of rest

-- the pages of the sectors, in rising order
unfoldable pub pages_of : ℕ → List Range → List Range
pages_of page [] = []
pages_of page (sector ∷ rest) = cut page sector.start sector.stop ++ pages_of page rest

abbrev pub sectors : Shape → List Range
sectors s = sectors_of (runs_of s.size s.items)

abbrev pub pages : Shape → List Range
pages s = pages_of s.page (sectors s)

-- the offset and the size of item `k`, or 0 after the last one
abbrev pub offset_at : List SectorItem → ℕ → ℕ
offset_at items k = get_or (map (λ item. item.offset) items) k 0

abbrev pub size_at : List SectorItem → ℕ → ℕ
size_at items k = get_or (map (λ item. item.size) items) k 0

-- what holds for the shape of each algorithm's device
pub record IsLawful (s : Shape) : Type 0 where
  pub size_some : 1 ≤ s.size
  pub size_limit : s.size ≤ 16777216
  pub page_some : 1 ≤ s.page
  pub page_limit : s.page ≤ 65536
  pub items_limit : length s.items ≤ 512
  pub items_some : 1 ≤ length s.items
  pub begins : offset_at s.items 0 ≡ 0
  pub rise : (k : ℕ) → k + 1 < length s.items → offset_at s.items k < offset_at s.items (k + 1)
  pub sizes : (k : ℕ) → k < length s.items → 1 ≤ size_at s.items k
  pub sectors_limit : length (sectors s) ≤ 65536
  pub pages_limit : length (pages s) ≤ 1048576

-- range `k` of a list, or an empty one after the last
abbrev pub range_at : List Range → ℕ → Range
range_at rs k = get_or rs k (range 0 0)

-- run `k` of a list, or an empty one after the last
abbrev pub run_at : List Run → ℕ → Run
run_at runs k = get_or runs k (record { start = 0; stop = 0; step = 0 })

-- how many sectors and pages the first `k` runs have
unfoldable pub sectors_before : List Run → ℕ → ℕ
sectors_before runs k = length (sectors_of (take k runs))

unfoldable pub pages_before : ℕ → List Run → ℕ → ℕ
pages_before page runs k = length (pages_of page (sectors_of (take k runs)))
