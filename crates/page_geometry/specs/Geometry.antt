-- The places of a device as sectors and as pages: two partitions, and each page lies in a sector.
use Rattle.std.specs.Prelude.{◌≡◌, ℕ, ◌+◌, ◌<◌, ◌≤◌, length, List}
use Rattle.flm_descriptor.specs.Shape.{Range, range_at, Shape, sectors, pages}

-- the place is in the range
abbrev pub In : ℕ → Range → Type 0
In i r = (r.start ≤ i) × (i < r.stop)

-- all places of the first range are in the second
abbrev pub Within : Range → Range → Type 0
Within r s = (s.start ≤ r.start) × (r.stop ≤ s.stop)

-- the ranges lie below `size`, hold each place of it exactly once, and none is empty
pub record IsPartition (size : ℕ) (rs : List Range) : Type 0 where
  pub below : (k : ℕ) → k < length rs → (range_at rs k).stop ≤ size
  pub some : (k : ℕ) → k < length rs → (range_at rs k).start < (range_at rs k).stop
  pub cover : (i : ℕ) → i < size → (k : ℕ) × (k < length rs) × In i (range_at rs k)
  pub apart : (j k i : ℕ) → In i (range_at rs j) → In i (range_at rs k) → j ≡ k

-- a device: the number of its places, its sectors and its pages
pub record Geometry : Type 0 where
  pub size : ℕ
  pub sectors : List Range
  pub pages : List Range

abbrev pub shape_geometry : Shape → Geometry
shape_geometry s = record { size = s.size; sectors = sectors s; pages = pages s }

-- the sectors and the pages partition the device, and each page lies in a sector
pub record IsGeometry (l : Geometry) : Type 0 where
  pub sectors_part : IsPartition l.size l.sectors
  pub pages_part : IsPartition l.size l.pages
  pub nested : (p : ℕ) → p < length l.pages → (s : ℕ) × (s < length l.sectors) × Within (range_at l.pages p) (range_at l.sectors s)

-- no page is longer than `page` bytes
abbrev pub PagesFit : ℕ → Geometry → Type 0
PagesFit page l = (p : ℕ) → p < length l.pages → (range_at l.pages p).stop ≤ (range_at l.pages p).start + page

-- the pair is the place and the length of the range
abbrev pub IsAt : Range → ℕ → ℕ → Type 0
IsAt r place len = (place ≡ r.start) × (place + len ≡ r.stop)

-- the pages that lie in the sector are the `count` pages from `first` on
pub record ArePagesOf (l : Geometry) (sector first count : ℕ) : Type 0 where
  pub in_all : first + count ≤ length l.pages
  pub within : (p : ℕ) → first ≤ p → p < first + count → Within (range_at l.pages p) (range_at l.sectors sector)
  pub all : (p : ℕ) → p < length l.pages → Within (range_at l.pages p) (range_at l.sectors sector) → (first ≤ p) × (p < first + count)
