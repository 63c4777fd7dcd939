-- What a device's page, sector items and size must be, check by check.
use Rattle.std.specs.Prelude.{ℕ, ◌≤◌, ◌+◌, ◌-◌, ◌==◌, ◌||◌, not, nat_lt, nat_le, Bool, List, length, Option, Some, None, if◌then◌else◌}
use Rattle.std.specs.Option.{option_map}
use Rattle.elf32.specs.Search.{first_below}
use Rattle.flm_descriptor.specs.declared.fault.FlmFault.{FlmFault}
use Rattle.flm_descriptor.specs.declared.fault.FlmFault.TheVariants.{BadPage, SectorGap, SectorOrder, SectorSize, BadDevice}
use Rattle.flm_descriptor.specs.declared.items.SectorItem.{SectorItem}
use Rattle.flm_descriptor.specs.Lawful.{addresses}
use Rattle.flm_descriptor.specs.Shape.{Shape, sectors, pages, offset_at, size_at}

-- the fault of a page that doesn't have 1 to 65,536 bytes (PAGE_MAX)
unfoldable pub page_fault : ℕ → Option FlmFault
page_fault page = if (page == 0) || nat_lt 65536 page then Some (BadPage page) else None

-- the fault of items that are none, or don't begin at 0
unfoldable pub gap_fault : List SectorItem → Option FlmFault
gap_fault items = if (length items == 0) || not (offset_at items 0 == 0) then Some SectorGap else None

-- an item doesn't begin above the one before it; the fault names the first such item
abbrev pub falls : List SectorItem → ℕ → Bool
falls items k = nat_le (offset_at items (k + 1)) (offset_at items k)

unfoldable pub order_fault : List SectorItem → Option FlmFault
order_fault items = option_map (λ k. SectorOrder (k + 1)) (first_below (falls items) (length items - 1))

-- an item has sectors of no byte; the fault names the first such item
abbrev pub is_void : List SectorItem → ℕ → Bool
is_void items k = size_at items k == 0

unfoldable pub size_fault : List SectorItem → Option FlmFault
size_fault items = option_map (λ k. SectorSize k) (first_below (is_void items) (length items))

-- the fault of a device without 1 to 16,777,216 bytes up to the last address, or with more than 65,536 sectors or 1,048,576 pages
unfoldable pub device_fault : ℕ → Shape → Option FlmFault
device_fault base s =
    if (s.size == 0) || nat_lt 16777216 s.size || nat_lt addresses (base + s.size)
    || nat_lt 65536 (length (sectors s)) || nat_lt 1048576 (length (pages s))
    then Some (BadDevice s.size)
    else None

-- what holds after the last check of a device
pub record IsFitting (base : ℕ) (s : Shape) : Type 0 where
  pub size_some : 1 ≤ s.size
  pub size_limit : s.size ≤ 16777216
  pub in_memory : base + s.size ≤ addresses
  pub sectors_limit : length (sectors s) ≤ 65536
  pub pages_limit : length (pages s) ≤ 1048576
