-- The description of the device in memory (`FlashOS.h`, `struct FlashDevice`): its fields at their offsets, and sector items.
use Rattle.std.specs.Prelude.{ℕ, ◌+◌, ◌-◌, ◌*◌, ◌/◌, ◌==◌, ◌&&◌, nat_lt, min, Bool, List, length, take, drop, map, slice_index, Option, Some, None, Result, Ok}
use Rattle.std.specs.Prelude.{Err, if◌then◌else◌}
use Rattle.std.specs.List.{before_first, range_with_len}
use Rattle.octets.specs.Field.{field16, field32}
use Rattle.elf32.specs.Search.{first_below}
use Rattle.elf32.specs.Strings.{is_zero}
use Rattle.flm_descriptor.specs.declared.fault.FlmFault.{FlmFault}
use Rattle.flm_descriptor.specs.declared.fault.FlmFault.TheVariants.{DescriptorShort, NoSectorEnd}
use Rattle.flm_descriptor.specs.declared.device.Device.{Device}
use Rattle.flm_descriptor.specs.declared.items.SectorItem.{SectorItem}

-- the fields of the structure at a place of the section
unfoldable pub fields_at : List ℕ → ℕ → Device
fields_at bytes at = record {
  vers = field16 bytes at;
  name = before_first is_zero (take 128 (drop (at + 2) bytes));
  kind = field16 bytes (at + 130);
  base = field32 bytes (at + 132);
  size = field32 bytes (at + 136);
  page = field32 bytes (at + 140);
  res = field32 bytes (at + 144);
  empty = slice_index bytes (at + 148);
  to_prog = field32 bytes (at + 152);
  to_erase = field32 bytes (at + 156);
}

-- the structure at a place, if its 160 bytes before the sector items are there
unfoldable pub device_of : List ℕ → ℕ → Result Device FlmFault
device_of bytes at = if nat_lt (length bytes) (at + 160) then Err DescriptorShort else Ok (fields_at bytes at)

-- sector item `k` of the structure at a place
unfoldable pub item_at : List ℕ → ℕ → ℕ → SectorItem
item_at bytes at k = record { size = field32 bytes (at + 160 + 8 * k); offset = field32 bytes (at + 164 + 8 * k) }

-- whether pair `k` is SECTOR_END, which ends the items
unfoldable pub is_end : List ℕ → ℕ → ℕ → Bool
is_end bytes at k = ((item_at bytes at k).size == 0xFFFF_FFFF) && ((item_at bytes at k).offset == 0xFFFF_FFFF)

-- how many pairs are looked at: those within the section, up to the one after 512 items (SECTOR_NUM)
abbrev pub pairs : List ℕ → ℕ → ℕ
pairs bytes at = min 513 ((length bytes - (at + 160)) / 8)

-- the items before the first end pair, if there is one
abbrev pub items_before : List ℕ → ℕ → Option ℕ → Result (List SectorItem) FlmFault
items_before bytes at None = Err NoSectorEnd
items_before bytes at (Some n) = Ok (map (item_at bytes at) (range_with_len 0 n))

unfoldable pub items_of : List ℕ → ℕ → Result (List SectorItem) FlmFault
items_of bytes at = items_before bytes at (first_below (is_end bytes at) (pairs bytes at))
