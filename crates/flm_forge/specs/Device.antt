-- The description of a listing's device (`FlashOS.h`, `struct FlashDevice`).
use Rattle.std.specs.Prelude.{ℕ, ◌-◌, ◌<◌, ◌^◌, All, List, [], ◌∷◌, ◌++◌, length, take, replicate}
use Rattle.std.specs.List.{flat_map}
use Rattle.flm_descriptor.specs.declared.items.SectorItem.{SectorItem}
use Rattle.flm_forge.specs.declared.source.Listing.{Listing}
use Rattle.flm_forge.specs.Fields.{half_bytes, words_bytes}

-- interface version 1.01 (FLASH_DRV_VERS), and type 1 (ONCHIP)
abbrev pub version : ℕ
version = 0x0101

abbrev pub on_chip : ℕ
on_chip = 1

-- DevName: 128 bytes, with zeros after the name
abbrev pub name_field : List ℕ → List ℕ
name_field text = take 128 text ++ replicate (128 - length text) 0

abbrev pub item_bytes : SectorItem → List ℕ
item_bytes item = words_bytes (item.size ∷ item.offset ∷ [])

-- SECTOR_END: the pair that ends the items
abbrev pub end_pair : SectorItem
end_pair = record { size = 0xFFFF_FFFF; offset = 0xFFFF_FFFF }

-- the fields before the items, with zeros in the three bytes after valEmpty
unfoldable pub device_bytes : Listing → List ℕ
device_bytes l =
    half_bytes version ++ (name_field l.name ++ (half_bytes on_chip ++ (words_bytes (l.base ∷ l.size ∷ l.page ∷ 0 ∷ [])
    ++ (l.empty ∷ 0 ∷ 0 ∷ 0 ∷ words_bytes (l.to_prog ∷ l.to_erase ∷ [])))))

-- the description of the device: the fields, the items and the end pair
unfoldable pub descriptor_bytes : Listing → List ℕ
descriptor_bytes l = device_bytes l ++ (flat_map item_bytes l.items ++ item_bytes end_pair)

-- the numbers of an item fit 32-bit fields
pub record ItemFits (item : SectorItem) : Type 0 where
  pub size : item.size < 2 ^ 32
  pub offset : item.offset < 2 ^ 32

-- the numbers of a listing's device fit 32-bit fields
pub record DeviceFits (l : Listing) : Type 0 where
  pub base : l.base < 2 ^ 32
  pub size : l.size < 2 ^ 32
  pub page : l.page < 2 ^ 32
  pub to_prog : l.to_prog < 2 ^ 32
  pub to_erase : l.to_erase < 2 ^ 32

-- all numbers of a listing's description fit 32-bit fields
pub record ListingFits (l : Listing) : Type 0 where
  pub device : DeviceFits l
  pub items : All ItemFits l.items
