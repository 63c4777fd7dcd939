-- What an FLM file says, as a function of its bytes: the algorithm, or the first refusal.
use Rattle.std.specs.Prelude.{◌≡◌, ℕ, List, Result, Ok}
use Rattle.std.specs.Option.{option_map}
use Rattle.elf32.specs.Checks.{file_fault}
use Rattle.flm_descriptor.specs.declared.fault.FlmFault.{FlmFault}
use Rattle.flm_descriptor.specs.declared.fault.Name.TheVariants as name
use Rattle.flm_descriptor.specs.declared.device.Device.{Device}
use Rattle.flm_descriptor.specs.declared.items.SectorItem.{SectorItem}
use Rattle.flm_descriptor.specs.declared.parts.Sections.{Sections}
use Rattle.faults.specs.Results.{◌>>=◌}
use Rattle.flm_descriptor.specs.Results.{outer, unless}
use Rattle.flm_descriptor.specs.Shape.{shape}
use Rattle.flm_descriptor.specs.Shown.{Shown}
use Rattle.flm_descriptor.specs.Parts.{Contents, sections_of, contents_of, symbols_of, entries_of, data_places, place_of}
use Rattle.flm_descriptor.specs.Described.{device_of, items_of}
use Rattle.flm_descriptor.specs.Limits.{page_fault, gap_fault, order_fault, size_fault, device_fault}

-- the checks of a device and its sector items, in their order
unfoldable pub limits_of : Device → List SectorItem → Result (Unit {0}) FlmFault
limits_of device items = do
  page ← unless (page_fault device.page)
  gap ← unless (gap_fault items)
  order ← unless (order_fault items)
  size ← unless (size_fault items)
  unless (device_fault device.base (shape device.size device.page items))

-- the device and its sector items, described at an address in the section DevDscr
pub record Described : Type 0 where
  pub device : Device
  pub items : List SectorItem

unfoldable pub described_of : List ℕ → ℕ → Result Described FlmFault
described_of descriptor at = do
  device ← device_of descriptor at
  items ← items_of descriptor at
  lawful ← limits_of device items
  Ok (record { device = device; items = items })

-- the algorithm that some sections and their bytes make
unfoldable pub algorithm_of : List ℕ → Sections → Contents → Result Shown FlmFault
algorithm_of bytes sections contents = do
  symbols ← symbols_of bytes
  entries ← entries_of sections.code symbols
  at ← place_of sections.descriptor name.FlashDevice symbols.device symbols.device
  places ← data_places sections
  described ← described_of contents.descriptor at
  Ok (record {
    code = contents.code;
    init_data = contents.init_data;
    data_at = places.data_at;
    zero_at = places.zero_at;
    zero_len = places.zero_len;
    static_base = places.static_base;
    entries = entries;
    device = described.device;
    items = described.items;
  })

-- what an FLM file says: the algorithm, or the first check that fails
unfoldable pub flm_of : List ℕ → Result Shown FlmFault
flm_of bytes = do
  elf ← unless (option_map outer (file_fault bytes))
  sections ← sections_of bytes
  contents ← contents_of bytes sections
  algorithm_of bytes sections contents

-- the bytes are the FLM file of an algorithm
abbrev pub IsFlm : List ℕ → Shown → Type 0
IsFlm bytes algorithm = flm_of bytes ≡ Ok algorithm
