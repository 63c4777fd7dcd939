-- The image of a file of any form.
use Rattle.std.specs.Prelude.{◌≡◌, ◌≢◌, ℕ, nat_eq, Bool, true, false, List, codes, Option, Some, None}
use Rattle.std.specs.List.{starts_with}
use Rattle.byte_map.specs.Image.{Run}
use Rattle.image_set.specs.declared.fault.ImageFault.TheVariants as image_fault
use Rattle.image_set.specs.Read.{IsImage, IsFault}
use Rattle.image_more.specs.declared.fault.Uf2Fault.TheVariants as uf2_fault
use Rattle.image_more.specs.declared.fault.AnyFault.{AnyFault}
use Rattle.image_more.specs.declared.fault.AnyFault.TheVariants.{Image, Uf2, OutOfMemory}
use Rattle.image_more.specs.Uf2.{IsUf2Image, IsUf2Fault}

-- whether a file is read as UF2: it begins with the first magic number, 0x0A324655, and no address is given for raw bytes
abbrev pub is_uf2 : Option ℕ → List ℕ → Bool
is_uf2 None bytes = starts_with nat_eq bytes (codes "UF2\n")
is_uf2 (Some at) bytes = false

-- the image of a file, read as UF2 or as one of the other forms
abbrev pub IsImageBy : Bool → Option ℕ → List ℕ → List Run → Type 0
IsImageBy true raw_at bytes image = IsUf2Image bytes image
IsImageBy false raw_at bytes image = IsImage raw_at bytes image

abbrev pub IsAnyImage : Option ℕ → List ℕ → List Run → Type 0
IsAnyImage raw_at bytes image = IsImageBy (is_uf2 raw_at bytes) raw_at bytes image

-- why a file of any form is refused
abbrev pub IsAnyFault : Option ℕ → List ℕ → AnyFault → Type 0
IsAnyFault raw_at bytes (Image fault) = (is_uf2 raw_at bytes ≡ false) × IsFault raw_at bytes fault × (fault ≢ image_fault.OutOfMemory)
IsAnyFault raw_at bytes (Uf2 fault) = (is_uf2 raw_at bytes ≡ true) × IsUf2Fault bytes fault × (fault ≢ uf2_fault.OutOfMemory)
IsAnyFault raw_at bytes OutOfMemory = Unit {0}
