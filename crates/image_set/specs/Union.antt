-- The union of two images.
use Rattle.std.specs.Prelude.{◌≡◌, ◌≢◌, ◌≤◌, ◌<◌, ◌-◌, ℕ, List, ◌++◌, length, take, Some}
use Rattle.byte_map.specs.Image.{addresses, Run, byte_at, IsSameMap, AreMaximal}
use Rattle.byte_map.specs.declared.fault.LayFault.{LayFault}
use Rattle.byte_map.specs.declared.fault.LayFault.TheVariants as lay
use Rattle.image_set.specs.declared.fault.ImageFault.{ImageFault}
use Rattle.image_set.specs.declared.fault.ImageFault.TheVariants.{NoForm, Hex, Srec, Elf, Conflict, PastEnd, OutsideDevice, EmptyImage, OutOfMemory}

-- two images have equal bytes wherever both have one below an address
abbrev pub AgreeBelow : List Run → List Run → ℕ → Type 0
AgreeBelow image other limit = (a old new : ℕ) → a < limit → byte_at image a ≡ Some old → byte_at other a ≡ Some new → old ≡ new

-- two images agree, and the third is their union, in runs that are each as long as possible
pub record IsUnion (image other union : List Run) : Type 0 where
  pub agree : AgreeBelow image other addresses
  pub same : IsSameMap union (other ++ image)
  pub maximal : AreMaximal 0 addresses union

-- the least address at which two images have unequal bytes
pub record IsLeastClash (image other : List Run) (at old new : ℕ) : Type 0 where
  pub old_is : byte_at image at ≡ Some old
  pub new_is : byte_at other at ≡ Some new
  pub unequal : old ≢ new
  pub first : AgreeBelow image other at

-- why two images have no union: they clash, or out of memory
abbrev pub IsUnionFault : List Run → List Run → ImageFault → Type 0
IsUnionFault image other NoForm = ⊥
IsUnionFault image other (Hex fault) = ⊥
IsUnionFault image other (Srec fault) = ⊥
IsUnionFault image other (Elf fault) = ⊥
IsUnionFault image other (Conflict at old new) = IsLeastClash image other at old new
IsUnionFault image other (PastEnd at) = ⊥
IsUnionFault image other (OutsideDevice at) = ⊥
IsUnionFault image other EmptyImage = ⊥
IsUnionFault image other OutOfMemory = Unit {0}

-- the union of the first runs of two images: `index` runs in all, `old` of them from the first image
pub record IsUnited (image other : List Run) (index old : ℕ) (union : List Run) : Type 0 where
  pub union_is : IsUnion (take old image) (take (index - old) other) union
  pub ordered : old ≤ index
  pub old_within : old ≤ length image
  pub new_within : index - old ≤ length other

-- a clash of two images, seen with the images in the other order
abbrev pub swapped : LayFault → LayFault
swapped (lay.Conflict at old new) = lay.Conflict at new old
swapped (lay.PastEnd at) = lay.PastEnd at
swapped lay.OutOfMemory = lay.OutOfMemory
