-- Images in ranges of addresses.
use Rattle.std.specs.Prelude.{◌≡◌, ◌≢◌, ◌+◌, ◌≤◌, ◌<◌, ◌&&◌, ℕ, nat_le, nat_lt, Bool, false, IsTrue, List, [], IsSome}
use Rattle.std.specs.List.{list_any}
use Rattle.byte_map.specs.Image.{Run, byte_at}
use Rattle.image_set.specs.declared.fault.ImageFault.{ImageFault}
use Rattle.image_set.specs.declared.fault.ImageFault.TheVariants.{NoForm, Hex, Srec, Elf, Conflict, PastEnd, OutsideDevice, EmptyImage, OutOfMemory}

-- whether an address is in a range, which is a first address and a number of addresses
abbrev pub is_in_range : ℕ × ℕ → ℕ → Bool
is_in_range range a = nat_le range.0 a && nat_lt a (range.0 + range.1)

-- whether an address is in one of some ranges
abbrev pub is_inside : List (ℕ × ℕ) → ℕ → Bool
is_inside ranges a = list_any (λ range. is_in_range range a) ranges

-- an image isn't empty, and each of its addresses is in a range
pub record LiesInside (image : List Run) (ranges : List (ℕ × ℕ)) : Type 0 where
  pub some : image ≢ []
  pub inside : (a : ℕ) → IsSome (byte_at image a) → IsTrue (is_inside ranges a)

-- the least address of an image that is in no range
pub record IsLeastOutside (image : List Run) (ranges : List (ℕ × ℕ)) (at : ℕ) : Type 0 where
  pub held : IsSome (byte_at image at)
  pub outside : is_inside ranges at ≡ false
  pub first : (a : ℕ) → a < at → IsSome (byte_at image a) → IsTrue (is_inside ranges a)

-- the least address from `from` on and below `end` that is in no range
pub record IsOutside (from end : ℕ) (ranges : List (ℕ × ℕ)) (at : ℕ) : Type 0 where
  pub low : from ≤ at
  pub high : at < end
  pub outside : is_inside ranges at ≡ false
  pub first : (a : ℕ) → from ≤ a → a < at → IsTrue (is_inside ranges a)

-- why an image is refused for some ranges: it is empty, or else it has a byte outside them
abbrev pub IsPlaceFault : List Run → List (ℕ × ℕ) → ImageFault → Type 0
IsPlaceFault image ranges NoForm = ⊥
IsPlaceFault image ranges (Hex fault) = ⊥
IsPlaceFault image ranges (Srec fault) = ⊥
IsPlaceFault image ranges (Elf fault) = ⊥
IsPlaceFault image ranges (Conflict at old new) = ⊥
IsPlaceFault image ranges (PastEnd at) = ⊥
IsPlaceFault image ranges (OutsideDevice at) = IsLeastOutside image ranges at
IsPlaceFault image ranges EmptyImage = image ≡ []
IsPlaceFault image ranges OutOfMemory = ⊥
