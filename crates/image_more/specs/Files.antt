-- The union of the images of files, one after another.
use Rattle.std.specs.Prelude.{◌≡◌, ◌<◌, ℕ, zero, suc, List, [], get_or, Option, Some}
use Rattle.byte_map.specs.Image.{Run, byte_at}
use Rattle.image_set.specs.Union.{IsUnion}
use Rattle.image_more.specs.Any.{IsAnyImage}

-- the union of the images before a file and the file's own image
pub record IsNextUnion (IsBefore : List Run → Type 0) (raw_at : Option ℕ) (file : List ℕ) (whole : List Run) : Type 0 where
  pub before : List Run
  pub image : List Run
  pub is_before : IsBefore before
  pub is_image : IsAnyImage raw_at file image
  pub union : IsUnion before image whole

-- the union of the images of the first `n` files
abbrev pub IsUnionBefore : Option ℕ → List (List ℕ) → ℕ → List Run → Type 0
IsUnionBefore raw_at files zero whole = whole ≡ []
IsUnionBefore raw_at files (suc n) whole = IsNextUnion (IsUnionBefore raw_at files n) raw_at (get_or files n []) whole

-- one of the first `n` files has an image with this byte at this address
pub record HasByte (raw_at : Option ℕ) (files : List (List ℕ)) (n a byte : ℕ) : Type 0 where
  pub place : ℕ
  pub inside : place < n
  pub image : List Run
  pub is_image : IsAnyImage raw_at (get_or files place []) image
  pub byte_is : byte_at image a ≡ Some byte
