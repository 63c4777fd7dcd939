-- The image of a UF2 file, by Microsoft's specification of the USB Flashing Format (UF2), "File format". A file is a list of blocks
-- of 512 bytes. Each has 32-bit little-endian numbers around 476 bytes of data.
use Rattle.std.specs.Prelude.{◌≡◌, ◌≢◌, ◌≤◌, ◌<◌, ◌+◌, ◌*◌, ◌/◌, ◌%◌, ◌==◌, ◌&&◌, ℕ, zero, suc, Bool, true, false, List, [], ◌∷◌, ◌++◌, length, slice_range}
use Rattle.std.specs.Prelude.{if◌then◌else◌}
use Rattle.octets.specs.Field.{field32}
use Rattle.byte_map.specs.Image.{addresses, Run, end_of}
use Rattle.byte_map.specs.Laying.{IsLayFault}
use Rattle.byte_map.specs.declared.fault.LayFault.TheVariants as lay
use Rattle.record_lines.specs.Gathered.{IsUnionOf}
use Rattle.image_more.specs.declared.fault.Uf2Fault.{Uf2Fault}
use Rattle.image_more.specs.declared.fault.Uf2Fault.TheVariants.{BadLength, BadMagic, BadSize, Conflict, PastEnd, OutOfMemory}

-- A block, by the table of its fields.

-- the magic numbers of a block: 0x0A324655 at 0, 0x9E5D5157 at 4 and 0x0AB16F30 at 508
abbrev pub has_magic : List ℕ → Bool
has_magic block = (field32 block 0 == 171066965) && ((field32 block 4 == 2656915799) && (field32 block 508 == 179400496))

-- whether a block isn't for main flash: bit 0 of "Flags", at 8
abbrev pub is_skipped : List ℕ → Bool
is_skipped block = field32 block 8 % 2 == 1

-- the size of the payload: "Number of bytes used in data", at 16
abbrev pub payload_size : List ℕ → ℕ
payload_size block = field32 block 16

-- the payload of a block: the data from 32 on, at the "Address in flash where the data should be written", at 12
abbrev pub payload : List ℕ → Run
payload block = record { at = field32 block 12; bytes = slice_range block 32 (32 + payload_size block) }

-- the runs that a block adds to the image
abbrev pub runs_of : List ℕ → List Run
runs_of block = if is_skipped block then [] else payload block ∷ []

-- A file.

-- a file has one block or more, and nothing else
pub record IsWhole (bytes : List ℕ) : Type 0 where
  pub some : length bytes ≢ 0
  pub whole : length bytes % 512 ≡ 0

abbrev pub block_count : List ℕ → ℕ
block_count bytes = length bytes / 512

-- block `k`, from 0 on
abbrev pub block_at : List ℕ → ℕ → List ℕ
block_at bytes k = slice_range bytes (512 * k) (512 * k + 512)

-- the runs that the blocks before a place add, in turn
abbrev pub runs_before : List ℕ → ℕ → List Run
runs_before bytes zero = []
runs_before bytes (suc k) = runs_before bytes k ++ runs_of (block_at bytes k)

-- a block is right by itself: its magic numbers, the size of its payload and, if it is for main flash, the payload's end
pub record IsRight (block : List ℕ) : Type 0 where
  pub magic : has_magic block ≡ true
  pub size : payload_size block ≤ 476
  pub fits : is_skipped block ≡ false → end_of (payload block) ≤ addresses

-- the first `n` blocks are right, and the image is the union of what they add
pub record IsImageBefore (bytes : List ℕ) (n : ℕ) (image : List Run) : Type 0 where
  pub right : (k : ℕ) → k < n → IsRight (block_at bytes k)
  pub union : IsUnionOf (runs_before bytes n) image

-- the image of a UF2 file
pub record IsUf2Image (bytes : List ℕ) (image : List Run) : Type 0 where
  pub whole : IsWhole bytes
  pub blocks : IsImageBefore bytes (block_count bytes) image

-- a block whose payload is added: its magic numbers and its size are right, and it is for main flash
pub record IsForFlash (block : List ℕ) : Type 0 where
  pub magic : has_magic block ≡ true
  pub size : payload_size block ≤ 476
  pub flash : is_skipped block ≡ false

-- why a block is refused, where the blocks before it have this image. A magic number is wrong, or else its payload is too large,
-- or else it goes past 2^32, or else it clashes with the image.
abbrev pub IsBlockFault : ℕ → List ℕ → List Run → Uf2Fault → Type 0
IsBlockFault number block image (BadLength len) = ⊥
IsBlockFault number block image (BadMagic said) = (said ≡ number) × (has_magic block ≡ false)
IsBlockFault number block image (BadSize said size) = (said ≡ number) × (has_magic block ≡ true) × (size ≡ payload_size block) × (476 < size)
IsBlockFault number block image (Conflict at old new) = IsForFlash block × IsLayFault (payload block) image (lay.Conflict at old new)
IsBlockFault number block image (PastEnd at) = IsForFlash block × IsLayFault (payload block) image (lay.PastEnd at)
IsBlockFault number block image OutOfMemory = Unit {0}

-- why a file is refused by a block: the first one that isn't right with those before it; blocks count from 1
pub record IsFirstRefused (bytes : List ℕ) (fault : Uf2Fault) : Type 0 where
  pub whole : IsWhole bytes
  pub place : ℕ
  pub inside : place < block_count bytes
  pub image : List Run
  pub before : IsImageBefore bytes place image
  pub refused : IsBlockFault (place + 1) (block_at bytes place) image fault

-- why a UF2 file is refused: by its length, or else by a block; out of memory says nothing about the file
abbrev pub IsUf2Fault : List ℕ → Uf2Fault → Type 0
IsUf2Fault bytes (BadLength len) = (len ≡ length bytes) × (IsWhole bytes → ⊥)
IsUf2Fault bytes (BadMagic block) = IsFirstRefused bytes (BadMagic block)
IsUf2Fault bytes (BadSize block size) = IsFirstRefused bytes (BadSize block size)
IsUf2Fault bytes (Conflict at old new) = IsFirstRefused bytes (Conflict at old new)
IsUf2Fault bytes (PastEnd at) = IsFirstRefused bytes (PastEnd at)
IsUf2Fault bytes OutOfMemory = Unit {0}
