-- The number that a little-endian field of some bytes holds (System V ABI, chapter 4, "Data Representation").
use Rattle.std.specs.Prelude.{ℕ, ◌^◌, List, drop, take}
use Rattle.std.specs.Int.{w16, w32, from_le_bytes}

-- how many numbers a 32-bit field can hold
abbrev pub words : ℕ
words = 2 ^ 32

-- the 16-bit field at a place: an Elf32_Half
unfoldable pub half : List ℕ → ℕ → ℕ
half bytes at = from_le_bytes w16 (take 2 (drop at bytes))

-- the 32-bit field at a place: an Elf32_Word, Elf32_Addr or Elf32_Off
unfoldable pub word : List ℕ → ℕ → ℕ
word bytes at = from_le_bytes w32 (take 4 (drop at bytes))
