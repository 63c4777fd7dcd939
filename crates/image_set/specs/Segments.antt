-- The image of an ELF file (System V ABI, chapter 5, "Program Header").
use Rattle.std.specs.Prelude.{◌≡◌, ◌⊎◌, ◌≤◌, ◌<◌, ◌^◌, ◌==◌, ◌+◌, ℕ, zero, suc, Bool, true, false, IsTrue, List, [], ◌∷◌, length, Some, None, if◌then◌else◌}
use Rattle.byte_map.specs.Image.{Run, end_of, IsSameMap, AreMaximal}
use Rattle.byte_map.specs.Laying.{AgreesBelow, IsLayFault}
use Rattle.byte_map.specs.declared.fault.LayFault.TheVariants as lay
use Rattle.elf32.specs.declared.fault.ElfFault.{ElfFault}
use Rattle.elf32.specs.declared.fault.ElfFault.TheVariants.{Truncated}
use Rattle.elf32.specs.declared.fault.Field.TheVariants as field
use Rattle.elf32.specs.Format.{e_phnum, segment_at}
use Rattle.elf32.specs.Checks.{is_cut, part, file_fault}
use Rattle.image_set.specs.declared.fault.ImageFault.{ImageFault}
use Rattle.image_set.specs.declared.fault.ImageFault.TheVariants.{NoForm, Hex, Srec, Elf, Conflict, PastEnd, OutsideDevice, EmptyImage, OutOfMemory}

-- PT_LOAD, 1, marks a segment that is loaded
abbrev pub is_loaded : List ℕ → ℕ → Bool
is_loaded bytes k = (segment_at bytes k).kind == 1

-- the p_filesz bytes of segment `k` in the file, as a run from p_paddr on
abbrev pub piece_at : List ℕ → ℕ → Run
piece_at bytes k = record { at = (segment_at bytes k).paddr; bytes = part bytes (segment_at bytes k).offset (segment_at bytes k).filesz }

-- whether the bytes of segment `k` go past the end of the file
abbrev pub is_cut_at : List ℕ → ℕ → Bool
is_cut_at bytes k = is_cut bytes (segment_at bytes k).offset (segment_at bytes k).filesz

-- the bytes of the loaded segments before a place of the table, as runs
abbrev pub pieces_before : List ℕ → ℕ → List Run
pieces_before bytes zero = []
pieces_before bytes (suc k) = if is_loaded bytes k then piece_at bytes k ∷ pieces_before bytes k else pieces_before bytes k

-- how many bytes the loaded segments before a place of the table have
abbrev pub size_before : List ℕ → ℕ → ℕ
size_before bytes zero = 0
size_before bytes (suc k) = if is_loaded bytes k then length (piece_at bytes k).bytes + size_before bytes k else size_before bytes k

-- segment `k` is right: it ends within the file and at 2^32 or below, and agrees with the loaded segments before it
pub record IsRight (bytes : List ℕ) (k : ℕ) : Type 0 where
  pub whole : is_cut_at bytes k ≡ false
  pub fits : end_of (piece_at bytes k) ≤ 2 ^ 32
  pub agrees : AgreesBelow (piece_at bytes k) (pieces_before bytes k) (2 ^ 32)

-- each loaded segment among the first `n` is right
abbrev pub AreRight : List ℕ → ℕ → Type 0
AreRight bytes n = (k : ℕ) → k < n → IsTrue (is_loaded bytes k) → IsRight bytes k

-- the first `n` segments are right, and the image is the union of the loaded ones
pub record IsImageBefore (bytes : List ℕ) (n : ℕ) (image : List Run) : Type 0 where
  pub right : AreRight bytes n
  pub union : IsSameMap image (pieces_before bytes n)
  pub maximal : AreMaximal 0 (2 ^ 32) image

-- the image of an ELF file
pub record IsElfImage (bytes : List ℕ) (image : List Run) : Type 0 where
  pub readable : file_fault bytes ≡ None
  pub segments : IsImageBefore bytes (e_phnum bytes) image

-- why segment `k` is refused, where the segments before it make an image: it goes past the file's end, or else past 2^32,
-- or else it clashes with the image
abbrev pub IsSegmentFault : List ℕ → ℕ → List Run → ImageFault → Type 0
IsSegmentFault bytes k image NoForm = ⊥
IsSegmentFault bytes k image (Hex fault) = ⊥
IsSegmentFault bytes k image (Srec fault) = ⊥
IsSegmentFault bytes k image (Elf fault) = (is_cut_at bytes k ≡ true) × (fault ≡ Truncated field.Segment)
IsSegmentFault bytes k image (Conflict at old new) = (is_cut_at bytes k ≡ false) × IsLayFault (piece_at bytes k) image (lay.Conflict at old new)
IsSegmentFault bytes k image (PastEnd at) = (is_cut_at bytes k ≡ false) × IsLayFault (piece_at bytes k) image (lay.PastEnd at)
IsSegmentFault bytes k image (OutsideDevice at) = ⊥
IsSegmentFault bytes k image EmptyImage = ⊥
IsSegmentFault bytes k image OutOfMemory = Unit {0}

-- why an ELF file is refused by a segment: the first loaded one that isn't right
pub record IsFirstRefused (bytes : List ℕ) (fault : ImageFault) : Type 0 where
  pub readable : file_fault bytes ≡ None
  pub place : ℕ
  pub inside : place < e_phnum bytes
  pub loaded : IsTrue (is_loaded bytes place)
  pub before : AreRight bytes place
  pub refused : IsSegmentFault bytes place (pieces_before bytes place) fault

-- why a file is refused as ELF: a fault of the file itself, or else a refused segment
abbrev pub IsElfFault : List ℕ → ElfFault → Type 0
IsElfFault bytes fault = (file_fault bytes ≡ Some fault) ⊎ IsFirstRefused bytes (Elf fault)
