-- What a file must be to be read: the checks in their order. The first check that fails is the answer.
use Rattle.std.specs.Prelude.{◌≡◌, ℕ, ◌+◌, ◌*◌, ◌==◌, ◌&&◌, not, nat_lt, nat_le, nat_eq, Bool, List, length, take, drop, slice_index, Option, Some, None}
use Rattle.std.specs.Prelude.{is_none, Result, Ok, Err, if◌then◌else◌}
use Rattle.std.specs.List.{starts_with}
use Rattle.std.specs.Option.{option_map}
use Rattle.std.specs.Result.{result_ok, result_err}
use Rattle.elf32.specs.declared.fault.ElfFault.{ElfFault}
use Rattle.elf32.specs.declared.fault.ElfFault.TheVariants.{NotElf, NotArm32, Truncated, BadIndex, BadName}
use Rattle.elf32.specs.declared.fault.Field.{Field}
use Rattle.elf32.specs.declared.fault.Field.TheVariants as field
use Rattle.elf32.specs.Search.{first_below}
use Rattle.elf32.specs.Format.{magic, e_machine, e_phoff, e_shoff, e_phentsize, e_phnum, e_shentsize, e_shnum, e_shstrndx, section_at, section_name_at}
use Rattle.elf32.specs.Strings.{name_in}

-- whether `size` bytes of a file from `offset` on go past its end
abbrev pub is_cut : List ℕ → ℕ → ℕ → Bool
is_cut bytes offset size = nat_lt (length bytes) (offset + size)

-- the bytes of a part of a file
abbrev pub part : List ℕ → ℕ → ℕ → List ℕ
part bytes offset size = take size (drop offset bytes)

-- the bytes of a part of a file; if it goes past the file's end, a refusal that names the part
unfoldable pub whole_part : List ℕ → Field → ℕ → ℕ → Result (List ℕ) ElfFault
whole_part bytes named offset size = if is_cut bytes offset size then Err (Truncated named) else Ok (part bytes offset size)

-- the file is of class 1 (32 bits), data 1 (little-endian), version 1 and machine 40 (Arm)
abbrev pub is_arm32 : List ℕ → Bool
is_arm32 bytes = (slice_index bytes 4 == 1) && (slice_index bytes 5 == 1) && (slice_index bytes 6 == 1) && (e_machine bytes == 40)

-- the fault of the ELF header, which has 52 bytes, if it has one
unfoldable pub header_fault : List ℕ → Option ElfFault
header_fault bytes =
    if not (starts_with nat_eq bytes magic) then Some NotElf
    else if nat_lt (length bytes) 52 then Some (Truncated field.Header)
    else if not (is_arm32 bytes) then Some NotArm32
    else None

-- the fault of an entry size, if one is wrong; it is checked only where there are entries
unfoldable pub size_fault : List ℕ → Option ElfFault
size_fault bytes =
    if not (e_phnum bytes == 0) && not (e_phentsize bytes == 32) then Some (BadIndex field.ProgramSize (e_phentsize bytes))
    else if not (e_shnum bytes == 0) && not (e_shentsize bytes == 40) then Some (BadIndex field.SectionSize (e_shentsize bytes))
    else None

-- the fault of a table that goes past the end of the file, even if it is empty
unfoldable pub table_fault : List ℕ → Option ElfFault
table_fault bytes =
    if is_cut bytes (e_phoff bytes) (32 * e_phnum bytes) then Some (Truncated field.Programs)
    else if is_cut bytes (e_shoff bytes) (40 * e_shnum bytes) then Some (Truncated field.Sections)
    else None

-- whether there is a string table of section names: index 0 means none
abbrev pub has_names : List ℕ → Bool
has_names bytes = not (e_shnum bytes == 0) && not (e_shstrndx bytes == 0)

-- the bytes of the string table of section names
abbrev pub names_part : List ℕ → Result (List ℕ) ElfFault
names_part bytes =
    whole_part bytes field.Names (section_at bytes (e_shstrndx bytes)).offset (section_at bytes (e_shstrndx bytes)).size

-- the fault of the index of the section that holds the section names, or of its bytes
unfoldable pub index_fault : List ℕ → Option ElfFault
index_fault bytes =
    if not (e_shnum bytes == 0) && nat_le (e_shnum bytes) (e_shstrndx bytes) then Some (BadIndex field.NameIndex (e_shstrndx bytes))
    else if has_names bytes then result_err (names_part bytes)
    else None

-- the string table of section names, if there is one
unfoldable pub section_names : List ℕ → Option (List ℕ)
section_names bytes = if has_names bytes then result_ok (names_part bytes) else None

-- the name of section `k`; there is none where it begins outside its string table or has no end there
unfoldable pub section_name : List ℕ → ℕ → Option (List ℕ)
section_name bytes k = name_in (section_names bytes) (section_name_at bytes k)

-- the fault of the first section with a bad name
unfoldable pub name_fault : List ℕ → Option ElfFault
name_fault bytes =
    option_map (λ k. BadName (section_name_at bytes k)) (first_below (λ k. is_none (section_name bytes k)) (e_shnum bytes))

-- a call that checks for a fault: it refuses with exactly this one
abbrev pub Finds : {T : Type 0} → Option ElfFault → Result T ElfFault → Type 0
Finds fault (Ok value) = fault ≡ None
Finds fault (Err refusal) = fault ≡ Some refusal

-- the first of two faults
abbrev pub first_fault : Option ElfFault → Option ElfFault → Option ElfFault
first_fault (Some fault) later = Some fault
first_fault None later = later

-- the fault of a file: that of the first check that fails; there is none where the file can be read
unfoldable pub file_fault : List ℕ → Option ElfFault
file_fault bytes =
    first_fault (header_fault bytes) (first_fault (size_fault bytes) (first_fault (table_fault bytes)
    (first_fault (index_fault bytes) (name_fault bytes))))
