-- The entries of a file's tables, by name and by index: what a file that was read answers.
use Rattle.std.specs.Prelude.{◌≡◌, ℕ, ◌+◌, ◌*◌, ◌/◌, ◌==◌, ◌&&◌, ◌||◌, not, nat_le, Bool, List, [], Option, Some, None, is_none, Result, Ok, Err, if◌then◌else◌}
use Rattle.std.specs.Option.{option_map}
use Rattle.std.specs.Borrow.{Bor}
use Rattle.elf32.specs.declared.fault.ElfFault.{ElfFault}
use Rattle.elf32.specs.declared.fault.ElfFault.TheVariants.{Truncated, BadIndex, BadName}
use Rattle.elf32.specs.declared.fault.Field.TheVariants as field
use Rattle.elf32.specs.declared.entries.Section.{Section}
use Rattle.elf32.specs.declared.entries.Symbol.{Symbol}
use Rattle.elf32.specs.Search.{first_below}
use Rattle.elf32.specs.Format.{e_shnum, section_at, segment_at, symbol_at, symbol_name_at, symbol_section}
use Rattle.elf32.specs.Strings.{string_at, is_name}
use Rattle.elf32.specs.Checks.{is_cut, part, whole_part, section_name}

-- whether section `k` has this name and type
abbrev pub is_section : List ℕ → List ℕ → ℕ → ℕ → Bool
is_section bytes name kind k = is_name name (section_name bytes k) && (kind == (section_at bytes k).kind)

-- the first section of a name and type
unfoldable pub section_of : List ℕ → List ℕ → ℕ → Option Section
section_of bytes name kind = option_map (section_at bytes) (first_below (is_section bytes name kind) (e_shnum bytes))

-- the bytes of a section; one of type 8, NOBITS, has none in the file
unfoldable pub section_part : List ℕ → Section → Result (List ℕ) ElfFault
section_part bytes section =
    if section.kind == 8 then Ok [] else whole_part bytes field.Section section.offset section.size

-- the bytes of segment `k`
unfoldable pub segment_part : List ℕ → ℕ → Result (List ℕ) ElfFault
segment_part bytes k = whole_part bytes field.Segment (segment_at bytes k).offset (segment_at bytes k).filesz

-- the symbol table: the first section of type 2, SYMTAB
unfoldable pub symbol_table : List ℕ → Option Section
symbol_table bytes = option_map (section_at bytes) (first_below (λ k. (section_at bytes k).kind == 2) (e_shnum bytes))

-- the name of the symbol at a place
abbrev pub symbol_name : List ℕ → List ℕ → ℕ → Option (List ℕ)
symbol_name bytes strings at = string_at strings (symbol_name_at bytes at)

-- whether the symbol at a place has this name and belongs to a section: index 0 marks an undefined symbol
abbrev pub is_symbol : List ℕ → List ℕ → List ℕ → ℕ → Bool
is_symbol bytes strings name at = is_name name (symbol_name bytes strings at) && not (symbol_section bytes at == 0)

-- whether the search for a symbol ends at a place: its name is bad, or it is the symbol searched for
abbrev pub ends_search : List ℕ → List ℕ → List ℕ → ℕ → Bool
ends_search bytes strings name at = is_none (symbol_name bytes strings at) || is_symbol bytes strings name at

-- the answer of a search that ended at a place
abbrev pub symbol_or_fault : List ℕ → List ℕ → ℕ → Result (Option Symbol) ElfFault
symbol_or_fault bytes strings at =
    if is_none (symbol_name bytes strings at) then Err (BadName (symbol_name_at bytes at)) else Ok (Some (symbol_at bytes at))

abbrev pub search_answer : List ℕ → List ℕ → ℕ → Option ℕ → Result (Option Symbol) ElfFault
search_answer bytes strings offset None = Ok None
search_answer bytes strings offset (Some k) = symbol_or_fault bytes strings (offset + 16 * k)

-- the first symbol of a name in a table with entries of 16 bytes; a shorter rest is ignored
unfoldable pub symbol_among : List ℕ → List ℕ → Section → List ℕ → Result (Option Symbol) ElfFault
symbol_among bytes strings table name =
    search_answer bytes strings table.offset (first_below (λ k. ends_search bytes strings name (table.offset + 16 * k)) (table.size / 16))

-- the first symbol of a name in a symbol table; names are in the string table that its section is linked to
unfoldable pub symbol_in : List ℕ → Section → List ℕ → Result (Option Symbol) ElfFault
symbol_in bytes table name =
    if is_cut bytes table.offset table.size then Err (Truncated field.Symbols)
    else if nat_le (e_shnum bytes) table.link then Err (BadIndex field.Link table.link)
    else if is_cut bytes (section_at bytes table.link).offset (section_at bytes table.link).size then Err (Truncated field.Strings)
    else symbol_among bytes (part bytes (section_at bytes table.link).offset (section_at bytes table.link).size) table name

-- the first symbol of a name in the first symbol table; without a table there is none
abbrev pub symbol_from : List ℕ → List ℕ → Option Section → Result (Option Symbol) ElfFault
symbol_from bytes name None = Ok None
symbol_from bytes name (Some table) = symbol_in bytes table name

unfoldable pub symbol_of : List ℕ → List ℕ → Result (Option Symbol) ElfFault
symbol_of bytes name = symbol_from bytes name (symbol_table bytes)

-- a call lends the bytes that are the answer, or refuses as the answer does
abbrev pub Lends : Result (List ℕ) ElfFault → Result (Bor (List ℕ)) ElfFault → Type 0
Lends answer (Ok lent) = answer ≡ Ok lent.now
Lends answer (Err fault) = answer ≡ Err fault
