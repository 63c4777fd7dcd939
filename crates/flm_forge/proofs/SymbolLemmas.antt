-- What a reader finds of the symbols of a made file.
use Rattle.std.proofs.Common.{◌≡◌, ℕ, suc, ◌+◌, ◌*◌, ◌/◌, ◌<◌, ◌≤◌, ◌^◌, Bool, true, false, cond, List, [], ◌∷◌, ◌++◌, length, get_or, Option, Some, None}
use Rattle.std.proofs.Common.{Result, Ok, Err, refl, sym, ap, ◌∙◌, arith}
use Rattle.std.specs.Prelude.{◌==◌, ◌&&◌, ◌||◌, not, All, is_none}
use Rattle.std.specs.Option.{option_map}
use Rattle.std.specs.List.{flat_map}
use Rattle.std.proofs.lemmas.List.Elements.{All-get_or}
use Rattle.std.proofs.lemmas.Nat.{from_le_bytes-to_le_bytes_2, from_le_bytes-to_le_bytes_4}
use Rattle.elf32.specs.declared.entries.Symbol.{Symbol}
use Rattle.elf32.specs.declared.fault.ElfFault.{ElfFault}
use Rattle.elf32.specs.declared.fault.ElfFault.TheVariants.{BadName}
use Rattle.elf32.specs.Search.{first_below}
use Rattle.elf32.specs.Fields.{half, word}
use Rattle.elf32.specs.Format.{section_at, symbol_at, symbol_name_at, symbol_section}
use Rattle.elf32.specs.Strings.{is_name, string_at}
use Rattle.elf32.specs.Checks.{part}
use Rattle.elf32.specs.Tables as tables
use Rattle.elf32.proofs.SearchLemmas.{first_below-zero}
use Rattle.flm_forge.specs.declared.symbol.SymbolEntry.{SymbolEntry}
use Rattle.flm_forge.specs.Sections.{headers, no_section, symbols_header, symbol_names_header}
use Rattle.flm_forge.specs.Symbols.{symbol_bytes, symbol_names}
use Rattle.flm_forge.proofs.PlaceLemmas.{Stands, stands_left, stands_right, stands_word, stands_first, stands_half, stands_part, stands_inside, length-items}
use Rattle.flm_forge.proofs.SearchLemmas.{first_below-same, first_below-shift}
use Rattle.flm_forge.proofs.StringLemmas.{finds_symbols}
use Rattle.flm_forge.proofs.HeaderLemmas.{not_below, read_header}
use Rattle.flm_forge.proofs.LayoutLemmas.{symbol_wide}
use Rattle.flm_forge.proofs.SectionLemmas.{Made, SymbolFits, facts_of, section_is, found_table}

-- ---- the fields of a symbol

abbrev pub read_symbol : SymbolEntry → Symbol
read_symbol e = record { value = e.value; size = e.size }

name_field_is : (e : SymbolEntry) (rest : List ℕ) → e.name < 2 ^ 32 → word (symbol_bytes e ++ rest) 0 ≡ e.name
unfolding word symbol_bytes
name_field_is e rest fits = from_le_bytes-to_le_bytes_4 e.name fits

value_field_is : (e : SymbolEntry) (rest : List ℕ) → e.value < 2 ^ 32 → word (symbol_bytes e ++ rest) 4 ≡ e.value
unfolding word symbol_bytes
value_field_is e rest fits = from_le_bytes-to_le_bytes_4 e.value fits

size_field_is : (e : SymbolEntry) (rest : List ℕ) → e.size < 2 ^ 32 → word (symbol_bytes e ++ rest) 8 ≡ e.size
unfolding word symbol_bytes
size_field_is e rest fits = from_le_bytes-to_le_bytes_4 e.size fits

section_field_is : (e : SymbolEntry) (rest : List ℕ) → e.section < 2 ^ 16 → half (symbol_bytes e ++ rest) 14 ≡ e.section
unfolding half symbol_bytes
section_field_is e rest fits = from_le_bytes-to_le_bytes_2 e.section fits

name_read : (bytes : List ℕ) (e : SymbolEntry) (at : ℕ) → Stands bytes (symbol_bytes e) at → SymbolFits e → symbol_name_at bytes at ≡ e.name
unfolding symbol_name_at
name_read bytes e at s fits = stands_first bytes (symbol_bytes e) at s ∙ name_field_is e s.rest fits.name

section_read : (bytes : List ℕ) (e : SymbolEntry) (at : ℕ) → Stands bytes (symbol_bytes e) at → SymbolFits e → symbol_section bytes at ≡ e.section
unfolding symbol_section
section_read bytes e at s fits = stands_half bytes (symbol_bytes e) at 14 s ∙ section_field_is e s.rest fits.section

symbol_read : (bytes : List ℕ) (e : SymbolEntry) (at : ℕ) → Stands bytes (symbol_bytes e) at → SymbolFits e → symbol_at bytes at ≡ read_symbol e
unfolding symbol_at
symbol_read bytes e at s fits =
    let value = stands_word bytes (symbol_bytes e) at 4 s ∙ value_field_is e s.rest fits.value in
    let size = stands_word bytes (symbol_bytes e) at 8 s ∙ size_field_is e s.rest fits.size in
    rw (value, size) refl

-- ---- the search

-- whether the search for a name ends at a symbol
abbrev pub ends_at : List ℕ → SymbolEntry → Bool
ends_at text e = is_none (string_at symbol_names e.name) || (is_name text (string_at symbol_names e.name) && not (e.section == 0))

abbrev pub answer_at : SymbolEntry → Result (Option Symbol) ElfFault
answer_at e = cond (is_none (string_at symbol_names e.name)) (Err (BadName e.name)) (Ok (Some (read_symbol e)))

-- the answer of a search among some symbols
abbrev pub found_among : List ℕ → List SymbolEntry → Result (Option Symbol) ElfFault
found_among text [] = Ok None
found_among text (e ∷ es) = cond (ends_at text e) (answer_at e) (found_among text es)

ends_read : (bytes text : List ℕ) (e : SymbolEntry) (at : ℕ) → Stands bytes (symbol_bytes e) at → SymbolFits e
    → tables.ends_search bytes symbol_names text at ≡ ends_at text e
ends_read bytes text e at s fits =
    ap (λ (n : ℕ). is_none (string_at symbol_names n) || (is_name text (string_at symbol_names n) && not (symbol_section bytes at == 0)))
    (name_read bytes e at s fits)
    ∙ ap (λ (n : ℕ). is_none (string_at symbol_names e.name) || (is_name text (string_at symbol_names e.name) && not (n == 0)))
    (section_read bytes e at s fits)

answer_read : (bytes : List ℕ) (e : SymbolEntry) (at : ℕ) → Stands bytes (symbol_bytes e) at → SymbolFits e
    → tables.symbol_or_fault bytes symbol_names at ≡ answer_at e
answer_read bytes e at s fits =
    ap (λ (n : ℕ). cond (is_none (string_at symbol_names n)) (Err (BadName n)) (Ok (Some (symbol_at bytes at)))) (name_read bytes e at s fits)
    ∙ ap (λ found. cond (is_none (string_at symbol_names e.name)) (Err (BadName e.name)) (Ok (Some found))) (symbol_read bytes e at s fits)

-- the answer of a search that continues one symbol later
answer_later : (bytes : List ℕ) (at : ℕ) (o : Option ℕ)
    → tables.search_answer bytes symbol_names at (option_map (λ k. suc k) o) ≡ tables.search_answer bytes symbol_names (at + 16) o
answer_later bytes at None = refl
answer_later bytes at (Some k) =
    let e : at + 16 * suc k ≡ at + 16 + 16 * k = omega arith in ap (tables.symbol_or_fault bytes symbol_names) e

searched : (bytes text : List ℕ) (at : ℕ) (es : List SymbolEntry) → Stands bytes (flat_map symbol_bytes es) at → All SymbolFits es
    → tables.search_answer bytes symbol_names at (first_below (λ k. tables.ends_search bytes symbol_names text (at + 16 * k)) (length es))
    ≡ found_among text es
searched bytes text at [] s fit =
    ap (tables.search_answer bytes symbol_names at) (first_below-zero (λ k. tables.ends_search bytes symbol_names text (at + 16 * k)))
searched bytes text at (e ∷ es) s fit =
    let n = length es in
    let test = λ (k : ℕ). tables.ends_search bytes symbol_names text (at + 16 * k) in
    let next = λ (k : ℕ). tables.ends_search bytes symbol_names text (at + 16 + 16 * k) in
    let here : Stands bytes (symbol_bytes e) at = stands_left bytes (symbol_bytes e) (flat_map symbol_bytes es) at s in
    let behind : Stands bytes (flat_map symbol_bytes es) (at + 16) =
    rw (symbol_wide e) at (stands_right bytes (symbol_bytes e) (flat_map symbol_bytes es) at s) in
    let fits : SymbolFits e = All-get_or SymbolFits (e ∷ es) 0 e (omega arith) fit in
    let rest_fit : All SymbolFits es = λ k d less. fit (suc k) d (omega arith) in
    let same : (k : ℕ) → k < n → test (suc k) ≡ next k = λ k less.
    let m : at + 16 * suc k ≡ at + 16 + 16 * k = omega arith in ap (tables.ends_search bytes symbol_names text) m in
    let zero_is : at + 16 * 0 ≡ at = omega arith in
    let first : test 0 ≡ ends_at text e = ap (tables.ends_search bytes symbol_names text) zero_is ∙ ends_read bytes text e at here fits in
    let answered : tables.symbol_or_fault bytes symbol_names (at + 16 * 0) ≡ answer_at e =
    ap (tables.symbol_or_fault bytes symbol_names) zero_is ∙ answer_read bytes e at here fits in
    let later : tables.search_answer bytes symbol_names at (option_map (λ k. suc k) (first_below (λ k. test (suc k)) n)) ≡ found_among text es =
    answer_later bytes at (first_below (λ k. test (suc k)) n)
    ∙ ap (tables.search_answer bytes symbol_names (at + 16)) (first_below-same (λ k. test (suc k)) next n same)
    ∙ searched bytes text (at + 16) es behind rest_fit in
    ap (tables.search_answer bytes symbol_names at) (first_below-shift test n)
    ∙ ap (λ b. tables.search_answer bytes symbol_names at (cond b (Some 0) (option_map (λ k. suc k) (first_below (λ k. test (suc k)) n)))) first
    ∙ elim (ends_at text e) as (λ b. tables.search_answer bytes symbol_names at (cond b (Some 0) (option_map (λ k. suc k) (first_below (λ k. test (suc k)) n)))
    ≡ cond b (answer_at e) (found_among text es)) [ true ↦ answered | false ↦ later ]

-- ---- the symbols of a file

header_five : (m : Made) → read_header (get_or (headers m.sizes) 5 no_section) ≡ read_header (symbols_header m.sizes)
unfolding headers
header_five m = refl

header_six : (m : Made) → read_header (get_or (headers m.sizes) 6 no_section) ≡ read_header symbol_names_header
unfolding headers
header_six m = refl

length-names : length symbol_names ≡ 68
unfolding symbol_names
length-names = refl

among_all : (m : Made) (text : List ℕ)
    → tables.symbol_among m.file symbol_names (read_header (symbols_header m.sizes)) text ≡ found_among text m.all
unfolding tables.symbol_among
among_all m text =
    let count : m.sizes.symbols / 16 ≡ length m.all = omega (arith, m.laid.symbols_len) in
    let test = λ (k : ℕ). tables.ends_search m.file symbol_names text (172 + 16 * k) in
    ap (λ (n : ℕ). tables.search_answer m.file symbol_names 172 (first_below test n)) count
    ∙ searched m.file text 172 m.all m.laid.at_symbols m.symbols_fit

names_part : (m : Made) → part m.file 52 68 ≡ symbol_names
names_part m = ap (λ (n : ℕ). part m.file 52 n) (sym length-names) ∙ stands_part m.file symbol_names 52 m.laid.at_symbol_names

in_table : (m : Made) (text : List ℕ) → tables.symbol_in m.file (read_header (symbols_header m.sizes)) text ≡ found_among text m.all
unfolding tables.symbol_in
in_table m text =
    let six : section_at m.file 6 ≡ read_header symbol_names_header = section_is m 6 (omega arith) ∙ header_six m in
    let names = names_part m in
    let names_end : 52 + 68 ≤ length m.file = omega (arith, stands_inside m.file symbol_names 52 m.laid.at_symbol_names, length-names) in
    let symbols_end : 172 + m.sizes.symbols ≤ length m.file =
    omega (
      arith,
      stands_inside m.file (flat_map symbol_bytes m.all) 172 m.laid.at_symbols,
      length-items symbol_bytes 16 symbol_wide m.all,
      m.laid.symbols_len,
    ) in
    rw (not_below (length m.file) (172 + m.sizes.symbols) symbols_end, (facts_of m).shnum, six, not_below (length m.file) (52 + 68) names_end, names)
    (among_all m text)

pub symbol_is : (m : Made) (text : List ℕ) → tables.symbol_of m.file text ≡ found_among text m.all
unfolding tables.symbol_of
symbol_is m text =
    ap (tables.symbol_from m.file text) (found_table m 5 (omega arith) finds_symbols ∙ ap Some (header_five m)) ∙ in_table m text
