-- Where each part of a file is.
use Rattle.std.proofs.Common.{◌≡◌, ℕ, ◌+◌, ◌-◌, ◌*◌, List, [], ◌∷◌, ◌++◌, length, take, refl, sym, ◌∙◌, arith}
use Rattle.std.specs.Prelude.{replicate}
use Rattle.std.specs.List.{flat_map}
use Rattle.std.proofs.lemmas.List.{length-append, length-take}
use Rattle.std.proofs.lemmas.List.{length-replicate}
use Rattle.armv6m_asm.specs.declared.code.Code.{Code}
use Rattle.flm_descriptor.specs.declared.items.SectorItem.{SectorItem}
use Rattle.flm_forge.specs.declared.sizes.Sizes.{Sizes}
use Rattle.flm_forge.specs.declared.source.Listing.{Listing}
use Rattle.flm_forge.specs.declared.symbol.SymbolEntry.{SymbolEntry}
use Rattle.flm_forge.specs.Device.{device_bytes, descriptor_bytes, end_pair, item_bytes, name_field, on_chip, version}
use Rattle.flm_forge.specs.Fields.{half_bytes, words_bytes}
use Rattle.flm_forge.specs.File.{file_of, sizes_of, symbols}
use Rattle.flm_forge.specs.Places.{code_at, init_data_at, descriptor_at, headers_at, end_of}
use Rattle.flm_forge.specs.Sections.{elf_header, header_bytes, headers, section_names}
use Rattle.flm_forge.specs.Symbols.{symbol_names, symbol_bytes}
use Rattle.flm_forge.proofs.PlaceLemmas.{Stands, stands_whole, stands_moved, stands_left, stands_right, length-items}
use Rattle.flm_forge.proofs.HeaderLemmas.{length-elf_header}

-- the parts of a file are where the sizes say
pub record IsLaidOut (file : List ℕ) (s : Sizes) (all : List SymbolEntry) (code init_data descriptor : List ℕ) : Type 0 where
  pub rest : List ℕ
  pub header : file ≡ elf_header (headers_at s) ++ rest
  pub at_symbol_names : Stands file symbol_names 52
  pub at_section_names : Stands file section_names 120
  pub at_symbols : Stands file (flat_map symbol_bytes all) 172
  pub at_code : Stands file code (code_at s)
  pub at_init_data : Stands file init_data (init_data_at s)
  pub at_descriptor : Stands file descriptor (descriptor_at s)
  pub at_headers : Stands file (flat_map header_bytes (headers s)) (headers_at s)
  pub ends : length file ≡ end_of s
  pub symbols_len : s.symbols ≡ 16 * length all
  pub code_len : s.code ≡ length code
  pub init_data_len : s.init_data ≡ length init_data
  pub descriptor_len : s.descriptor ≡ length descriptor

pub symbol_wide : (s : SymbolEntry) → length (symbol_bytes s) ≡ 16
unfolding symbol_bytes
symbol_wide s = refl

pub item_wide : (item : SectorItem) → length (item_bytes item) ≡ 8
item_wide item = refl

length-symbol_names : length symbol_names ≡ 68
unfolding symbol_names
length-symbol_names = refl

length-section_names : length section_names ≡ 52
unfolding section_names
length-section_names = refl

length-headers : (s : Sizes) → length (flat_map header_bytes (headers s)) ≡ 320
unfolding headers header_bytes
length-headers s = refl

zeros_long : (n : ℕ) → length (let r : List ℕ = replicate n 0 in r) ≡ n
zeros_long n = length-replicate n (let z : ℕ = 0 in z)

pub length-name_field : (text : List ℕ) → length (name_field text) ≡ 128
length-name_field text =
    let zeros = zeros_long (128 - length text) in
    length-append (take 128 text) (replicate (128 - length text) 0) ∙ omega (arith, length-take 128 text, zeros)

-- the bytes after the name
abbrev pub behind_name : Listing → List ℕ
behind_name l =
    half_bytes on_chip ++ (words_bytes (l.base ∷ l.size ∷ l.page ∷ 0 ∷ []) ++ (l.empty ∷ 0 ∷ 0 ∷ 0 ∷ words_bytes (l.to_prog ∷ l.to_erase ∷ [])))

length-behind_name : (l : Listing) → length (behind_name l) ≡ 30
length-behind_name l = refl

pub length-device_bytes : (l : Listing) → length (device_bytes l) ≡ 160
unfolding device_bytes
length-device_bytes l =
    let long : length (half_bytes version ++ (name_field l.name ++ behind_name l)) ≡ 2 + length (name_field l.name ++ behind_name l) =
    length-append (half_bytes version) (name_field l.name ++ behind_name l) in
    long ∙ omega (arith, length-append (name_field l.name) (behind_name l), length-name_field l.name, length-behind_name l)

pub length-descriptor : (l : Listing) → length (descriptor_bytes l) ≡ 168 + 8 * length l.items
unfolding descriptor_bytes
length-descriptor l =
    omega (
      arith,
      length-append (device_bytes l) (flat_map item_bytes l.items ++ item_bytes end_pair),
      length-append (flat_map item_bytes l.items) (item_bytes end_pair),
      length-device_bytes l,
      length-items item_bytes 8 item_wide l.items,
      item_wide end_pair,
    )

pub laid_out : (l : Listing) (code : Code)
    → IsLaidOut (file_of l code) (sizes_of l code) (symbols l code) code.bytes l.init_data (descriptor_bytes l)
unfolding file_of
laid_out l code =
    let s = sizes_of l code in
    let all = symbols l code in
    let p7 = flat_map header_bytes (headers s) in
    let p6 = descriptor_bytes l ++ p7 in
    let p5 = l.init_data ++ p6 in
    let p4 = code.bytes ++ p5 in
    let p3 = flat_map symbol_bytes all ++ p4 in
    let p2 = section_names ++ p3 in
    let p1 = symbol_names ++ p2 in
    let header = elf_header (headers_at s) in
    let file = header ++ p1 in
    let s1 = stands_moved file p1 (0 + length header) 52 (stands_right file header p1 0 (stands_whole file))
    (omega (arith, length-elf_header (headers_at s))) in
    let s2 = stands_moved file p2 (52 + length symbol_names) 120 (stands_right file symbol_names p2 52 s1) (omega (arith, length-symbol_names)) in
    let s3 = stands_moved file p3 (120 + length section_names) 172 (stands_right file section_names p3 120 s2) (omega (arith, length-section_names)) in
    let wide : length (flat_map symbol_bytes all) ≡ 16 * length all = length-items symbol_bytes 16 symbol_wide all in
    let counted : s.symbols ≡ 16 * length all = omega arith in
    let s4 = stands_moved file p4 (172 + length (flat_map symbol_bytes all)) (code_at s) (stands_right file (flat_map symbol_bytes all) p4 172 s3)
    (omega (arith, wide, counted)) in
    let s5 = stands_right file code.bytes p5 (code_at s) s4 in
    let s6 = stands_right file l.init_data p6 (init_data_at s) s5 in
    let s7 = stands_moved file p7 (descriptor_at s + length (descriptor_bytes l)) (headers_at s)
    (stands_right file (descriptor_bytes l) p7 (descriptor_at s) s6) (omega (arith, length-descriptor l)) in
    record {
      rest = p1;
      header = refl;
      at_symbol_names = stands_left file symbol_names p2 52 s1;
      at_section_names = stands_left file section_names p3 120 s2;
      at_symbols = stands_left file (flat_map symbol_bytes all) p4 172 s3;
      at_code = stands_left file code.bytes p5 (code_at s) s4;
      at_init_data = stands_left file l.init_data p6 (init_data_at s) s5;
      at_descriptor = stands_left file (descriptor_bytes l) p7 (descriptor_at s) s6;
      at_headers = s7;
      ends = omega (
        arith,
        length-append header p1,
        length-append symbol_names p2,
        length-append section_names p3,
        length-append (flat_map symbol_bytes all) p4,
        length-append code.bytes p5,
        length-append l.init_data p6,
        length-append (descriptor_bytes l) p7,
        length-elf_header (headers_at s),
        length-symbol_names,
        length-section_names,
        wide,
        counted,
        length-descriptor l,
        length-headers s,
      );
      symbols_len = counted;
      code_len = refl;
      init_data_len = refl;
      descriptor_len = sym (length-descriptor l);
    }
