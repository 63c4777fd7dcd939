-- `file`: its clauses `bytes` and `listing_fits`, and what `put_headers` requires.
use Rattle.std.proofs.Common.{◌≡◌, ◌++◌, ℕ, List, ap, ◌∙◌}
use Rattle.std.specs.List.{flat_map}
use Rattle.flm_forge.specs.declared.sizes.Sizes.{Sizes}
use Rattle.flm_forge.specs.declared.symbol.SymbolEntry.{SymbolEntry}
use Rattle.flm_forge.specs.Device.{descriptor_bytes}
use Rattle.flm_forge.specs.File.{file_of, sizes_of}
use Rattle.flm_forge.specs.Places.{headers_at, descriptor_addr}
use Rattle.flm_forge.specs.Sections.{elf_header, section_names, header_bytes, headers}
use Rattle.flm_forge.specs.Symbols.{symbol_names, symbol_bytes, no_symbol, device_symbol, entry_symbols}
use Rattle.flm_forge.proofs.WriteLemmas.{ten_parts}
use Rattle.flm_forge.proofs.file.file.Goals as goal

pub returns-clause-bytes : goal.returns-clause-bytes
unfolding file_of symbol_names section_names
returns-clause-bytes c =
    let l = c.args.listing.now in
    let code = c.args.code.now in
    let s = sizes_of l code in
    let device = device_symbol (descriptor_addr s) s.descriptor in
    let shown = entry_symbols code.labels l.hidden in
    let at : c.headers_at.result ≡ headers_at s = c.headers_at.ensures ∙ ap headers_at c.requires.sizes_are in
    let e1 : c.put_elf_header.new.out.items ≡ elf_header (headers_at s) =
    c.in_ok-put_elf_header.ensures ∙ ap (λ (r : List ℕ). r ++ elf_header c.headers_at.result) c.new-out.ensures.items ∙ ap elf_header at in
    let is : c.device_symbol.result ≡ device =
    c.device_symbol.ensures ∙ ap (λ (n : ℕ). device_symbol n c.args.sizes.now.descriptor) c.descriptor_addr.ensures
    ∙ ap (λ (z : Sizes). device_symbol (descriptor_addr z) z.descriptor) c.requires.sizes_are in
    let e5 = c.in_ok-put_symbol-2.ensures ∙ ap (λ (e : SymbolEntry). c.put_symbol.new.out.items ++ symbol_bytes e) is in
    let e6 = c.in_ok-put_symbols.ensures ∙ ap (λ (es : List SymbolEntry). c.put_symbol-2.new.out.items ++ flat_map symbol_bytes es) c.requires.symbols_are in
    let e7 = c.in_ok-put-3.ensures ∙ ap (λ (t : List ℕ). c.put_symbols.new.out.items ++ t) c.bytes.ensures in
    let e8 = c.in_ok-put-4.ensures ∙ ap (λ (t : List ℕ). c.put-3.new.out.items ++ t) c.bytes-2.ensures in
    let e10 = c.in_ok-put_headers.ensures ∙ ap (λ (z : Sizes). c.put_descriptor.new.out.items ++ flat_map header_bytes (headers z)) c.requires.sizes_are in
    c.from_vec.ensures
    ∙ ten_parts (elf_header (headers_at s)) symbol_names section_names (symbol_bytes no_symbol) (symbol_bytes device) (flat_map symbol_bytes shown)
    code.bytes l.init_data (descriptor_bytes l) (flat_map header_bytes (headers s))
    c.put_elf_header.new.out.items c.put.new.out.items c.put-2.new.out.items c.put_symbol.new.out.items c.put_symbol-2.new.out.items c.put_symbols.new.out.items
    c.put-3.new.out.items c.put-4.new.out.items c.put_descriptor.new.out.items c.put_headers.new.out.items
    e1 c.in_ok-put.ensures c.in_ok-put-2.ensures c.in_ok-put_symbol.ensures e5 e6 e7 e8 c.in_ok-put_descriptor.ensures.bytes e10

pub returns-clause-listing_fits : goal.returns-clause-listing_fits
returns-clause-listing_fits c = c.in_ok-put_descriptor.ensures.fits

pub put_headers-requires : goal.put_headers-requires
put_headers-requires c = c.requires.fits
