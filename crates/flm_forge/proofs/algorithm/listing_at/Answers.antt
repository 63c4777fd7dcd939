-- `listing_at`: that it keeps its contract, and what `items` requires.
use Rattle.std.proofs.Common.{◌≡◌, ◌∙◌, ℕ, List, [], length, get_or, ap, refl, arith}
use Rattle.std.proofs.lemmas.Grind.{common_steps}
use Rattle.std.proofs.lemmas.Option.{slice_get_read}
use Rattle.board_file.specs.declared.region.Region.{Region}
use Rattle.flm_descriptor.specs.declared.fault.Name.{Name}
use Rattle.flm_descriptor.specs.declared.items.SectorItem.{SectorItem}
use Rattle.flm_forge.specs.declared.kind.Kind.{Kind}
use Rattle.flm_forge.specs.declared.source.Listing.{Listing}
use Rattle.flm_forge.specs.Listed.{device_name, hidden_in, items_from, listing_in}
use Rattle.flm_forge.specs.Texts.{lines, text_of}
use Rattle.flm_forge.proofs.RegionLemmas.{sectors_small}
use Rattle.flm_forge.proofs.algorithm.listing_at.Goals as goal

-- a listing from its parts
listed : (number : ℕ) (kind : Kind) (base page : ℕ) (r : Region) (text init_data name : List ℕ) (items : List SectorItem) (hidden : List Name)
    → text ≡ text_of (lines kind base) → init_data ≡ [] → name ≡ device_name kind → items ≡ items_from 0 r.sectors → hidden ≡ hidden_in number kind
    → ◌≡◌ {A = Listing} (record {
      text = text;
      init_data = init_data;
      zero_len = 0;
      name = name;
      base = r.base;
      size = r.size;
      page = page;
      empty = r.empty;
      to_prog = 100;
      to_erase = 500;
      items = items;
      hidden = hidden;
    }) (listing_in number kind base r page)
listed number kind base page r text init_data name items hidden of_text none named of_items of_hidden = rw (of_text, none, named, of_items, of_hidden) refl

pub items-requires : goal.items-requires
items-requires c =
    let regions = c.args.board.now.regions in
    let one = c.index-as_slice-region.result in
    let is : one ≡ get_or regions c.args.region one =
    c.index-as_slice-region.is ∙ ap (λ (rs : List Region). get_or rs c.args.region one) c.as_slice.ensures in
    rw c.as_slice-2.ensures (sectors_small regions c.args.region one c.args.board.now.regions_fit
    (slice_get_read regions (length regions) c.args.region one refl c.requires is))

pub returns : goal.returns
returns c =
    let regions = c.args.board.now.regions in
    let one = c.index-as_slice-region.result in
    let is : one ≡ get_or regions c.args.region one =
    c.index-as_slice-region.is ∙ ap (λ (rs : List Region). get_or rs c.args.region one) c.as_slice.ensures in
    rw (slice_get_read regions (length regions) c.args.region one refl c.requires is)
    (listed c.args.region c.args.kind c.args.board.now.controller_base c.args.page one _ _ _ _ _ c.in_ok-text.ensures
    (c.from_vec.ensures ∙ c.new.ensures.items) (c.in_ok-copy.ensures ∙ c.device_name.ensures)
    (c.in_ok-items.ensures ∙ ap (items_from 0) c.as_slice-2.ensures) c.in_ok-hidden.ensures)

pub same-result-2 : goal.same-result-2
same-result-2 c = grind (arith, common_steps)
