-- The listings of the algorithms A1 to A7 and F1 for a region of a board.
use Rattle.std.specs.Prelude.{ℕ, ◌+◌, ◌*◌, nat_eq, List, [], ◌∷◌, ◌++◌, codes, if◌then◌else◌}
use Rattle.board_file.specs.declared.region.Region.{Region}
use Rattle.board_file.specs.declared.sectors.SectorRun.{SectorRun}
use Rattle.flm_descriptor.specs.declared.fault.Name.{Name}
use Rattle.flm_descriptor.specs.declared.fault.Name.TheVariants.{EraseChip, Verify}
use Rattle.flm_descriptor.specs.declared.items.SectorItem.{SectorItem}
use Rattle.flm_forge.specs.declared.kind.Kind.{Kind}
use Rattle.flm_forge.specs.declared.kind.Kind.TheVariants.{A2, A4, F1}
use Rattle.flm_forge.specs.declared.source.Listing.{Listing}
use Rattle.flm_forge.specs.Texts.{lines, text_of}

-- the names without a symbol: A2 and A4 hide Verify
abbrev pub hidden_names : Kind → List Name
hidden_names A2 = Verify ∷ []
hidden_names A4 = Verify ∷ []
hidden_names _ = []

-- the hidden names for a region by its number: EraseChip erases by the first region alone, so a later region has no symbol of it
abbrev pub hidden_in : ℕ → Kind → List Name
hidden_in number kind = if nat_eq number 0 then hidden_names kind else hidden_names kind ++ EraseChip ∷ []

-- the name of a kind's device
abbrev pub device_name : Kind → List ℕ
device_name F1 = codes "FPEC"
device_name _ = codes "FC1"

-- the items of a device: one for each run of sectors, from an offset on
unfoldable pub items_from : ℕ → List SectorRun → List SectorItem
items_from offset [] = []
items_from offset (run ∷ runs) = record { size = run.size; offset = offset } ∷ items_from (offset + run.count * run.size) runs

-- the listing of a kind for a controller with its registers from `base` on, for a region, with pages of `page` bytes
abbrev pub listing_of : Kind → ℕ → Region → ℕ → Listing
listing_of kind base region page = record {
  text = text_of (lines kind base);
  init_data = [];
  zero_len = 0;
  name = device_name kind;
  base = region.base;
  size = region.size;
  page = page;
  empty = region.empty;
  to_prog = 100;
  to_erase = 500;
  items = items_from 0 region.sectors;
  hidden = hidden_names kind;
}

-- a listing with these names hidden
abbrev pub hiding : Listing → List Name → Listing
hiding l names = record l { hidden = names }

-- the listing for region number `number` of a board
abbrev pub listing_in : ℕ → Kind → ℕ → Region → ℕ → Listing
listing_in number kind base region page = hiding (listing_of kind base region page) (hidden_in number kind)
