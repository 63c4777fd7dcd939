-- What a reader finds in the description of a device.
use Rattle.std.proofs.Common.{◌≡◌, ◌≢◌, ℕ, zero, suc, ◌+◌, ◌-◌, ◌*◌, ◌<◌, ◌≤◌, Bool, true, false, List, [], ◌∷◌, ◌++◌, length, take, drop, get_or, Some, None}
use Rattle.std.proofs.Common.{Ok, refl, sym, ap, ◌∙◌, arith}
use Rattle.std.specs.Prelude.{◌==◌, ◌&&◌, All, map, replicate, slice_index}
use Rattle.std.specs.List.{before_first, flat_map, position_or_len, range_with_len}
use Rattle.std.specs.Int.{w16, w32, from_le_bytes}
use Rattle.std.proofs.lemmas.Bool.{eqb-true}
use Rattle.std.proofs.lemmas.Bool.Decides.{nat_tests}
use Rattle.std.proofs.lemmas.Nat.{from_le_bytes-to_le_bytes_4}
use Rattle.std.proofs.lemmas.List.{get_or-drop, get_or_append_left, length-append, take_all, take_more}
use Rattle.std.proofs.lemmas.List.Elements.{All-get_or}
use Rattle.std.proofs.lemmas.List.FromFn.{map-range_with_len_more}
use Rattle.std.proofs.lemmas.List.Sums.{position_or_len_is}
use Rattle.std.proofs.Math.Seq.{get_or-append_seam, take-append_seam}
use Rattle.octets.specs.Field.{field16, field32}
use Rattle.elf32.specs.Search.{first_below}
use Rattle.elf32.specs.Strings.{is_zero}
use Rattle.elf32.proofs.SearchLemmas.{first_below-zero, first_below-none, first_below-here}
use Rattle.flm_descriptor.specs.declared.items.SectorItem.{SectorItem}
use Rattle.flm_descriptor.specs.Described as described
use Rattle.flm_descriptor.specs.Flm.{described_of, limits_of}
use Rattle.flm_forge.specs.declared.source.Listing.{Listing}
use Rattle.flm_forge.specs.Device.{ItemFits, ListingFits, device_bytes, descriptor_bytes, end_pair, item_bytes, name_field, on_chip, version}
use Rattle.flm_forge.specs.Fields.{half_bytes}
use Rattle.flm_forge.specs.Read.{device_of, HasName}
use Rattle.flm_forge.proofs.PlaceLemmas.{Stands, stands_whole, stands_moved, stands_left, stands_right, stands_drop, stands_drop_more, stands_part, stands_item}
use Rattle.flm_forge.proofs.PlaceLemmas.{length-items}
use Rattle.flm_forge.proofs.HeaderLemmas.{not_below}
use Rattle.flm_forge.proofs.LayoutLemmas.{behind_name, item_wide, length-name_field, length-device_bytes, length-descriptor}

-- ---- fields at a place of some bytes

field32_in : (bytes part : List ℕ) (at j : ℕ) (s : Stands bytes part at) → field32 bytes (at + j) ≡ field32 (part ++ s.rest) j
field32_in bytes part at j s = ap (λ (r : List ℕ). from_le_bytes w32 (take 4 r)) (stands_drop_more bytes part at j s)

field32_first : (bytes part : List ℕ) (at : ℕ) (s : Stands bytes part at) → field32 bytes at ≡ field32 (part ++ s.rest) 0
field32_first bytes part at s = ap (λ (r : List ℕ). from_le_bytes w32 (take 4 r)) (stands_drop bytes part at s)

field16_first : (bytes part : List ℕ) (at : ℕ) (s : Stands bytes part at) → field16 bytes at ≡ field16 (part ++ s.rest) 0
field16_first bytes part at s = ap (λ (r : List ℕ). from_le_bytes w16 (take 2 r)) (stands_drop bytes part at s)

byte_in : (bytes part : List ℕ) (at j : ℕ) (s : Stands bytes part at) → slice_index bytes (at + j) ≡ slice_index (part ++ s.rest) j
byte_in bytes part at j s = sym (get_or-drop at bytes j 0) ∙ ap (λ (r : List ℕ). slice_index r j) (stands_drop bytes part at s)

-- ---- the name

name_zeros : (text : List ℕ) → length text ≤ 127 → name_field text ≡ text ++ (0 ∷ replicate (127 - length text) 0)
name_zeros text short =
    let e : 128 - length text ≡ suc (127 - length text) = omega (arith, short) in
    ap (λ (r : List ℕ). r ++ replicate (128 - length text) 0) (take_all 128 text (omega (arith, short)))
    ∙ ap (λ (n : ℕ). text ++ replicate n 0) e

not_zero : (byte : ℕ) → byte ≢ 0 → is_zero byte ≡ false
not_zero byte other = grind (arith, nat_tests)

name_read : (text : List ℕ) → length text ≤ 127 → All (λ byte. byte ≢ 0) text → before_first is_zero (name_field text) ≡ text
name_read text short others =
    let zeros = replicate (127 - length text) 0 in
    let all = text ++ (0 ∷ zeros) in
    let is : position_or_len is_zero all ≡ length text = position_or_len_is is_zero all (length text) 0
    (omega (arith, length-append text (0 ∷ zeros)))
    (λ k below. ap is_zero (get_or_append_left text (0 ∷ zeros) 0 k below) ∙ not_zero (get_or text k 0) (All-get_or (λ byte. byte ≢ 0) text k 0 below others))
    (λ inside. ap is_zero (get_or-append_seam text 0 zeros 0)) in
    ap (before_first is_zero) (name_zeros text short) ∙ ap (λ (n : ℕ). take n all) is ∙ take-append_seam text (0 ∷ zeros)

-- ---- the fields

fields_stand : (l : Listing) → Stands (descriptor_bytes l) (device_bytes l) 0
unfolding descriptor_bytes
fields_stand l = stands_left (descriptor_bytes l) (device_bytes l) _ 0 (stands_whole (descriptor_bytes l))

version_stands : (l : Listing) → Stands (descriptor_bytes l) (half_bytes version) 0
unfolding device_bytes
version_stands l = stands_left (descriptor_bytes l) (half_bytes version) (name_field l.name ++ behind_name l) 0 (fields_stand l)

name_and_more : (l : Listing) → Stands (descriptor_bytes l) (name_field l.name ++ behind_name l) 2
unfolding device_bytes
name_and_more l = stands_right (descriptor_bytes l) (half_bytes version) (name_field l.name ++ behind_name l) 0 (fields_stand l)

name_stands : (l : Listing) → Stands (descriptor_bytes l) (name_field l.name) 2
name_stands l = stands_left (descriptor_bytes l) (name_field l.name) (behind_name l) 2 (name_and_more l)

rest_stands : (l : Listing) → Stands (descriptor_bytes l) (behind_name l) 130
rest_stands l = stands_moved (descriptor_bytes l) (behind_name l) (2 + length (name_field l.name)) 130
    (stands_right (descriptor_bytes l) (name_field l.name) (behind_name l) 2 (name_and_more l)) (omega (arith, length-name_field l.name))

name_is : (l : Listing) → HasName l → before_first is_zero (take 128 (drop 2 (descriptor_bytes l))) ≡ l.name
name_is l named =
    let whole : take 128 (drop 2 (descriptor_bytes l)) ≡ name_field l.name =
    ap (λ (n : ℕ). take n (drop 2 (descriptor_bytes l))) (sym (length-name_field l.name)) ∙
    stands_part (descriptor_bytes l) (name_field l.name) 2 (name_stands l) in
    ap (before_first is_zero) whole ∙ name_read l.name named.fits named.no_zero

fields_are : (l : Listing) → ListingFits l → HasName l → described.fields_at (descriptor_bytes l) 0 ≡ device_of l
unfolding described.fields_at
fields_are l fits named =
    let x = descriptor_bytes l in
    let s = rest_stands l in
    let vers : field16 x 0 ≡ version = field16_first x (half_bytes version) 0 (version_stands l) in
    let kind : field16 x 130 ≡ on_chip = field16_first x (behind_name l) 130 s in
    let base : field32 x 132 ≡ l.base = field32_in x (behind_name l) 130 2 s ∙ from_le_bytes-to_le_bytes_4 l.base fits.device.base in
    let size : field32 x 136 ≡ l.size = field32_in x (behind_name l) 130 6 s ∙ from_le_bytes-to_le_bytes_4 l.size fits.device.size in
    let page : field32 x 140 ≡ l.page = field32_in x (behind_name l) 130 10 s ∙ from_le_bytes-to_le_bytes_4 l.page fits.device.page in
    let res : field32 x 144 ≡ 0 = field32_in x (behind_name l) 130 14 s in
    let empty : slice_index x 148 ≡ l.empty = byte_in x (behind_name l) 130 18 s in
    let to_prog : field32 x 152 ≡ l.to_prog = field32_in x (behind_name l) 130 22 s ∙ from_le_bytes-to_le_bytes_4 l.to_prog fits.device.to_prog in
    let to_erase : field32 x 156 ≡ l.to_erase = field32_in x (behind_name l) 130 26 s ∙ from_le_bytes-to_le_bytes_4 l.to_erase fits.device.to_erase in
    rw (vers, name_is l named, kind, base, size, page, res, empty, to_prog, to_erase) refl

device_is : (l : Listing) → ListingFits l → HasName l → described.device_of (descriptor_bytes l) 0 ≡ Ok (device_of l)
unfolding described.device_of
device_is l fits named =
    rw (not_below (length (descriptor_bytes l)) 160 (omega (arith, length-descriptor l)), fields_are l fits named) refl

-- ---- the items

items_stand : (l : Listing) → Stands (descriptor_bytes l) (flat_map item_bytes l.items ++ item_bytes end_pair) 160
unfolding descriptor_bytes
items_stand l = stands_moved (descriptor_bytes l) _ (0 + length (device_bytes l)) 160
    (stands_right (descriptor_bytes l) (device_bytes l) (flat_map item_bytes l.items ++ item_bytes end_pair) 0 (stands_whole (descriptor_bytes l)))
    (omega (arith, length-device_bytes l))

-- an item is read where its bytes are
item_read : (bytes : List ℕ) (item : SectorItem) (k : ℕ) → Stands bytes (item_bytes item) (160 + 8 * k) → ItemFits item → described.item_at bytes 0 k ≡ item
unfolding described.item_at
item_read bytes item k s fits =
    let size : field32 bytes (160 + 8 * k) ≡ item.size =
    field32_first bytes (item_bytes item) (160 + 8 * k) s ∙ from_le_bytes-to_le_bytes_4 item.size fits.size in
    let place : 164 + 8 * k ≡ 160 + 8 * k + 4 = omega arith in
    let offset : field32 bytes (164 + 8 * k) ≡ item.offset =
    ap (field32 bytes) place ∙ field32_in bytes (item_bytes item) (160 + 8 * k) 4 s ∙ from_le_bytes-to_le_bytes_4 item.offset fits.offset in
    rw (size, offset) refl

item_is : (l : Listing) (k : ℕ) → ListingFits l → k < length l.items → described.item_at (descriptor_bytes l) 0 k ≡ get_or l.items k end_pair
item_is l k fits less =
    item_read (descriptor_bytes l) (get_or l.items k end_pair) k
    (stands_item item_bytes 8 item_wide (descriptor_bytes l) 160 l.items k end_pair
    (stands_left (descriptor_bytes l) (flat_map item_bytes l.items) (item_bytes end_pair) 160 (items_stand l)) less)
    (All-get_or ItemFits l.items k end_pair less fits.items)

end_is : (l : Listing) → described.item_at (descriptor_bytes l) 0 (length l.items) ≡ end_pair
end_is l =
    item_read (descriptor_bytes l) end_pair (length l.items)
    (stands_moved (descriptor_bytes l) (item_bytes end_pair) (160 + length (flat_map item_bytes l.items)) (160 + 8 * length l.items)
    (stands_right (descriptor_bytes l) (flat_map item_bytes l.items) (item_bytes end_pair) 160 (items_stand l))
    (omega (arith, length-items item_bytes 8 item_wide l.items)))
    (record { size = omega arith; offset = omega arith })

abbrev item_of : ℕ → ℕ → SectorItem
item_of size offset = record { size = size; offset = offset }

both_end : (item : SectorItem) (b d : Bool) → (item.size == 0xFFFF_FFFF) ≡ b → (item.offset == 0xFFFF_FFFF) ≡ d → item ≢ end_pair → (b && d) ≡ false
both_end item true true size offset other =
    let s = eqb-true item.size 0xFFFF_FFFF size in
    let o = eqb-true item.offset 0xFFFF_FFFF offset in
    let same : item ≡ end_pair = ap (λ (n : ℕ). item_of n item.offset) s ∙ ap (λ (n : ℕ). item_of 0xFFFF_FFFF n) o in
    absurd (other same)
both_end item true false size offset other = refl
both_end item false d size offset other = refl

no_end_before : (l : Listing) → ListingFits l → All (λ item. item ≢ end_pair) l.items → (k : ℕ) → k < length l.items
    → described.is_end (descriptor_bytes l) 0 k ≡ false
unfolding described.is_end
no_end_before l fits others k less =
    let item = get_or l.items k end_pair in
    rw (item_is l k fits less) (both_end item (item.size == 0xFFFF_FFFF) (item.offset == 0xFFFF_FFFF) refl refl
    (All-get_or (λ i. i ≢ end_pair) l.items k end_pair less others))

end_here : (l : Listing) → described.is_end (descriptor_bytes l) 0 (length l.items) ≡ true
unfolding described.is_end
end_here l = rw (end_is l) refl

none_below : (p : ℕ → Bool) (n : ℕ) → ((k : ℕ) → k < n → p k ≡ false) → first_below p n ≡ None
none_below p zero fails = first_below-zero p
none_below p (suc n) fails =
    let e : suc n ≡ n + 1 = omega arith in
    ap (first_below p) e ∙ first_below-none p n (none_below p n (λ k less. fails k (omega (arith, less)))) (fails n (omega arith))

-- a function that gives each item gives the list of all items
mapped : (f : ℕ → SectorItem) (items : List SectorItem) (n : ℕ) → n ≤ length items → ((k : ℕ) → k < length items → f k ≡ get_or items k end_pair)
    → map f (range_with_len 0 n) ≡ take n items
mapped f items zero within gives = refl
mapped f items (suc n) within gives =
    let e : suc n ≡ n + 1 = omega arith in
    ap (λ (k : ℕ). map f (range_with_len 0 k)) e ∙ map-range_with_len_more f 0 n n (omega arith)
    ∙ ap (λ (r : List SectorItem). r ++ f n ∷ []) (mapped f items n (omega arith) gives)
    ∙ ap (λ item. take n items ++ item ∷ []) (gives n (omega arith))
    ∙ sym (take_more items n end_pair (omega arith)) ∙ ap (λ (k : ℕ). take k items) (sym e)

items_are : (l : Listing) → ListingFits l → All (λ item. item ≢ end_pair) l.items → length l.items ≤ 512
    → described.items_of (descriptor_bytes l) 0 ≡ Ok l.items
unfolding described.items_of
items_are l fits others few =
    let x = descriptor_bytes l in
    let n = length l.items in
    let count : described.pairs x 0 ≡ n + 1 = omega (arith, length-descriptor l, few) in
    let found : first_below (described.is_end x 0) (described.pairs x 0) ≡ Some n =
    ap (first_below (described.is_end x 0)) count
    ∙ first_below-here (described.is_end x 0) n (none_below (described.is_end x 0) n (no_end_before l fits others)) (end_here l) in
    ap (described.items_before x 0) found
    ∙ ap Ok (mapped (described.item_at x 0) l.items n (omega arith) (λ k less. item_is l k fits less) ∙ take_all n l.items (omega arith))

pub described_is : (l : Listing) → ListingFits l → HasName l → All (λ item. item ≢ end_pair) l.items → length l.items ≤ 512
    → limits_of (device_of l) l.items ≡ Ok tt → described_of (descriptor_bytes l) 0 ≡ Ok (record { device = device_of l; items = l.items })
unfolding described_of
described_is l fits named others few limits =
    rw (device_is l fits named, items_are l fits others few, limits) refl
