-- What the ideal device leaves when the places of a sector, a page or the region are written.
use Rattle.std.proofs.Common.{◌≡◌, ◌<◌, ◌≤◌, ◌+◌, ◌-◌, ◌∙◌, ⊎_elim, inl, inr, ℕ, List, length, take, drop, slice_index, set, Some, refl, sym}
use Rattle.std.proofs.Common.{ap, length-take, length-drop, arith}
use Rattle.std.proofs.lemmas.Grind.{same_number_lists}
use Rattle.std.proofs.lemmas.List.{get_or-take, get_or-drop, get_or_past, length-set, get_or-set_same, get_or-set_other}
use Rattle.std.proofs.lemmas.List.FromFn.{get_or-map-range_with_len, length-map-range_with_len}
use Rattle.std.proofs.lemmas.Bool.{cases_lt}
use Rattle.bench_model.specs.State.{SameOutside}
use Rattle.flm_descriptor.specs.Shape.{Range, range_at}
use Rattle.page_geometry.specs.Geometry.{In, IsGeometry}
use Rattle.page_geometry.specs.Cells.{IsEmpty, Holds}
use Rattle.page_geometry.specs.Ideal.{Stays, Acts, bytes_in}
use Rattle.page_geometry.specs.Ideal as act
use Rattle.algo_calls.specs.Setups.{Setup}
use Rattle.algo_calls.specs.Duties.{Site, part, Acting, Does}
use Rattle.duty_trials.specs.Ended.{OnlyBetween}

-- ---- the bytes of a range

pub bytes_length : (r : Range) (cells : List ℕ) → length (bytes_in r cells) ≡ r.stop - r.start
unfolding bytes_in
bytes_length r cells = length-map-range_with_len (λ (i : ℕ). slice_index cells i) r.start (r.stop - r.start)

byte_in : (r : Range) (cells : List ℕ) (i : ℕ) → i < r.stop - r.start → slice_index (bytes_in r cells) i ≡ slice_index cells (r.start + i)
unfolding bytes_in
byte_in r cells i less = get_or-map-range_with_len (λ (k : ℕ). slice_index cells k) r.start (r.stop - r.start) i (r.start + i) 0 less refl

-- contents that agree on a range have the same bytes there
pub bytes_agree : (r : Range) (x y : List ℕ) → ((i : ℕ) → In i r → slice_index y i ≡ slice_index x i) → bytes_in r x ≡ bytes_in r y
bytes_agree r x y same = same_number_lists (bytes_in r x) (bytes_in r y) (bytes_length r x ∙ sym (bytes_length r y)) (λ i h.
    let less : i < r.stop - r.start = omega (arith, h, bytes_length r x) in
    byte_in r x i less ∙ sym (same (r.start + i) (omega arith, omega (arith, less))) ∙ sym (byte_in r y i less))

-- ---- places that are written one after the other

pub only_none : (from : ℕ) (x : List ℕ) → OnlyBetween from from x x
only_none from x = record { long = refl; same = λ i out. refl }

pub only_more : (from k v : ℕ) (x y : List ℕ) → from ≤ k → OnlyBetween from k x y → OnlyBetween from (k + 1) x (set y k v)
only_more from k v x y order only = record {
  long = length-set y k v ∙ only.long;
  same = λ i out. ⊎_elim
      (λ (before : i < from). get_or-set_other y k i v 0 (λ same. absurd (omega (arith, before, order, same))) ∙ only.same i (inl before))
      (λ (past : k + 1 ≤ i). get_or-set_other y k i v 0 (λ same. absurd (omega (arith, past, same))) ∙ only.same i (inr (omega (arith, past))))
      out;
}

pub filled_more : (from k v : ℕ) (y : List ℕ) → k < length y → ((i : ℕ) → from ≤ i → i < k → slice_index y i ≡ v)
    → (i : ℕ) → from ≤ i → i < k + 1 → slice_index (set y k v) i ≡ v
filled_more from k v y less put i above below = ⊎_elim
    (λ (under : i < k). get_or-set_other y k i v 0 (λ same. absurd (omega (arith, under, same))) ∙ put i above under)
    (λ (at : k ≤ i). let e : i ≡ k = omega (arith, at, below) in ap (λ (n : ℕ). slice_index (set y k v) n) e ∙ get_or-set_same y k v 0 less)
    (cases_lt i k)

-- ---- a region among the cells

pub part_long : (site : Site) (cells : List ℕ) → site.start + site.layout.size ≤ length cells → length (part site cells) ≡ site.layout.size
part_long site cells among = omega (arith, among, length-take site.layout.size (drop site.start cells), length-drop site.start cells)

pub part_at : (site : Site) (cells : List ℕ) (i : ℕ) → i < site.layout.size → slice_index (part site cells) i ≡ slice_index cells (site.start + i)
part_at site cells i less = get_or-take site.layout.size (drop site.start cells) i 0 less ∙ get_or-drop site.start cells i 0

-- the bytes of a range of a region, taken out of all cells
pub bytes_taken : (site : Site) (r : Range) (cells : List ℕ) → site.start + site.layout.size ≤ length cells → r.stop ≤ site.layout.size
    → take (site.start + r.stop - (site.start + r.start)) (drop (site.start + r.start) cells) ≡ bytes_in r (part site cells)
bytes_taken site r cells among below =
    let n : ℕ = site.start + r.stop - (site.start + r.start) in
    let m : ℕ = site.start + r.start in
    let long : length (take n (drop m cells)) ≡ r.stop - r.start = omega (arith, length-take n (drop m cells), length-drop m cells, below, among) in
    same_number_lists (take n (drop m cells)) (bytes_in r (part site cells)) (long ∙ sym (bytes_length r (part site cells))) (λ i h.
    let less : i < r.stop - r.start = omega (arith, h, long) in
    let e : site.start + (r.start + i) ≡ m + i = omega arith in
    get_or-take n (drop m cells) i 0 (omega (arith, less)) ∙ get_or-drop m cells i 0
    ∙ ap (λ (k : ℕ). slice_index cells k) (sym e) ∙ sym (part_at site cells (r.start + i) (omega (arith, less, below)))
    ∙ sym (byte_in r (part site cells) i less))

-- ---- places of a range of the region

module _ (site : Site) (r : Range) (x y : List ℕ) (among : site.start + site.layout.size ≤ length x) (below : r.stop ≤ site.layout.size)
    (only : OnlyBetween (site.start + r.start) (site.start + r.stop) x y) where
  here : site.start + site.layout.size ≤ length y
  here = omega (arith, among, only.long)

  -- all cells of other regions stay
  others : r.start ≤ r.stop → SameOutside (Some (site.start, site.layout.size)) x y
  others ordered =
      let n : ℕ = site.start + site.layout.size in (
        only.long,
        same_number_lists (take site.start y) (take site.start x) (omega (arith, length-take site.start y, length-take site.start x, only.long)) (λ i h.
            let less : i < site.start = omega (arith, h, length-take site.start y) in
            get_or-take site.start y i 0 less ∙ only.same i (inl (omega (arith, less))) ∙ sym (get_or-take site.start x i 0 less)),
        same_number_lists (drop n y) (drop n x) (omega (arith, length-drop n y, length-drop n x, only.long)) (λ i h.
            get_or-drop n y i 0 ∙ only.same (n + i) (inr (omega (arith, below))) ∙ sym (get_or-drop n x i 0)),
      )

  -- all other cells of the region stay
  pub stays : Stays r (part site x) (part site y)
  stays = (
    part_long site y here ∙ sym (part_long site x among),
    λ i out. ⊎_elim
        (λ (less : i < site.layout.size).
        part_at site y i less
        ∙ only.same (site.start + i) (⊎_elim
        (λ (before : i < r.start). inl (omega (arith, before)))
        (λ (from : r.start ≤ i). ⊎_elim
        (λ (inside : i < r.stop). absurd (out (from, inside)))
        (λ (past : r.stop ≤ i). inr (omega (arith, past)))
        (cases_lt i r.stop))
        (cases_lt i r.start))
        ∙ sym (part_at site x i less))
        (λ (past : site.layout.size ≤ i).
        get_or_past (part site y) i 0 (omega (arith, past, part_long site y here))
        ∙ sym (get_or_past (part site x) i 0 (omega (arith, past, part_long site x among))))
        (cases_lt i site.layout.size),
  )

  -- a range of the region that was filled with a value holds it
  pub filled : (v : ℕ) → ((i : ℕ) → site.start + r.start ≤ i → i < site.start + r.stop → slice_index y i ≡ v) → IsEmpty v r (part site y)
  filled v put i inside = part_at site y i (omega (arith, inside.1, below)) ∙ put (site.start + i) (omega (arith, inside.0)) (omega (arith, inside.1))

-- ---- what the ideal device does

pub sector_does : (s : Setup) (site : Site) (k : ℕ) (x y : List ℕ) → IsGeometry site.layout → site.start + site.layout.size ≤ length x
    → k < length site.layout.sectors
    → OnlyBetween (site.start + (range_at site.layout.sectors k).start) (site.start + (range_at site.layout.sectors k).stop) x y
    → ((i : ℕ) → site.start + (range_at site.layout.sectors k).start ≤ i → i < site.start + (range_at site.layout.sectors k).stop
    → slice_index y i ≡ s.algorithm.device.empty)
    → Does s site x (Acting (act.EraseSector k)) y
unfolding Acts
sector_does s site k x y good among less only put =
    let r : Range = range_at site.layout.sectors k in
    let below : r.stop ≤ site.layout.size = good.sectors_part.below k less in
    let some : r.start < r.stop = good.sectors_part.some k less in
    record {
      leads = (less, filled site r x y among below only s.algorithm.device.empty put, stays site r x y among below only);
      others = others site r x y among below only (omega (arith, some));
    }

pub chip_does : (s : Setup) (site : Site) (x y : List ℕ) → site.start + site.layout.size ≤ length x
    → OnlyBetween (site.start + 0) (site.start + site.layout.size) x y
    → ((i : ℕ) → site.start + 0 ≤ i → i < site.start + site.layout.size → slice_index y i ≡ s.algorithm.device.empty)
    → Does s site x (Acting act.EraseChip) y
unfolding Acts
chip_does s site x y among only put =
    let r : Range = record { start = 0; stop = site.layout.size } in
    let among' : site.start + site.layout.size ≤ length y = omega (arith, among, only.long) in
    let empty : IsEmpty s.algorithm.device.empty r (part site y) = filled site r x y among (omega arith) only s.algorithm.device.empty put in
    record {
      leads = (part_long site y among' ∙ sym (part_long site x among), λ i less. empty i (omega arith, omega (arith, less, part_long site y among')));
      others = others site r x y among (omega arith) only (omega arith);
    }

pub page_does : (s : Setup) (site : Site) (k : ℕ) (x y : List ℕ) → IsGeometry site.layout → site.start + site.layout.size ≤ length x
    → k < length site.layout.pages
    → IsEmpty s.algorithm.device.empty (range_at site.layout.pages k) (part site x)
    → OnlyBetween (site.start + (range_at site.layout.pages k).start) (site.start + (range_at site.layout.pages k).stop) x y
    → Does s site x (Acting (act.ProgramPage k (bytes_in (range_at site.layout.pages k) (part site y)))) y
unfolding Acts
page_does s site k x y good among less empty only =
    let r : Range = range_at site.layout.pages k in
    let below : r.stop ≤ site.layout.size = good.pages_part.below k less in
    let some : r.start < r.stop = good.pages_part.some k less in
    let held : Holds r (bytes_in r (part site y)) (part site y) = λ i inside.
    let e : r.start + (i - r.start) ≡ i = omega (arith, inside.0) in
    sym (byte_in r (part site y) (i - r.start) (omega (arith, inside.0, inside.1)) ∙ ap (λ (n : ℕ). slice_index (part site y) n) e) in
    record {
      leads = (less, bytes_length r (part site y), empty, held, stays site r x y among below only);
      others = others site r x y among below only (omega (arith, some));
    }
