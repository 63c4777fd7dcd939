-- From each region to all cells: `find_in_regions` counts places over all regions.
use Rattle.std.proofs.Common.{◌≡◌, ◌≢◌, ◌<◌, ◌≤◌, ◌+◌, ◌-◌, ◌∙◌, sym, ap, subst, refl, arith, ⊎_elim, ℕ, Bool, true, false, IsTrue, List, [], ◌∷◌, length}
use Rattle.std.proofs.Common.{get_or, drop, slice_index, Option, Some, None, is_some}
use Rattle.std.proofs.lemmas.List.{drop_more, drop_all}
use Rattle.std.proofs.lemmas.List.Sums.{sum_by-cons}
use Rattle.std.proofs.lemmas.Bool.{cases_lt}
use Rattle.bench_model.specs.State.{BenchState}
use Rattle.byte_map.specs.Image.{Run, byte_at}
use Rattle.board_file.specs.declared.region.Region.{Region}
use Rattle.board_file.specs.Limits.{size_of}
use Rattle.readback.specs.declared.compare.Difference.{Difference}
use Rattle.readback.specs.Readback.{OnlyReadsCells}
use Rattle.readback.proofs.ReadbackLemmas.{only_reads_cells_here, only_reads_cells_then}
use Rattle.command_files.proofs.PlaceLemmas.{chosen_first, chosen_later, address_first, address_later}
use Rattle.flm_cli.specs.Verify.{wanted_at}
use Rattle.job_text.specs.Laid.{address_at}
use Rattle.flm_cli.specs.Steps.{FindsInImage, RegionAgreesBelow, IsFirstInRegion, FindsInRegion}

-- A place in the first region, and a place after it.

module _ (region : Region) (rest : List Region) (image : List Run) where
  wanted_first : (place : ℕ) → place < region.size → wanted_at (region ∷ rest) image place ≡ byte_at image (region.base + place)
  wanted_first place less = chosen_first place region.size (byte_at image (region.base + place)) (wanted_at rest image (place - region.size)) less

  wanted_later : (place : ℕ) → region.size ≤ place → wanted_at (region ∷ rest) image place ≡ wanted_at rest image (place - region.size)
  wanted_later place most = chosen_later place region.size (byte_at image (region.base + place)) (wanted_at rest image (place - region.size)) most

-- Regions whose first cell has the place `start`.

abbrev AgreeFrom : List ℕ → ℕ → List Region → List Run → Type 0
AgreeFrom cells start regions image = (place byte : ℕ) → wanted_at regions image place ≡ Some byte → slice_index cells (start + place) ≡ byte

pub record LeastFrom (tells : Bool) (cells : List ℕ) (start : ℕ) (regions : List Region) (image : List Run) (at wanted found : ℕ) : Type 0 where
  pub place : ℕ
  pub address : address_at regions place ≡ Some at
  pub is_wanted : wanted_at regions image place ≡ Some wanted
  pub unequal : wanted ≢ found
  pub is_found : IsTrue tells → slice_index cells (start + place) ≡ found
  pub least : IsTrue tells → (p byte : ℕ) → p < place → wanted_at regions image p ≡ Some byte → slice_index cells (start + p) ≡ byte

abbrev FindsFrom : Bool → List ℕ → ℕ → List Region → List Run → Option Difference → Type 0
FindsFrom tells cells start regions image None = IsTrue tells → AgreeFrom cells start regions image
FindsFrom tells cells start regions image (Some d) = LeastFrom tells cells start regions image d.at d.want d.got

no_region : (cells : List ℕ) (start : ℕ) (image : List Run) → AgreeFrom cells start [] image
no_region cells start image place byte is = absurd (cc)

module _ (cells : List ℕ) (start : ℕ) (region : Region) (rest : List Region) (image : List Run) where
  agree_then : RegionAgreesBelow cells start region.base image region.size → AgreeFrom cells (start + region.size) rest image
      → AgreeFrom cells start (region ∷ rest) image
  agree_then one others place byte is = ⊎_elim
      (λ (less : place < region.size). one place byte less (sym (wanted_first region rest image place less) ∙ is))
      (λ (most : region.size ≤ place).
      let sum : (start + region.size) + (place - region.size) ≡ start + place = omega (arith, most) in
      ap (λ (p : ℕ). slice_index cells p) (sym sum) ∙ others (place - region.size) byte (sym (wanted_later region rest image place most) ∙ is))
      (cases_lt place region.size)

  module _ (tells : Bool) where
    -- the first region differs
    first_here : (at wanted found : ℕ) → IsFirstInRegion tells cells start region.base region.size image at wanted found
        → LeastFrom tells cells start (region ∷ rest) image at wanted found
    first_here at wanted found is = record {
      place = is.offset;
      address = address_first region rest is.offset is.inside ∙ ap (λ (n : ℕ). Some n) (sym is.address);
      is_wanted = wanted_first region rest image is.offset is.inside ∙ is.is_wanted;
      unequal = is.unequal;
      is_found = is.is_found;
      least = λ told p byte below held.
          is.least told p byte below (sym (wanted_first region rest image p (omega (arith, below, is.inside))) ∙ held);
    }

    -- a difference after the first region is the least one, where the first region agrees
    first_later : (IsTrue tells → RegionAgreesBelow cells start region.base image region.size) → (at wanted found : ℕ)
        → LeastFrom tells cells (start + region.size) rest image at wanted found → LeastFrom tells cells start (region ∷ rest) image at wanted found
    first_later one at wanted found is =
        let place = region.size + is.place in
        let back : place - region.size ≡ is.place = omega arith in
        let sum : (start + region.size) + is.place ≡ start + place = omega arith in
        record {
          place = place;
          address = address_later region rest place (omega arith) ∙ ap (address_at rest) back ∙ is.address;
          is_wanted = wanted_later region rest image place (omega arith) ∙ ap (wanted_at rest image) back ∙ is.is_wanted;
          unequal = is.unequal;
          is_found = λ told. ap (λ (p : ℕ). slice_index cells p) (sym sum) ∙ is.is_found told;
          least = λ told p byte below held. ⊎_elim
              (λ (less : p < region.size). one told p byte less (sym (wanted_first region rest image p less) ∙ held))
              (λ (most : region.size ≤ p).
              let there : (start + region.size) + (p - region.size) ≡ start + p = omega (arith, most) in
              ap (λ (q : ℕ). slice_index cells q) (sym there)
              ∙ is.least told (p - region.size) byte (omega (arith, below, most)) (sym (wanted_later region rest image p most) ∙ held))
              (cases_lt p region.size);
        }

    in_later : (found : Option Difference) → (IsTrue tells → RegionAgreesBelow cells start region.base image region.size)
        → FindsFrom tells cells (start + region.size) rest image found → FindsFrom tells cells start (region ∷ rest) image found
    in_later None one finds = λ told. agree_then (one told) (finds told)
    in_later (Some d) one finds = first_later one d.at d.want d.got finds

-- All regions.

from_zero : (tells : Bool) (cells : List ℕ) (regions : List Region) (image : List Run) (found : Option Difference) → FindsFrom tells cells 0 regions image found
    → FindsInImage tells cells regions image found
from_zero tells cells regions image None finds = λ told place byte is.
    let zero : place ≡ 0 + place = omega arith in
    ap (λ (p : ℕ). slice_index cells p) zero ∙ finds told place byte is
from_zero tells cells regions image (Some d) finds =
    let zero : finds.place ≡ 0 + finds.place = omega arith in (
      finds.place,
      finds.address,
      record {
        is_wanted = finds.is_wanted;
        unequal = finds.unequal;
        is_found = λ told. ap (λ (p : ℕ). slice_index cells p) zero ∙ finds.is_found told;
        least = λ told p byte below held.
            let none : p ≡ 0 + p = omega arith in
            ap (λ (q : ℕ). slice_index cells q) none ∙ finds.least told p byte below held;
      },
    )

-- the byte that is wanted at a place is the image's byte at its address
pub wanted_address : (regions : List Region) (image : List Run) (place at byte : ℕ)
    → address_at regions place ≡ Some at → wanted_at regions image place ≡ Some byte
    → byte_at image at ≡ Some byte
wanted_address [] image place at byte address wanted = absurd (cc)
wanted_address (region ∷ rest) image place at byte address wanted = ⊎_elim
    (λ (less : place < region.size).
    let here : Some (region.base + place) ≡ Some at = sym (address_first region rest place less) ∙ address in
    let same : region.base + place ≡ at = cc in
    ap (byte_at image) (sym same) ∙ sym (wanted_first region rest image place less) ∙ wanted)
    (λ (most : region.size ≤ place). wanted_address rest image (place - region.size) at byte
    (sym (address_later region rest place most) ∙ address) (sym (wanted_later region rest image place most) ∙ wanted))
    (cases_lt place region.size)

-- where the bench tells nothing, what was found says nothing of the cells
untold : (cells mid : List ℕ) (start base size : ℕ) (image : List Run) (found : Option Difference) → FindsInRegion false mid start base size image found
    → FindsInRegion false cells start base size image found
untold cells mid start base size image None finds = λ told. absurd (cc)
untold cells mid start base size image (Some d) finds = record {
  offset = finds.offset;
  inside = finds.inside;
  address = finds.address;
  is_wanted = finds.is_wanted;
  unequal = finds.unequal;
  is_found = λ told. absurd (cc);
  least = λ told. absurd (cc);
}

-- a region was looked at with the same cells
same_cells : (tells : Bool) (cells mid : List ℕ) (start base size : ℕ) (image : List Run) (found : Option Difference) → (IsTrue tells → mid ≡ cells)
    → FindsInRegion tells mid start base size image found → FindsInRegion tells cells start base size image found
same_cells true cells mid start base size image found same finds =
    subst (λ (l : List ℕ). FindsInRegion true l start base size image found) (same refl) finds
same_cells false cells mid start base size image found same finds = untold cells mid start base size image found finds

-- Region by region: what a search from this region on finds is what a search of all regions finds.
pub record RegionsSoFar (tells : Bool) (old now : BenchState) (regions : List Region) (image : List Run) (index start : ℕ) : Type 0 where
  pub bench : OnlyReadsCells tells old now
  pub faults : now.device_faults ≡ old.device_faults
  pub places : start + size_of (drop index regions) ≡ size_of regions
  pub rest : (found : Option Difference) → FindsFrom tells old.cells start (drop index regions) image found → FindsFrom tells old.cells 0 regions image found

pub none_so_far : (tells : Bool) (s : BenchState) (regions : List Region) (image : List Run) → RegionsSoFar tells s s regions image 0 0
none_so_far tells s regions image = record { bench = only_reads_cells_here tells s; faults = refl; places = omega arith; rest = λ found finds. finds }

module _ (tells : Bool) (old now : BenchState) (regions : List Region) (image : List Run) (index start : ℕ)
    (so_far : RegionsSoFar tells old now regions image index start)
    (region : Region) (less : index < length regions) (is : region ≡ get_or regions index region) where
  front : drop index regions ≡ region ∷ drop (index + 1) regions
  front = drop_more regions index region less ∙ ap (λ (x : Region). x ∷ drop (index + 1) regions) (sym is)

  -- the cells of the region lie among all cells
  pub fits : start + (region.size + size_of (drop (index + 1) regions)) ≡ size_of regions
  fits = omega (arith, so_far.places, ap size_of front, sum_by-cons (λ (r : Region). r.size) region (drop (index + 1) regions))

  module _ (found : Option Difference) (finds : FindsInRegion tells now.cells start region.base region.size image found) where
    here : FindsInRegion tells old.cells start region.base region.size image found
    here = same_cells tells old.cells now.cells start region.base region.size image found (λ told. so_far.bench.cells told) finds

    from_here : (o : Option Difference) → FindsFrom tells old.cells start (region ∷ drop (index + 1) regions) image o
        → FindsFrom tells old.cells 0 regions image o
    from_here o one = so_far.rest o (subst (λ (rs : List Region). FindsFrom tells old.cells start rs image o) (sym front) one)

    -- this region differs
    differs_by : (o : Option Difference) → found ≡ o → is_some o ≡ true → FindsInImage tells old.cells regions image o
    differs_by None same some = absurd (cc)
    differs_by (Some d) same some =
        from_zero tells old.cells regions image (Some d) (from_here (Some d)
        (first_here old.cells start region (drop (index + 1) regions) image tells d.at d.want d.got
        (subst (λ (o : Option Difference). FindsInRegion tells old.cells start region.base region.size image o) same here)))

    pub region_differs : is_some found ≡ true → FindsInImage tells old.cells regions image found
    region_differs some = differs_by found refl some

    -- this region agrees
    agrees_by : (o : Option Difference) → found ≡ o → is_some o ≡ false → IsTrue tells → RegionAgreesBelow old.cells start region.base image region.size
    agrees_by None same none = subst (λ (o : Option Difference). FindsInRegion tells old.cells start region.base region.size image o) same here
    agrees_by (Some d) same none = absurd (cc)

    pub regions_then : (after : BenchState) → is_some found ≡ false → OnlyReadsCells tells now after → after.device_faults ≡ now.device_faults
        → RegionsSoFar tells old after regions image (index + 1) (start + region.size)
    regions_then after none reads faults = record {
      bench = only_reads_cells_then so_far.bench reads;
      faults = faults ∙ so_far.faults;
      places = omega (arith, fits);
      rest = λ o later. from_here o (in_later old.cells start region (drop (index + 1) regions) image tells o (agrees_by found refl none) later);
    }

-- all regions agree
pub all_regions : (tells : Bool) (old now : BenchState) (regions : List Region) (image : List Run) (index start : ℕ)
    → RegionsSoFar tells old now regions image index start
    → length regions ≤ index → FindsInImage tells old.cells regions image None
all_regions tells old now regions image index start so_far all =
    from_zero tells old.cells regions image None (so_far.rest None
    (subst (λ (rs : List Region). FindsFrom tells old.cells start rs image None) (sym (drop_all index regions all)) (λ told. no_region old.cells start image)))
