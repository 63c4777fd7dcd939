-- The areas and sectors of a board's regions satisfy what a layout requires, and how they grow by one region.
use Rattle.std.proofs.Common.{◌≡◌, ◌<◌, ◌≤◌, ◌+◌, ◌*◌, ◌%◌, ◌^◌, ◌⊎◌, ℕ, zero, suc, true, List, [], ◌∷◌, ◌++◌, length, drop, get_or, IsTrue, refl, sym, ap}
use Rattle.std.proofs.Common.{subst, ◌∙◌, append_assoc, arith}
use Rattle.std.specs.Prelude.{sum_by}
use Rattle.std.specs.List.{list_all}
use Rattle.std.proofs.lemmas.Bool.{and_parts}
use Rattle.std.proofs.lemmas.Bool.Decides.{nat_tests}
use Rattle.std.proofs.lemmas.List.{append-nil, drop_more}
use Rattle.std.proofs.lemmas.List.Sums.{sum_by-cons}
use Rattle.board_file.specs.declared.region.Region.{Region}
use Rattle.board_file.specs.declared.sectors.SectorRun.{SectorRun}
use Rattle.board_file.specs.Limits.{run_fits, region_fits, cells_of, most_cells}
use Rattle.board_file.specs.Laws.{RegionFacts}
use Rattle.board_file.proofs.Laws.{region_facts}
use Rattle.flash_layout.proofs.SectorLemmas.{cells_cons}
use Rattle.flash_layout.specs.declared.area.Area.{Area}
use Rattle.flash_layout.specs.Areas.{area_of, areas_of, runs_of, area_fits, all_fit, cells_in}

-- the areas and runs so far, and those of the regions that are left
pub record Taken (regions : List Region) (i : ℕ) (areas : List Area) (runs : List SectorRun) : Type 0 where
  pub areas_so_far : areas ++ areas_of (drop i regions) ≡ areas_of regions
  pub runs_so_far : runs ++ runs_of (drop i regions) ≡ runs_of regions

pub taken_on : (regions : List Region) (i : ℕ) (areas : List Area) (runs : List SectorRun) (d : Region) → i < length regions
    → Taken regions i areas runs → Taken regions (i + 1) (areas ++ area_of (get_or regions i d) ∷ []) (runs ++ (get_or regions i d).sectors)
taken_on regions i areas runs d inside so_far =
    let more : drop i regions ≡ get_or regions i d ∷ drop (i + 1) regions = drop_more regions i d inside in
    record {
      areas_so_far = append_assoc areas (area_of (get_or regions i d) ∷ []) (areas_of (drop (i + 1) regions)) ∙
          ap (λ (l : List Region). areas ++ areas_of l) (sym more) ∙ so_far.areas_so_far;
      runs_so_far = append_assoc runs (get_or regions i d).sectors (runs_of (drop (i + 1) regions)) ∙ ap (λ (l : List Region). runs ++ runs_of l) (sym more) ∙
          so_far.runs_so_far;
    }

cells_append : (a b : List SectorRun) → cells_of (a ++ b) ≡ cells_of a + cells_of b
cells_append [] b = let none : cells_of b ≡ 0 + cells_of b = omega arith in none
cells_append (r ∷ a) b = let rest : cells_of (a ++ b) ≡ cells_of a + cells_of b = cells_append a b in
    let whole : cells_of (r ∷ (a ++ b)) ≡ r.count * r.size + cells_of (a ++ b) = cells_cons r (a ++ b) in
    let first : cells_of (r ∷ a) ≡ r.count * r.size + cells_of a = cells_cons r a in
    omega (arith, rest, whole, first)

run_four : (r : SectorRun) → IsTrue (run_fits r) → r.size % 4 ≡ 0
run_four r fits = grind (arith, nat_tests)

times_four : (count size : ℕ) → size % 4 ≡ 0 → (count * size) % 4 ≡ 0
times_four zero size four = let none : zero * size ≡ 0 = omega arith in ap (λ n. n % 4) none
times_four (suc count) size four =
    let rest : (count * size) % 4 ≡ 0 = times_four count size four in
    let whole : suc count * size ≡ size + count * size = grind arith in
    omega (arith, rest, whole, four)

cells_four : (runs : List SectorRun) → IsTrue (list_all run_fits runs) → cells_of runs % 4 ≡ 0
cells_four [] fit = refl
cells_four (r ∷ rs) fit =
    let parts : (run_fits r ≡ true) × (list_all run_fits rs ≡ true) = and_parts (run_fits r) (list_all run_fits rs) fit in
    let whole : cells_of (r ∷ rs) ≡ r.count * r.size + cells_of rs = cells_cons r rs in
    let first : (r.count * r.size) % 4 ≡ 0 = times_four r.count r.size (run_four r parts.0) in
    let rest : cells_of rs % 4 ≡ 0 = cells_four rs parts.1 in
    omega (arith, whole, first, rest)

some_cells : (runs : List SectorRun) → IsTrue (list_all run_fits runs) → 0 < length runs → 0 < cells_of runs
some_cells [] fit some = absurd (omega (arith, some))
some_cells (r ∷ rs) fit some =
    let parts : (run_fits r ≡ true) × (list_all run_fits rs ≡ true) = and_parts (run_fits r) (list_all run_fits rs) fit in
    let whole : cells_of (r ∷ rs) ≡ r.count * r.size + cells_of rs = cells_cons r rs in
    let product : 0 < r.count * r.size = product_some r.count r.size (run_count r parts.0) (run_size r parts.0) in
    omega (arith, whole, product)
  where
    run_size : (r : SectorRun) → IsTrue (run_fits r) → 0 < r.size
    run_size r fits = grind (arith, nat_tests)

    run_count : (r : SectorRun) → IsTrue (run_fits r) → 0 < r.count
    run_count r fits = grind (arith, nat_tests)

    product_some : (a b : ℕ) → 0 < a → 0 < b → 0 < a * b
    product_some zero b some other = absurd (omega (arith, some))
    product_some (suc a) b some other = let whole : suc a * b ≡ b + a * b = grind arith in omega (arith, whole, other)

area_facts : (r : Region) → RegionFacts r → IsTrue (area_fits (area_of r))
area_facts r facts =
    let four : r.size % 4 ≡ 0 = let cells : cells_of r.sectors % 4 ≡ 0 = cells_four r.sectors facts.runs_fit in omega (arith, cells, facts.size) in
    let some : 0 < r.size = let cells : 0 < cells_of r.sectors = some_cells r.sectors facts.runs_fit facts.some_sector in omega (arith, cells, facts.size) in
    let unit : (r.unit ≡ 2) ⊎ (r.unit ≡ 4) = two_or_four r.unit facts.unit.least facts.unit.most facts.unit.multiple in
    grind (arith, nat_tests, facts.base.multiple, four, some, unit)
  where
    two_or_four : (u : ℕ) → 2 ≤ u → u ≤ 4 → u % 2 ≡ 0 → (u ≡ 2) ⊎ (u ≡ 4)
    two_or_four u least most even = grind (arith, least, most, even)

pub areas_fit : (regions : List Region) → IsTrue (list_all region_fits regions) → IsTrue (all_fit (areas_of regions))
areas_fit [] fit = refl
areas_fit (r ∷ rest) fit =
    let parts : (region_fits r ≡ true) × (list_all region_fits rest ≡ true) = and_parts (region_fits r) (list_all region_fits rest) fit in
    let first : IsTrue (area_fits (area_of r)) = area_facts r (region_facts r parts.0) in
    let later : IsTrue (all_fit (areas_of rest)) = areas_fit rest parts.1 in
    rw (first, later) refl

all_append : (a b : List SectorRun) → IsTrue (list_all run_fits a) → IsTrue (list_all run_fits b) → IsTrue (list_all run_fits (a ++ b))
all_append [] b first later = later
all_append (r ∷ a) b first later =
    let parts : (run_fits r ≡ true) × (list_all run_fits a ≡ true) = and_parts (run_fits r) (list_all run_fits a) first in
    rw (parts.0, all_append a b parts.1 later) refl

pub runs_fit : (regions : List Region) → IsTrue (list_all region_fits regions) → IsTrue (list_all run_fits (runs_of regions))
runs_fit [] fit = refl
runs_fit (r ∷ rest) fit =
    let parts : (region_fits r ≡ true) × (list_all region_fits rest ≡ true) = and_parts (region_fits r) (list_all region_fits rest) fit in
    all_append r.sectors (runs_of rest) (region_facts r parts.0).runs_fit (runs_fit rest parts.1)

pub same_cells : (regions : List Region) → IsTrue (list_all region_fits regions) → cells_of (runs_of regions) ≡ cells_in (areas_of regions)
same_cells [] fit = refl
same_cells (r ∷ rest) fit =
    let parts : (region_fits r ≡ true) × (list_all region_fits rest ≡ true) = and_parts (region_fits r) (list_all region_fits rest) fit in
    let both : cells_of (r.sectors ++ runs_of rest) ≡ cells_of r.sectors + cells_of (runs_of rest) = cells_append r.sectors (runs_of rest) in
    let size : r.size ≡ cells_of r.sectors = (region_facts r parts.0).size in
    let later : cells_of (runs_of rest) ≡ cells_in (areas_of rest) = same_cells rest parts.1 in
    omega (arith, both, size, later)

pub cells_sum : (regions : List Region) → cells_in (areas_of regions) ≡ sum_by (λ (r : Region). r.size) regions
cells_sum [] = refl
cells_sum (r ∷ rest) =
    let whole : sum_by (λ (q : Region). q.size) (r ∷ rest) ≡ r.size + sum_by (λ (q : Region). q.size) rest = sum_by-cons (λ (q : Region). q.size) r rest in
    let later : cells_in (areas_of rest) ≡ sum_by (λ (q : Region). q.size) rest = cells_sum rest in
    omega (arith, whole, later)

pub some_area : (regions : List Region) → 0 < length regions → 0 < length (areas_of regions)
some_area [] some = some
some_area (r ∷ rest) some = omega arith

-- when no region is left, these are the areas and the sectors of all regions
pub all_taken : (regions : List Region) (i : ℕ) (areas : List Area) (runs : List SectorRun) → drop i regions ≡ [] → Taken regions i areas runs
    → (areas ≡ areas_of regions) × (runs ≡ runs_of regions)
all_taken regions i areas runs nil so_far = (
  sym (append-nil areas) ∙ ap (λ (l : List Region). areas ++ areas_of l) (sym nil) ∙ so_far.areas_so_far,
  sym (append-nil runs) ∙ ap (λ (l : List Region). runs ++ runs_of l) (sym nil) ∙ so_far.runs_so_far,
)

-- what a layout requires of its areas and sectors
pub record LaysOut (areas : List Area) (runs : List SectorRun) : Type 0 where
  pub some_area : 0 < length areas
  pub areas_fit : IsTrue (all_fit areas)
  pub runs_fit : IsTrue (list_all run_fits runs)
  pub whole : cells_of runs ≡ cells_in areas
  pub few : cells_in areas < 2 ^ 32

pub lays_out : (regions : List Region) (areas : List Area) (runs : List SectorRun) → areas ≡ areas_of regions → runs ≡ runs_of regions
    → 0 < length regions → IsTrue (list_all region_fits regions) → sum_by (λ (r : Region). r.size) regions ≤ most_cells → LaysOut areas runs
lays_out regions areas runs same_areas same_runs some fit few =
    let sum : cells_in (areas_of regions) ≡ sum_by (λ (r : Region). r.size) regions = cells_sum regions in
    subst (λ (a : List Area). LaysOut a runs) (sym same_areas)
    (subst (λ (rs : List SectorRun). LaysOut (areas_of regions) rs) (sym same_runs)
    (record {
      some_area = some_area regions some;
      areas_fit = areas_fit regions fit;
      runs_fit = runs_fit regions fit;
      whole = same_cells regions fit;
      few = omega (arith, sum, few);
    }))
