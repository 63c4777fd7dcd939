-- Looking a sector up by one of its cells: how the search continues by one run, and where the result lies.
use Rattle.std.proofs.Common.{◌≡◌, ◌<◌, ◌≤◌, ℕ, ◌+◌, ◌-◌, ◌*◌, ◌/◌, true, false, IsTrue, nat_lt, List, [], ◌∷◌, length, drop, get_or, Option, Some, None}
use Rattle.std.proofs.Common.{option_map, IfSome, if◌then◌else◌, refl, sym, ap, subst, ◌∙◌, arith}
use Rattle.std.specs.List.{list_all}
use Rattle.std.proofs.lemmas.Bool.{and_parts}
use Rattle.std.proofs.lemmas.List.{drop_more}
use Rattle.std.proofs.lemmas.List.Sums.{sum_by-cons}
use Rattle.std.proofs.lemmas.Bool.Decides.{nat_tests}
use Rattle.board_file.specs.declared.sectors.SectorRun.{SectorRun}
use Rattle.board_file.specs.Limits.{run_fits, cells_of}
use Rattle.board_file.specs.Laws.{Sector, sector_at, moved, HasSector}
use Rattle.board_file.proofs.Laws.{has_sector}
use Rattle.flash_layout.specs.declared.area.SectorCells.{SectorCells}
use Rattle.flash_layout.specs.declared.area.Area.{Area}
use Rattle.flash_layout.specs.declared.area.Found.{Found}
use Rattle.flash_layout.specs.Areas.{cells_in, all_fit, find, sector_cells, sector_found, AreInside, FoundInside, HasSectorCells}
use Rattle.flash_layout.proofs.FindLemmas.{access_inside}

pub cells_cons : (r : SectorRun) (rs : List SectorRun) → cells_of (r ∷ rs) ≡ r.count * r.size + cells_of rs
cells_cons r rs = sum_by-cons (λ (q : SectorRun). q.count * q.size) r rs

-- the sector at a place of the runs that are left, counted from the first run on
abbrev pub left_sector : List SectorRun → ℕ → ℕ → Option Sector
left_sector left from place = option_map (moved from) (sector_at left (place - from))

-- what a loop over the runs has searched so far
pub record Passed (runs : List SectorRun) (place i from : ℕ) : Type 0 where
  pub same : left_sector (drop i runs) from place ≡ sector_at runs place
  pub rest : from + cells_of (drop i runs) ≡ cells_of runs
  pub fit : IsTrue (list_all run_fits (drop i runs))
  pub below : from ≤ place

moved_by_none : (o : Option Sector) → option_map (moved 0) o ≡ o
moved_by_none None = refl
moved_by_none (Some s) = let sum : 0 + s.start ≡ s.start = omega arith in ap (λ n. Some (record { start = n; size = s.size })) sum

pub passed_start : (runs : List SectorRun) (place : ℕ) → IsTrue (list_all run_fits runs) → Passed runs place 0 0
passed_start runs place fit =
    let whole : place - 0 ≡ place = omega arith in
    record {
      same = ap (λ n. option_map (moved 0) (sector_at runs n)) whole ∙ moved_by_none (sector_at runs place);
      rest = omega arith;
      fit = fit;
      below = omega arith;
    }

moved_twice : (a b : ℕ) (o : Option Sector) → option_map (moved a) (option_map (moved b) o) ≡ option_map (moved (a + b)) o
moved_twice a b None = refl
moved_twice a b (Some s) = let sum : a + (b + s.start) ≡ a + b + s.start = omega arith in ap (λ n. Some (record { start = n; size = s.size })) sum

test_false : (a b : ℕ) → b ≤ a → nat_lt a b ≡ false
test_false a b le = grind (arith, nat_tests)

test_true : (a b : ℕ) → a < b → nat_lt a b ≡ true
test_true a b lt = grind (arith, nat_tests)

sector_on : (r : SectorRun) (rest : List SectorRun) (from place : ℕ) → from + r.count * r.size ≤ place
    → left_sector (r ∷ rest) from place ≡ left_sector rest (from + r.count * r.size) place
sector_on r rest from place miss =
    let test : nat_lt (place - from) (r.count * r.size) ≡ false = test_false _ _ (omega (arith, miss)) in
    let less : place - from - r.count * r.size ≡ place - (from + r.count * r.size) = omega (arith, miss) in
    ap (λ b. option_map (moved from) (if b then Some (record { start = (place - from) / r.size * r.size; size = r.size })
    else option_map (moved (r.count * r.size)) (sector_at rest (place - from - r.count * r.size)))) test
    ∙ moved_twice from (r.count * r.size) (sector_at rest (place - from - r.count * r.size))
    ∙ ap (λ n. option_map (moved (from + r.count * r.size)) (sector_at rest n)) less

sector_first : (r : SectorRun) (rest : List SectorRun) (from place : ℕ) → from ≤ place → place < from + r.count * r.size
    → left_sector (r ∷ rest) from place ≡ Some (record { start = from + (place - from) / r.size * r.size; size = r.size })
sector_first r rest from place below hit =
    let test : nat_lt (place - from) (r.count * r.size) ≡ true = test_true _ _ (omega (arith, hit, below)) in
    ap (λ b. option_map (moved from) (if b then Some (record { start = (place - from) / r.size * r.size; size = r.size })
    else option_map (moved (r.count * r.size)) (sector_at rest (place - from - r.count * r.size)))) test

run_size : (r : SectorRun) → IsTrue (run_fits r) → 0 < r.size
run_size r fits = grind (arith, nat_tests)

fit_at : (r : SectorRun) (rest : List SectorRun) → IsTrue (list_all run_fits (r ∷ rest)) → IsTrue (run_fits r) × IsTrue (list_all run_fits rest)
fit_at r rest fit = and_parts (run_fits r) (list_all run_fits rest) fit

pub passed_size : (runs : List SectorRun) (place i from : ℕ) (d : SectorRun) → i < length runs → Passed runs place i from → 0 < (get_or runs i d).size
passed_size runs place i from d inside so_far =
    run_size (get_or runs i d) (fit_at (get_or runs i d) (drop (i + 1) runs)
    (subst (λ (l : List SectorRun). IsTrue (list_all run_fits l)) (drop_more runs i d inside) so_far.fit)).0

pub passed_cells : (runs : List SectorRun) (place i from : ℕ) (d : SectorRun) → i < length runs → Passed runs place i from
    → from + (get_or runs i d).count * (get_or runs i d).size ≤ cells_of runs
passed_cells runs place i from d inside so_far =
    let cells : cells_of (drop i runs) ≡ (get_or runs i d).count * (get_or runs i d).size + cells_of (drop (i + 1) runs) =
    ap cells_of (drop_more runs i d inside) ∙ cells_cons (get_or runs i d) (drop (i + 1) runs) in
    omega (arith, so_far.rest, cells)

pub passed_on : (runs : List SectorRun) (place i from : ℕ) (d : SectorRun) → i < length runs
    → from + (get_or runs i d).count * (get_or runs i d).size ≤ place → Passed runs place i from
    → Passed runs place (i + 1) (from + (get_or runs i d).count * (get_or runs i d).size)
passed_on runs place i from d inside miss so_far =
    let more : drop i runs ≡ get_or runs i d ∷ drop (i + 1) runs = drop_more runs i d inside in
    let cells : cells_of (drop i runs) ≡ (get_or runs i d).count * (get_or runs i d).size + cells_of (drop (i + 1) runs) =
    ap cells_of more ∙ cells_cons (get_or runs i d) (drop (i + 1) runs) in
    record {
      same = sym (ap (λ (l : List SectorRun). left_sector l from place) more ∙ sector_on (get_or runs i d) (drop (i + 1) runs) from place miss) ∙ so_far.same;
      rest = omega (arith, so_far.rest, cells);
      fit = (fit_at (get_or runs i d) (drop (i + 1) runs) (subst (λ (l : List SectorRun). IsTrue (list_all run_fits l)) more so_far.fit)).1;
      below = miss;
    }

pub passed_found : (runs : List SectorRun) (place i from : ℕ) (d : SectorRun) → i < length runs
    → place < from + (get_or runs i d).count * (get_or runs i d).size → Passed runs place i from
    → Some (record { start = from + (place - from) / (get_or runs i d).size * (get_or runs i d).size; size = (get_or runs i d).size }) ≡ sector_at runs place
passed_found runs place i from d inside hit so_far =
    let more : drop i runs ≡ get_or runs i d ∷ drop (i + 1) runs = drop_more runs i d inside in
    sym (sector_first (get_or runs i d) (drop (i + 1) runs) from place so_far.below hit)
    ∙ sym (ap (λ (l : List SectorRun). left_sector l from place) more) ∙ so_far.same

pub passed_none : (runs : List SectorRun) (place i from : ℕ) → drop i runs ≡ [] → Passed runs place i from → None ≡ sector_at runs place
passed_none runs place i from nil so_far = sym (ap (λ (l : List SectorRun). left_sector l from place) nil) ∙ so_far.same

cells_same : (a b : SectorCells) → Some a ≡ Some b → a ≡ b
cells_same a b same = cc

-- the sector of a cell lies among all cells
pub sector_inside : (runs : List SectorRun) (place empty cells : ℕ) (o : Option SectorCells) → IsTrue (list_all run_fits runs)
    → cells_of runs ≡ cells → place + 1 ≤ cells → o ≡ sector_cells empty (sector_at runs place) → IfSome o (λ s. AreInside cells s)
sector_inside runs place empty cells None fit whole less same = tt
sector_inside runs place empty cells (Some s) fit whole less same =
    let has : HasSector runs place = has_sector runs place fit (omega (arith, whole, less)) in
    let is : s ≡ record { place = has.sector.start; len = has.sector.size; empty = empty } =
    cells_same _ _ (same ∙ ap (sector_cells empty) has.is) in
    subst (λ (q : SectorCells). AreInside cells q) (sym is)
    (record { inside = omega (arith, has.inside, whole); some = omega (arith, has.from, has.to) })

-- an address in the flash has a sector
pub has_sector_cells : (areas : List Area) (runs : List SectorRun) (at : ℕ) (f : Found) → IsTrue (all_fit areas)
    → IsTrue (list_all run_fits runs) → cells_of runs ≡ cells_in areas → find areas 0 at ≡ Some f → HasSectorCells areas runs at f
has_sector_cells areas runs at f areas_fit runs_fit whole same =
    let inside : FoundInside areas at f = access_inside areas at f areas_fit same in
    let has : HasSector runs f.place = has_sector runs f.place runs_fit (omega (arith, whole, inside.byte)) in
    record {
      sector = record { place = has.sector.start; len = has.sector.size; empty = f.area.empty };
      is = ap (sector_found runs) same ∙ ap (sector_cells f.area.empty) has.is;
      holds = record { from = has.from; to = has.to; inside = omega (arith, has.inside, whole); empty = refl };
    }
