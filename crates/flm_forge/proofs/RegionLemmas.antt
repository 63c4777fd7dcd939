-- The sectors of a region of a board have no more bytes than a board may have.
use Rattle.std.proofs.Common.{◌≡◌, ◌≤◌, ℕ, zero, suc, IsTrue, List, [], ◌∷◌, slice_get, Option, Some, subst, arith}
use Rattle.std.specs.List.{list_all}
use Rattle.std.proofs.lemmas.Bool.{and_parts}
use Rattle.board_file.specs.declared.region.Region.{Region}
use Rattle.board_file.specs.Limits.{region_fits, cells_of, most_cells}
use Rattle.board_file.proofs.Laws.{region_facts}

few_cells : (q r : Region) → ◌≡◌ {A = Option Region} (Some q) (Some r) → IsTrue (region_fits q) → cells_of r.sectors ≤ most_cells
few_cells q r same fit =
    let f = region_facts q fit in
    let is : q ≡ r = cc in
    let few : cells_of q.sectors ≤ most_cells = omega (arith, f.size, f.few_cells) in
    subst (λ (x : Region). cells_of x.sectors ≤ most_cells) is few

pub sectors_small : (regions : List Region) (i : ℕ) (r : Region) → IsTrue (list_all region_fits regions) → slice_get regions i ≡ Some r →
    cells_of r.sectors ≤ most_cells
sectors_small [] i r fit is = absurd cc
sectors_small (q ∷ qs) zero r fit is = few_cells q r is (and_parts (region_fits q) (list_all region_fits qs) fit).0
sectors_small (q ∷ qs) (suc i) r fit is = sectors_small qs i r (and_parts (region_fits q) (list_all region_fits qs) fit).1 is
