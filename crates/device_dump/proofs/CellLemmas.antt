-- Cells as a map, region by region, for `map_of_cells` and for the law that a dump is read as its cells.
use Rattle.std.proofs.Common.{◌≡◌, ◌<◌, ◌≤◌, ◌+◌, ◌-◌, ◌∙◌, sym, ap, refl, arith, ℕ, Bool, true, false, cond, List, [], ◌∷◌, length, get_or, take, drop, Option}
use Rattle.std.proofs.Common.{Some, None}
use Rattle.std.specs.Prelude.{slice_range}
use Rattle.std.proofs.lemmas.List.{drop_all, drop_more, drop-drop}
use Rattle.std.proofs.lemmas.List.Sums.{sum_by-drop_more}
use Rattle.board_file.specs.Limits.{size_of}
use Rattle.board_file.specs.declared.region.Region.{Region}
use Rattle.byte_map.specs.Image.{addresses, Run, holds, byte_of, byte_at, AreMaximal}
use Rattle.byte_map.specs.Laying.{Lays}
use Rattle.byte_map.proofs.OneList.{one_list}
use Rattle.byte_map.proofs.Runs.{or_else, held_to}
use Rattle.device_dump.specs.CellMaps.{cell_runs, IsMapOfCells}

-- cells have one map
pub one_map : (regions : List Region) (cells : List ℕ) (a b : List Run) → IsMapOfCells regions cells a → IsMapOfCells regions cells b → a ≡ b
one_map regions cells a b one two = one_list 0 addresses a b one.maximal two.maximal (λ x. one.same x ∙ sym (two.same x))

-- a region has its own size in cells, and the regions after it have the rest
pub cells_more : (regions : List Region) (i : ℕ) (d : Region) → i < length regions
    → size_of (drop i regions) ≡ (get_or regions i d).size + size_of (drop (i + 1) regions)
cells_more regions i d less = sum_by-drop_more (λ (r : Region). r.size) regions i d less

-- The cells of the first regions are in the map, and those from a place on are left for the other regions.
pub record IsMapSoFar (regions : List Region) (cells : List ℕ) (i place : ℕ) (map : List Run) : Type 0 where
  pub maximal : AreMaximal 0 addresses map
  pub rest : (a : ℕ) → or_else (byte_at map a) (byte_at (cell_runs (drop i regions) (drop place cells)) a) ≡ byte_at (cell_runs regions cells) a
  pub left : place + size_of (drop i regions) ≡ length cells

pub none_mapped : (regions : List Region) (cells : List ℕ) → length cells ≡ size_of regions → IsMapSoFar regions cells 0 0 []
none_mapped regions cells all =
    let same : size_of (drop 0 regions) ≡ size_of regions = refl in record { maximal = tt; rest = λ a. refl; left = omega (arith, all, same) }

-- a byte of a piece, with an old one that agrees with it, and the bytes of the others
laid_by : (b : ℕ) (rest : Option ℕ) (h : Bool) (old : Option ℕ) → ((byte : ℕ) → h ≡ true → old ≡ Some byte → byte ≡ b)
    → or_else (cond h (Some b) old) rest ≡ or_else old (cond h (Some b) rest)
laid_by b rest true None agrees = refl
laid_by b rest true (Some byte) agrees = ap (λ (n : ℕ). Some n) (sym (agrees byte refl refl))
laid_by b rest false old agrees = refl

laid_byte : (piece : Run) (map new rest : List Run) (a : ℕ) → Lays piece map new
    → or_else (byte_at new a) (byte_at rest a) ≡ or_else (byte_at map a) (byte_at (piece ∷ rest) a)
laid_byte piece map new rest a lays =
    ap (λ (o : Option ℕ). or_else o (byte_at rest a)) (lays.union a)
    ∙ laid_by (byte_of piece a) (byte_at rest a) (holds piece a) (byte_at map a)
    (λ byte held is. let to = held_to piece a held in lays.agrees a byte (omega (arith, to, lays.fits)) held is)

-- the cells of one more region are in the map
pub one_mapped : (regions : List Region) (cells : List ℕ) (i place end : ℕ) (region d : Region) (map new : List Run) → i < length regions
    → region ≡ get_or regions i d
    → end ≡ place + region.size → IsMapSoFar regions cells i place map → Lays (record { at = region.base; bytes = slice_range cells place end }) map new
    → IsMapSoFar regions cells (i + 1) end new
one_mapped regions cells i place end region d map new less here is so_far lays =
    let piece : Run = record { at = region.base; bytes = slice_range cells place end } in
    let later = cell_runs (drop (i + 1) regions) (drop end cells) in
    let size : end - place ≡ region.size = omega (arith, is) in
    let own : (get_or regions i d).size ≡ region.size = ap (λ (r : Region). r.size) (sym here) in
    let behind : drop region.size (drop place cells) ≡ drop end cells = drop-drop region.size place cells ∙ ap (λ (n : ℕ). drop n cells) (sym is) in
    let runs : cell_runs (drop i regions) (drop place cells) ≡ piece ∷ later =
    ap (λ (rs : List Region). cell_runs rs (drop place cells)) (drop_more regions i d less ∙ ap (λ (r : Region). r ∷ drop (i + 1) regions) (sym here))
    ∙ ap (λ (n : ℕ). record { at = region.base; bytes = take n (drop place cells) } ∷ cell_runs (drop (i + 1) regions) (drop region.size (drop place cells)))
    (sym size)
    ∙ ap (λ (cs : List ℕ). piece ∷ cell_runs (drop (i + 1) regions) cs) behind in
    record {
      maximal = lays.maximal;
      rest = λ a. laid_byte piece map new later a lays
          ∙ ap (λ (rs : List Run). or_else (byte_at map a) (byte_at rs a)) (sym runs) ∙ so_far.rest a;
      left = omega (arith, so_far.left, cells_more regions i d less, own, is);
    }

-- the cells of the next region are there
pub mapped_within : (regions : List Region) (cells : List ℕ) (i place : ℕ) (d : Region) (map : List Run) → i < length regions
    → IsMapSoFar regions cells i place map
    → place + (get_or regions i d).size ≤ length cells
mapped_within regions cells i place d map less so_far = omega (arith, so_far.left, cells_more regions i d less)

or_none : (o : Option ℕ) → or_else o None ≡ o
or_none None = refl
or_none (Some byte) = refl

-- the cells of all regions are in the map
pub all_mapped : (regions : List Region) (cells : List ℕ) (i place : ℕ) (map : List Run) → length regions ≤ i
    → IsMapSoFar regions cells i place map → IsMapOfCells regions cells map
all_mapped regions cells i place map past so_far = record {
  maximal = so_far.maximal;
  same = λ a. sym (or_none (byte_at map a)) ∙ ap (λ (rs : List Region). or_else (byte_at map a) (byte_at (cell_runs rs (drop place cells)) a))
      (sym (drop_all i regions past))
      ∙ so_far.rest a;
}
