-- The cells of a board as a map from address to byte.
use Rattle.std.specs.Prelude.{ℕ, List, [], ◌∷◌, take, drop}
use Rattle.board_file.specs.declared.region.Region.{Region}
use Rattle.byte_map.specs.Image.{addresses, Run, IsSameMap, AreMaximal}

-- the cells of a board as runs, one for each region: the first cells are those of the first region, and the others follow
abbrev pub cell_runs : List Region → List ℕ → List Run
cell_runs [] cells = []
cell_runs (r ∷ rs) cells = record { at = r.base; bytes = take r.size cells } ∷ cell_runs rs (drop r.size cells)

-- the map that has every cell at its address and nothing else, in runs that are each as long as possible
pub record IsMapOfCells (regions : List Region) (cells : List ℕ) (map : List Run) : Type 0 where
  pub maximal : AreMaximal 0 addresses map
  pub same : IsSameMap map (cell_runs regions cells)
