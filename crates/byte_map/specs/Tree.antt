-- What a side of a tree of runs means, and what inserting and removing make of it.
use Rattle.std.specs.Prelude.{◌≤◌, ◌<◌, ℕ, suc, List, [], ◌++◌, length, Option, Some, None, take, drop}
use Rattle.std.specs.Global.{Box}
use Rattle.byte_map.specs.Image.{Run, run_at}

-- the runs of a tree in order, and how many nodes it has
pub record Tree : Type 0 where
  pub runs : List Run
  pub nodes : ℕ

abbrev pub runs_of : Option (Box Tree) → List Run
runs_of None = []
runs_of (Some node) = node.value.runs

abbrev pub nodes_in : Option (Box Tree) → ℕ
nodes_in None = 0
nodes_in (Some node) = node.value.nodes

-- a list of runs with others inserted at a place
abbrev pub put_in : List Run → ℕ → List Run → List Run
put_in runs index new = take index runs ++ (new ++ drop index runs)

-- a list of runs without the one at a place
abbrev pub taken_out : List Run → ℕ → List Run
taken_out runs index = take index runs ++ drop (suc index) runs

-- the measure is below `limit` for the first `count` runs and for no other
pub record IsCut (measure : Run → ℕ) (runs : List Run) (limit count : ℕ) : Type 0 where
  pub within : count ≤ length runs
  pub below : (k : ℕ) → k < count → measure (run_at runs k) < limit
  pub others : (k : ℕ) → count ≤ k → k < length runs → limit ≤ measure (run_at runs k)
