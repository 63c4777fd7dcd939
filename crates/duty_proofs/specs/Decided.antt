-- The table that a check of an algorithm fills: one run of each call from each state between calls.
use Rattle.std.specs.Prelude.{◌≡◌, ◌<◌, ◌≤◌, ◌+◌, ◌-◌, ◌^◌, ℕ, true, false, List, [], length, map, replicate, slice_index, slice_index_or, IsSome, Option, None}
use Rattle.flash_layout.specs.Areas.{cells_in}
use Rattle.flash_layout.specs.Maps.{board_map}
use Rattle.flm_descriptor.specs.Shape.{range_at}
use Rattle.flm_descriptor.specs.Shown.{Shown as AlgorithmShown}
use Rattle.board_file.specs.Shown.{Shown as BoardShown}
use Rattle.page_geometry.specs.Geometry.{IsGeometry}
use Rattle.page_geometry.specs.Ideal.{EraseChip, EraseSector, ProgramPage}
use Rattle.target_core.specs.Units.{fresh}
use Rattle.target_core.specs.World.{World}
use Rattle.target_core.specs.Path.{whole}
use Rattle.algo_calls.specs.declared.call.Call.{Call}
use Rattle.algo_calls.specs.declared.call.Call.TheVariants as call
use Rattle.algo_calls.specs.Setups.{Setup, setup_of}
use Rattle.algo_calls.specs.Frames.{asked, first_point, loaded}
use Rattle.algo_calls.specs.Duties.{Acting, device_of, place_of, ready, site_of}
use Rattle.shadow_step.specs.declared.marks.Mark.TheVariants.{Known, Page, Any}
use Rattle.shadow_step.specs.Marks.{is_known}
use Rattle.shadow_step.specs.Shadow.{Marks}
use Rattle.duty_proofs.specs.Kept.{IsKind}
use Rattle.duty_proofs.specs.declared.cells.CellMark.{CellMark}
use Rattle.duty_proofs.specs.declared.cells.CellMark.TheVariants.{Blank, Holds}
use Rattle.duty_proofs.specs.TargetMarks.{TargetMarks}
use Rattle.duty_proofs.specs.Starts.{forgotten, names}
use Rattle.duty_proofs.specs.Runs.{Ran, Weakens}

-- a target between two calls of the run at hand, with its marks
pub record State : Type 0 where
  pub marks : TargetMarks
  pub world : World

-- the marks of a state between calls have no names and say nothing of the cells, and no operation is open
pub record IsBetween (st : State) : Type 0 where
  pub idle : st.marks.state.operation ≡ None
  pub plain : (k : ℕ) → is_known (slice_index_or st.marks.ram k Any) ≡ false → slice_index_or st.marks.ram k Any ≡ Any
  pub none : st.marks.cells ≡ []
  pub zero' : st.marks.from ≡ 0

abbrev pub over : World → List ℕ → World
over w cells = record w { cells = cells }

-- the states between the calls of each kind of list: how many there are, and each by its number
pub record States : Type 0 where
  pub count : ℕ → ℕ
  pub state : ℕ → ℕ → State

-- what a run leaves fits one of the states of this kind
abbrev pub Enters : States → ℕ → TargetMarks → World → Type 0
Enters all kind m w = (i : ℕ) × (i < all.count kind) × Weakens m w (all.state kind i).marks (all.state kind i).world

-- one run of a call from a state, over the cells at hand and the marks of its place; the place has the marks `after` at its end
pub record Goes (s : Setup) (place : Option (ℕ × ℕ)) (st : State) (c : Call) (bytes : List ℕ) (from len : ℕ) (before : List CellMark) (after : ℕ → CellMark)
    (Then : TargetMarks → World → Type 0) : Type 0 where
  pub cells : List ℕ
  pub steps : ℕ
  pub end : Marks TargetMarks
  pub many : length cells ≡ length st.world.cells
  pub ran : Ran s place st.marks (over st.world cells) c bytes from before steps end
  pub from' : end.bus.from ≡ from
  pub all : (k : ℕ) → k < len → slice_index_or end.bus.cells k (Holds Any) ≡ after k
  pub then' : Then (forgotten end.bus) (whole (first_point s (over st.world cells) (asked c bytes)) steps).world

abbrev pub any_cell : CellMark
any_cell = Holds Any

-- the marks after a load of the algorithm: all is known but the cells
abbrev pub load_marks : BoardShown → AlgorithmShown → TargetMarks
load_marks b a = record {
  base = b.ram_base;
  map = board_map b;
  ram = replicate (length (loaded (setup_of a b))) Known;
  state = fresh b.kind;
  address = true;
  value = Known;
  from = 0;
  cells = [];
}

abbrev pub Anything : TargetMarks → World → Type 0
Anything m w = Unit {0}

-- the marks of cells that hold the bytes of the page
abbrev pub named_cells : ℕ → List CellMark
named_cells n = map Holds (names 0 n)

-- The table: one run of each call that may be asked for, from each state between calls.
pub record Decided (b : BoardShown) (a : AlgorithmShown) (region : ℕ) : Type 0 where
  pub all : States
  pub between : (kind i : ℕ) → i < all.count kind → IsBetween (all.state kind i)
  pub empty : a.device.empty ≡ 0xFF
  pub good : IsGeometry (device_of a)
  pub room : (site_of b a region).start + (device_of a).size ≤ cells_in (board_map b).areas
  pub sized : (kind i : ℕ) → i < all.count kind → length (all.state kind i).world.cells ≡ cells_in (board_map b).areas
  pub some_cells : 0 < (device_of a).size
  pub some : List ℕ
  pub some_long : length some ≡ cells_in (board_map b).areas
  pub idle : (load_marks b a).state.operation ≡ None
  pub begins : (kind : ℕ) → IsKind a kind → Goes (setup_of a b) None (record {
    marks = load_marks b a;
    world =
        ready b a some;
  }) (call.Init kind) [] 0 0 [] (λ k. any_cell) (Enters all kind)
  pub sector : (k i : ℕ) → k < length (device_of a).sectors → i < all.count 1
      → Goes (setup_of a b) (place_of (site_of b a region) (Acting (EraseSector k))) (all.state 1 i)
      (call.EraseSector (a.device.base + (range_at (device_of a).sectors k).start)) [] ((site_of b a region).start + (range_at (device_of a).sectors k).start)
      ((range_at (device_of a).sectors k).stop - (range_at (device_of a).sectors k).start)
      (replicate ((range_at (device_of a).sectors k).stop - (range_at (device_of a).sectors k).start) any_cell) (λ j. Blank) (Enters all 1)
  pub chip : (i : ℕ) → IsSome a.entries.erase_chip → i < all.count 1
      → Goes (setup_of a b) (place_of (site_of b a region) (Acting EraseChip)) (all.state 1 i) call.EraseChip [] ((site_of b a region).start + 0)
      ((device_of a).size - 0) (replicate ((device_of a).size - 0) any_cell) (λ j. Blank) (Enters all 1)
  pub page : (k i : ℕ) → k < length (device_of a).pages → i < all.count 2 → (bytes : List ℕ)
      × (length bytes ≡ (range_at (device_of a).pages k).stop - (range_at (device_of a).pages k).start) × ((j : ℕ) → slice_index bytes j < 2 ^ 8)
      × ((g : Goes (setup_of a b) (place_of (site_of b a region) (Acting (ProgramPage k bytes))) (all.state 2 i)
      (call.ProgramPage (a.device.base + (range_at (device_of a).pages k).start)) bytes ((site_of b a region).start + (range_at (device_of a).pages k).start)
      ((range_at (device_of a).pages k).stop - (range_at (device_of a).pages k).start)
      (replicate ((range_at (device_of a).pages k).stop - (range_at (device_of a).pages k).start) Blank) (λ j. Holds (Page 1 j)) (Enters all 2))
      × ((j : ℕ) → j < (range_at (device_of a).pages k).stop - (range_at (device_of a).pages k).start
      → slice_index g.cells ((site_of b a region).start + (range_at (device_of a).pages k).start + j) ≡ 0xFF))
  pub check : (k i : ℕ) → k < length (device_of a).pages → IsSome a.entries.verify → i < all.count 3 → (bytes : List ℕ)
      × (length bytes ≡ (range_at (device_of a).pages k).stop - (range_at (device_of a).pages k).start) × ((j : ℕ) → slice_index bytes j < 2 ^ 8)
      × ((g : Goes (setup_of a b) None (all.state 3 i) (call.Verify (a.device.base + (range_at (device_of a).pages k).start)) bytes
      ((site_of b a region).start + (range_at (device_of a).pages k).start) 0 (named_cells (length bytes)) (λ j. any_cell) (Enters all 3))
      × ((j : ℕ) → j < length bytes → slice_index g.cells ((site_of b a region).start + (range_at (device_of a).pages k).start + j) ≡ slice_index bytes j))
  pub ends : (kind i : ℕ) → IsKind a kind → i < all.count kind
      → Goes (setup_of a b) None (all.state kind i) (call.UnInit kind) [] 0 0 [] (λ k. any_cell) Anything
