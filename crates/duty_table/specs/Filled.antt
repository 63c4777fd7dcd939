-- The table of an algorithm: what must hold of the calls of one function, of a kind of list, and of the whole.
use Rattle.std.specs.Prelude.{◌≡◌, ◌<◌, ◌+◌, ◌-◌, ◌^◌, ℕ, List, [], length, replicate, get_or, slice_index, All, IsSome, None}
use Rattle.flash_layout.specs.Areas.{cells_in}
use Rattle.flash_layout.specs.Maps.{board_map}
use Rattle.flm_descriptor.specs.Shape.{Range, range_at}
use Rattle.flm_descriptor.specs.Shown.{Shown as AlgorithmShown}
use Rattle.board_file.specs.Shown.{Shown as BoardShown}
use Rattle.page_geometry.specs.Ideal.{EraseChip, EraseSector, ProgramPage}
use Rattle.target_core.specs.World.{World}
use Rattle.algo_calls.specs.declared.call.Call.{Call}
use Rattle.algo_calls.specs.declared.call.Call.TheVariants as call
use Rattle.algo_calls.specs.Setups.{setup_of}
use Rattle.algo_calls.specs.Duties.{Acting, device_of, place_of, ready, site_of}
use Rattle.shadow_step.specs.declared.marks.Mark.TheVariants.{Page}
use Rattle.duty_trials.specs.declared.list.Work.{Work}
use Rattle.duty_trials.specs.declared.list.Work.TheVariants as work
use Rattle.duty_trials.specs.Lists.{count_of, kind_in}
use Rattle.duty_proofs.specs.declared.cells.CellMark.TheVariants.{Blank, Holds}
use Rattle.duty_proofs.specs.TargetMarks.{TargetMarks}
use Rattle.duty_proofs.specs.Runs.{Weakens}
use Rattle.duty_proofs.specs.Decided.{Anything, Goes, IsBetween, State, any_cell, load_marks, named_cells}

-- the target after a load: its RAM and registers are known, its cells aren't
abbrev pub load_state : BoardShown → AlgorithmShown → State
load_state b a = record { marks = load_marks b a; world = ready b a (replicate (cells_in (board_map b).areas) 0) }

-- the state at place `i` of a list, or the state after a load where the list is too short
abbrev pub state_at : BoardShown → AlgorithmShown → List State → ℕ → State
state_at b a l i = get_or l i (load_state b a)

-- the target that a run leaves is one that some state of a list allows
abbrev pub EntersOne : BoardShown → AlgorithmShown → List State → TargetMarks → World → Type 0
EntersOne b a l m w = (i : ℕ) × (i < length l) × Weakens m w (state_at b a l i).marks (state_at b a l i).world

-- A call from a state returns, opens no operation on the cells, and nothing is wanted of the cells before or after it. `T` holds of
-- the target that it leaves.
abbrev pub GoesQuiet : BoardShown → AlgorithmShown → State → Call → (TargetMarks → World → Type 0) → Type 0
GoesQuiet b a st c T = Goes (setup_of a b) None st c [] 0 0 [] (λ k. any_cell) T

-- the sector with number `k` of an algorithm's device: its first place and the place after its last
abbrev pub sector_of : AlgorithmShown → ℕ → Range
sector_of a k = range_at (device_of a).sectors k

-- the page with number `k` of an algorithm's device: its first place and the place after its last
abbrev pub page_of : AlgorithmShown → ℕ → Range
page_of a k = range_at (device_of a).pages k

-- A call that erases sector `k` returns, its operations stay in this sector, and each cell of the sector is erased at the end.
abbrev pub GoesSector : BoardShown → AlgorithmShown → ℕ → ℕ → State → (TargetMarks → World → Type 0) → Type 0
GoesSector b a region k st T =
    let r : Range = sector_of a k in
    Goes (setup_of a b) (place_of (site_of b a region) (Acting (EraseSector k))) st (call.EraseSector (a.device.base + r.start)) []
    ((site_of b a region).start + r.start) (r.stop - r.start) (replicate (r.stop - r.start) any_cell) (λ j. Blank) T

-- A call that erases the whole device returns, its operations stay in the device's cells, and each of these cells is erased at the end.
abbrev pub GoesChip : BoardShown → AlgorithmShown → ℕ → State → (TargetMarks → World → Type 0) → Type 0
GoesChip b a region st T =
    Goes (setup_of a b) (place_of (site_of b a region) (Acting EraseChip)) st call.EraseChip [] ((site_of b a region).start + 0) ((device_of a).size - 0)
    (replicate ((device_of a).size - 0) any_cell) (λ j. Blank) T

-- A call that programs page `k`, whose cells are erased before it, returns. Its operations stay in this page, and each cell of the page
-- holds its byte at the end. The run is made with some bytes of the right number.
abbrev pub GoesPage : BoardShown → AlgorithmShown → ℕ → ℕ → State → (TargetMarks → World → Type 0) → Type 0
GoesPage b a region k st T =
    let r : Range = page_of a k in
    (bytes : List ℕ) × (length bytes ≡ r.stop - r.start) × ((j : ℕ) → slice_index bytes j < 2 ^ 8)
    × ((g : Goes (setup_of a b) (place_of (site_of b a region) (Acting (ProgramPage k bytes))) st (call.ProgramPage (a.device.base + r.start)) bytes
    ((site_of b a region).start + r.start) (r.stop - r.start) (replicate (r.stop - r.start) Blank) (λ j. Holds (Page 1 j)) T)
    × ((j : ℕ) → j < r.stop - r.start → slice_index g.cells ((site_of b a region).start + r.start + j) ≡ 0xFF))

-- A call that verifies page `k`, whose cells hold the bytes, returns and opens no operation on the cells.
abbrev pub GoesCheck : BoardShown → AlgorithmShown → ℕ → ℕ → State → (TargetMarks → World → Type 0) → Type 0
GoesCheck b a region k st T =
    let r : Range = page_of a k in
    (bytes : List ℕ) × (length bytes ≡ r.stop - r.start) × ((j : ℕ) → slice_index bytes j < 2 ^ 8)
    × ((g : Goes (setup_of a b) None st (call.Verify (a.device.base + r.start)) bytes ((site_of b a region).start + r.start) 0
    (named_cells (length bytes)) (λ j. any_cell) T)
    × ((j : ℕ) → j < length bytes → slice_index g.cells ((site_of b a region).start + r.start + j) ≡ slice_index bytes j))

-- The call of a function on the sector or page with number `k` does what this function must do.
abbrev pub GoesOn : BoardShown → AlgorithmShown → ℕ → Work → ℕ → State → (TargetMarks → World → Type 0) → Type 0
GoesOn b a region work.Sectors k st T = GoesSector b a region k st T
GoesOn b a region work.Chip k st T = GoesChip b a region st T
GoesOn b a region work.Pages k st T = GoesPage b a region k st T
GoesOn b a region work.Checks k st T = GoesCheck b a region k st T

-- Each call of a function does what it must from each state of a list, and the target that it leaves is one that some state of the list
-- allows.
abbrev pub FillsWork : BoardShown → AlgorithmShown → ℕ → Work → List State → Type 0
FillsWork b a region w l = (i : ℕ) → i < length l → (k : ℕ) → k < count_of (device_of a) w → GoesOn b a region w k (state_at b a l i) (EntersOne b a l)

-- a state between calls, over as many cells as the board has
pub record IsState (b : BoardShown) (st : State) : Type 0 where
  pub between : IsBetween st
  pub sized : length st.world.cells ≡ cells_in (board_map b).areas

-- each state of a list is a state between calls of this board
abbrev pub AreStates : BoardShown → List State → Type 0
AreStates b l = All (IsState b) l

-- The table of a kind of list is filled by a list of states. Init leads from the target after a load to one of the states. Each call of the
-- list's function leads from each state to one of them, and UnInit returns from each. EraseChip is a call of lists that erase.
pub record FillsList (b : BoardShown) (a : AlgorithmShown) (region : ℕ) (w : Work) (l : List State) : Type 0 where
  pub states : AreStates b l
  pub begins : GoesQuiet b a (load_state b a) (call.Init (kind_in w)) (EntersOne b a l)
  pub works : FillsWork b a region w l
  pub chip : w ≡ work.Sectors → IsSome a.entries.erase_chip → FillsWork b a region work.Chip l
  pub ends : (i : ℕ) → i < length l → GoesQuiet b a (state_at b a l i) (call.UnInit (kind_in w)) Anything

-- The whole table is filled by the states of each kind of list: lists that erase, lists that program, and lists that verify where the
-- algorithm has a function for it.
pub record FillsAll (b : BoardShown) (a : AlgorithmShown) (region : ℕ) (erasing programming verifying : List State) : Type 0 where
  pub empty : a.device.empty ≡ 0xFF
  pub erases : FillsList b a region work.Sectors erasing
  pub programs : FillsList b a region work.Pages programming
  pub states : AreStates b verifying
  pub verifies : IsSome a.entries.verify → FillsList b a region work.Checks verifying
