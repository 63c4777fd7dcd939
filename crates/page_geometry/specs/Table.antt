-- The tables of a geometry: the runs of sectors, and for each run its start and the numbers of its first sector and page.
use Rattle.std.specs.Prelude.{◌≡◌, ℕ, ◌+◌, ◌<◌, ◌≤◌, min, length, List, slice_index}
use Rattle.flm_descriptor.specs.declared.geometry.Run.{Run}
use Rattle.flm_descriptor.specs.Shape.{sectors_of, pages_of, run_at, sectors_before, pages_before}
use Rattle.page_geometry.specs.Geometry.{Geometry, IsGeometry}

-- the device whose sectors lie in these runs
abbrev pub runs_geometry : ℕ → ℕ → List Run → Geometry
runs_geometry size page runs = record { size = size; sectors = sectors_of runs; pages = pages_of page (sectors_of runs) }

-- the runs rise from place 0; each ends where the next one starts, and the last one at the device's end
pub record AreRuns (size : ℕ) (runs : List Run) (starts : List ℕ) : Type 0 where
  pub some : 1 ≤ length runs
  pub steps : (k : ℕ) → k < length runs → 1 ≤ (run_at runs k).step
  pub long : length starts ≡ length runs
  pub each : (k : ℕ) → k < length runs → slice_index starts k ≡ (run_at runs k).start
  pub rise : (i j : ℕ) → i ≤ j → j < length starts → slice_index starts i ≤ slice_index starts j
  pub zero : slice_index starts 0 ≡ 0
  pub stops_next : (k : ℕ) → k + 1 < length runs → (run_at runs k).stop ≡ min (slice_index starts (k + 1)) size
  pub stops_last : (k : ℕ) → k + 1 ≡ length runs → (run_at runs k).stop ≡ size

-- the table of each run's first sector number
pub record AreFirstSectors (runs : List Run) (firsts : List ℕ) : Type 0 where
  pub some : 1 ≤ length runs
  pub steps : (k : ℕ) → k < length runs → 1 ≤ (run_at runs k).step
  pub long : length firsts ≡ length runs
  pub each : (k : ℕ) → k < length runs → slice_index firsts k ≡ sectors_before runs k

-- the table of each run's first page number
pub record AreFirstPages (page : ℕ) (runs : List Run) (firsts : List ℕ) : Type 0 where
  pub page_some : 1 ≤ page
  pub some : 1 ≤ length runs
  pub steps : (k : ℕ) → k < length runs → 1 ≤ (run_at runs k).step
  pub long : length firsts ≡ length runs
  pub each : (k : ℕ) → k < length runs → slice_index firsts k ≡ pages_before page runs k

-- the tables belong to these runs, and are within the limits
pub record IsTable (size page : ℕ) (runs : List Run) (starts first_sectors first_pages : List ℕ) (sectors pages : ℕ) : Type 0 where
  pub page_some : 1 ≤ page
  pub page_limit : page ≤ 65536
  pub size_limit : size ≤ 16777216
  pub are_runs : AreRuns size runs starts
  pub are_sectors : AreFirstSectors runs first_sectors
  pub are_pages : AreFirstPages page runs first_pages
  pub sectors_are : sectors ≡ length (sectors_of runs)
  pub pages_are : pages ≡ length (pages_of page (sectors_of runs))
  pub sectors_limit : sectors ≤ 65536
  pub pages_limit : pages ≤ 1048576
  pub good : IsGeometry (runs_geometry size page runs)
