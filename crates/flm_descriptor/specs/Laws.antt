-- What holds for every geometry: where the pieces of a range are, and which page has a number.
use Rattle.std.specs.Prelude.{◌≡◌, ℕ, ◌+◌, ◌*◌, ◌/◌, ◌%◌, ◌<◌, List, length}
use Rattle.flm_descriptor.specs.declared.geometry.Run.{Run}
use Rattle.flm_descriptor.specs.Shape.{Range, cut, pages_of, piece, pieces, range_at}

-- these ranges cut the places from `start` to `stop` into pieces of `step` bytes: exactly those that begin before `stop`
pub record AreCut (step start stop : ℕ) (ranges : List Range) : Type 0 where
  pub count : length ranges ≡ pieces step start stop
  pub begins : (k : ℕ) → k < pieces step start stop → start + k * step < stop
  pub all : (k : ℕ) → start + k * step < stop → k < pieces step start stop
  pub at : (k : ℕ) → k < pieces step start stop → range_at ranges k ≡ piece step start stop k

-- sector `k` of a run
abbrev pub sector_of : Run → ℕ → Range
sector_of run k = piece run.step run.start run.stop k

-- how many pages a full sector of a run has
abbrev pub pages_each : ℕ → Run → ℕ
pages_each page run = pieces page 0 run.step

-- page `q` of a run, by division by the pages of a full sector: the quotient is its sector, the remainder its number there
pub record IsByDivision (page : ℕ) (run : Run) (q : ℕ) : Type 0 where
  pub sector : q / pages_each page run < pieces run.step run.start run.stop
  pub number : q % pages_each page run < pieces page (sector_of run (q / pages_each page run)).start (sector_of run (q / pages_each page run)).stop
  pub is : range_at (pages_of page (cut run.step run.start run.stop)) q
      ≡ piece page (sector_of run (q / pages_each page run)).start (sector_of run (q / pages_each page run)).stop (q % pages_each page run)
