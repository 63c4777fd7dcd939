-- What a plan erases and programs, in numbers.
use Rattle.std.specs.Prelude.{ℕ, false, length, get_or, if◌then◌else◌}
use Rattle.page_geometry.specs.Cells.{count_below}
use Rattle.page_geometry.specs.Geometry.{Geometry}
use Rattle.erase_planner.specs.Plans.{Chosen}

-- how many sectors a plan erases: all 64 where it erases the chip
unfoldable pub erased : Geometry → Chosen → ℕ
erased l plan = if plan.chip then 64 else count_below (length l.sectors) (λ s. get_or plan.sectors s false)

-- how many pages a plan programs
unfoldable pub programmed : Geometry → Chosen → ℕ
programmed l plan = count_below (length l.pages) (λ p. get_or plan.pages p false)
