-- The operations that controllers begin.
use Rattle.std.specs.Prelude.{ℕ, Bool, ◌==◌, List, [], ◌∷◌, Option, Some, None}
use Rattle.std.specs.List.{list_all}
use Rattle.flash_layout.specs.declared.area.Area.{Area}
use Rattle.flash_layout.specs.declared.area.SectorCells.{SectorCells}
use Rattle.flash_layout.specs.declared.work.Operation.{Operation}
use Rattle.flash_layout.specs.declared.work.Work.TheVariants as work
use Rattle.flash_layout.specs.Areas.{sector_of}
use Rattle.flash_layout.specs.Maps.{FlashMap}
use Rattle.flash_driver.specs.declared.state.Effect.{Effect}
use Rattle.flash_driver.specs.declared.state.Effect.TheVariants as effect

-- the operation that erases a sector
abbrev pub erases : ℕ → Option SectorCells → Option Operation
erases ticks None = None
erases ticks (Some sector) = Some (record { work = work.Fill sector.len sector.empty; place = sector.place; ticks = ticks })

-- the operation that erases the sector with this address
abbrev pub erases_sector : FlashMap → ℕ → Option Operation
erases_sector map at = erases map.erase_ticks (sector_of map.areas map.runs at)

-- the operation that erases all cells of the first area
abbrev pub erases_area : ℕ → List Area → Option Operation
erases_area ticks [] = None
erases_area ticks (a ∷ rest) = Some (record { work = work.Fill a.size a.empty; place = 0; ticks = ticks })

abbrev pub erases_first : FlashMap → Option Operation
erases_first map = erases_area map.chip_ticks map.areas

-- the effect of a store that only changes the registers
abbrev pub becomes : {R : Type 0} → R → Effect × R
becomes r = (effect.Taken, r)

-- the effect of a store that begins an operation, if there is one; each case leaves its own registers
abbrev pub begins_or : {R : Type 0} → Option Operation → R → R → Effect × R
begins_or None r other = becomes other
begins_or (Some o) r other = (effect.Begins o, r)

-- all of these cells hold this byte
abbrev pub all_are : ℕ → List ℕ → Bool
all_are empty bytes = list_all (λ b. b == empty) bytes
